-- One system follows another: after the same calls it has the same numbers and the same answers, and what the demands look at is the same,
-- wherever the counts name it. Then it meets every demand that the other meets.
-- Assumes nothing.
use Rattle.std.specs.Prelude.{ℕ, ◌<◌, ◌≡◌}
use Rattle.model.specs.Parts.{Counts, Version, Write}
use Rattle.paper.specs.declared.answer.Payload.{Payload}
use Rattle.paper.specs.Calls.{Call, write}
use Rattle.model.specs.System.{System}

-- the state s of S is seen as the state t of T
pub record Alike (π : Counts) (S T : System) (s : S.State) (t : T.State) : Type 0 where
  pub number : (q : Call) → S.number s q ≡ T.number t q
  pub answer : (q : Call) → S.answer s q ≡ T.answer t q
  pub home : (c : ℕ) → c < π.crews → S.home s c ≡ T.home t c
  pub crew : (c x : ℕ) → c < π.crews → x < π.depots → S.crew s c x ≡ T.crew t c x
  pub clock : (d r : ℕ) → d < π.depots → r < π.shelves → S.clock s d r ≡ T.clock t d r
  pub stable : (d r x : ℕ) → d < π.depots → r < π.shelves → x < π.depots → S.stable s d r x ≡ T.stable t d r x
  pub seen : (d r x : ℕ) → d < π.depots → r < π.shelves → x < π.depots → (x ≡ d → ⊥) → S.seen s d r x ≡ T.seen t d r x
  pub held : (d r o : ℕ) → d < π.depots → r < π.shelves → o < π.depots → (o ≡ d → ⊥) → S.held s d r o ≡ T.held t d r o
  pub taken : (d r o : ℕ) → d < π.depots → r < π.shelves → o < π.depots → (o ≡ d → ⊥) → S.taken s d r o ≡ T.taken t d r o
  pub coming : (d r o : ℕ) → d < π.depots → r < π.shelves → o < π.depots → (o ≡ d → ⊥) → S.coming s d r o ≡ T.coming t d r o
  pub store : (d k : ℕ) → d < π.depots → k < π.bearings → S.store s d k ≡ T.store t d k
  pub makes_to : (q : Call) (c : ℕ) (w : Write) → T.number t q ≡ 0 → S.makes s q c w → T.makes t q c w
  pub makes_from : (q : Call) (c : ℕ) (w : Write) → T.number t q ≡ 0 → T.makes t q c w → S.makes s q c w
  pub gets_to : (q : Call) (c k : ℕ) (v : Version) → T.number t q ≡ 0 → S.gets s q c k v → T.gets t q c k v
  pub gets_from : (q : Call) (c k : ℕ) (v : Version) → T.number t q ≡ 0 → T.gets t q c k v → S.gets s q c k v
  -- what is done, and what waits, names what there is
  pub reads : (q : Call) (c k : ℕ) (v : Version) → T.number t q ≡ 0 → T.gets t q c k v → (c < π.crews) × (k < π.bearings)
  pub writes : (q : Call) (c : ℕ) (w : Write) → T.number t q ≡ 0 → T.makes t q c w
      → (c < π.crews) × (w.bearing < π.bearings) × (w.version.origin < π.depots)
  pub waits : (c k : ℕ) (p : Payload) → T.number t (write c k p) ≡ 8 → c < π.crews
  pub housed : (c : ℕ) → c < π.crews → T.home t c < π.depots

pub record Follows (π : Counts) (S T : System) : Type 1 where
  pub Sees : S.State → T.State → Type 0
  pub start : Sees S.start T.start
  pub next : {s : S.State} {t : T.State} → Sees s t → (q : Call) → Sees (S.next s q) (T.next t q)
  pub alike : {s : S.State} {t : T.State} → Sees s t → Alike π S T s t
