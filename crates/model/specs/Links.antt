-- Nothing lost on a link: what is demanded of the links of a system, over every history of calls from its start. A history has its newest call first.
-- Assumes nothing.
use Rattle.std.specs.Prelude.{ℕ, ◌+◌, ◌≤◌, ◌<◌, ◌≡◌, Bool, true, length}
use mathlib.Core.List.{List, [], ◌∷◌, ◌++◌, Memᴰ}
use Rattle.loops.specs.Loops.{pick}
use Rattle.order.specs.Vector.{covered}
use Rattle.model.specs.Parts.{Counts, Version, Write}
use Rattle.model.specs.Rules.{left}
use Rattle.paper.specs.declared.answer.Payload.{Payload}
use Rattle.paper.specs.Calls.{Call, write, take}
use Rattle.model.specs.Calls.{shelf_of}
use Rattle.model.specs.System.{System, after}
use Rattle.model.specs.Demands.{AtLeast, Done, Wrote, Got, Made}

-- of copies, those that pass the test; `left` are the others
unfoldable pub passing : (Write → Bool) → List Write → List Write
passing test [] = []
passing test (w ∷ l) = pick (test w) (w ∷ passing test l) (passing test l)

module _ (π : Counts) (S : System) where
  -- call q, asked after history h, is an accepted write of shelf s of depot o: it is done, o is its crew's home at that moment, and its bearing lies on that shelf
  pub record Accepted (h : List Call) (q : Call) (o s : ℕ) : Type 0 where
    pub crew : ℕ
    pub bearing : ℕ
    pub payload : Payload
    pub asked : q ≡ write crew bearing payload
    pub passed : Done S h q
    pub home : S.home (after S h) crew ≡ o
    pub shelf : shelf_of π bearing ≡ s

  -- the copies put on every link out of shelf s of depot o in a history, oldest first: one for each accepted write there, of the version that it made
  pub data Sent (o s : ℕ) : List Call → List Write → Type 0 where
    begin : Sent o s [] []
    more : {h : List Call} {l : List Write} {q : Call} {w : Write} → Sent o s h l → (a : Accepted h q o s) → Wrote S h q a.crew w → Sent o s (q ∷ h) (l ++ (w ∷ []))
    same : {h : List Call} {l : List Write} {q : Call} → Sent o s h l → (Accepted h q o s → ⊥) → Sent o s (q ∷ h) l

  -- the write w was made at shelf s of depot o
  abbrev pub From : ℕ → ℕ → Write → Type 0
  From o s w = (w.version.origin ≡ o) × (shelf_of π w.bearing ≡ s)

  -- w is covered at shelf s of depot d after history h
  unfoldable pub covered_at : List Call → ℕ → ℕ → Write → Bool
  covered_at h d s w = covered π.depots d w.version.vector (S.stable (after S h) d s)

  -- the link of shelf s from depot o to depot d after history h, on which the copies l were put
  pub record Lossless (h : List Call) (d s o : ℕ) (l : List Write) : Type 0 where
    -- the copies taken from it since setup, oldest first
    pub taken : List Write
    -- those put on it are those taken, and then those not yet taken
    pub whole : l ≡ taken ++ S.coming (after S h) d s o
    -- of those taken it still holds the ones that are not covered at the far shelf, in their order
    pub held : S.taken (after S h) d s o ≡ left (covered_at h d s) taken
    -- so all that it holds is what was put on it and is not covered at the far shelf, in order
    pub holds : S.taken (after S h) d s o ++ S.coming (after S h) d s o ≡ left (covered_at h d s) l
    -- and the rest of those put on it, in order, are those taken and covered: nothing is covered that was not taken
    pub gone : passing (covered_at h d s) l ≡ passing (covered_at h d s) taken
    -- and by count: those put on it are those taken and covered, and those still held
    pub counted : length l ≡ length (passing (covered_at h d s) taken) + (length (S.taken (after S h) d s o) + length (S.coming (after S h) d s o))
    -- each that is covered is stored there, or a greater one
    pub shown : (w : Write) → Memᴰ w l → covered_at h d s w ≡ true → AtLeast π.depots (S.store (after S h) d w.bearing) w.version

  -- no link holds any copy
  pub record Bare (h : List Call) : Type 0 where
    pub taken : (d s o : ℕ) → d < π.depots → s < π.shelves → o < π.depots → (o ≡ d → ⊥) → S.taken (after S h) d s o ≡ []
    pub coming : (d s o : ℕ) → d < π.depots → s < π.shelves → o < π.depots → (o ≡ d → ⊥) → S.coming (after S h) d s o ≡ []

  pub record NothingLost : Type 0 where
    -- what is put on the links out of a shelf is a function of the history: there is such a list, and one only
    pub sent : (h : List Call) (o s : ℕ) → (l : List Write) × Sent o s h l
    pub one : (h : List Call) (o s : ℕ) (l m : List Write) → Sent o s h l → Sent o s h m → l ≡ m
    -- it has the writes made there: no other, and each
    pub sent_made : (h : List Call) (o s : ℕ) (l : List Write) (w : Write) → Sent o s h l → Memᴰ w l → Made S h w × From o s w
    pub made_sent : (h : List Call) (o s : ℕ) (l : List Write) (w : Write) → Sent o s h l → Made S h w → From o s w → Memᴰ w l
    -- only a take of the link that is done takes from the copies to come: the oldest, and one at most, for a heartbeat may stand before it; by every other call
    -- they stay, and more come behind them
    pub takes : (h : List Call) (d s o : ℕ) → d < π.depots → s < π.shelves → o < π.depots → (o ≡ d → ⊥) → Done S h (take d s o)
        → (l : List Write) × (length l ≤ 1) × (S.coming (after S h) d s o ≡ l ++ S.coming (after S (take d s o ∷ h)) d s o)
    pub stays : (h : List Call) (q : Call) (d s o : ℕ) → d < π.depots → s < π.shelves → o < π.depots → (o ≡ d → ⊥) → (q ≡ take d s o → Done S h q → ⊥)
        → (l : List Write) × (S.coming (after S (q ∷ h)) d s o ≡ S.coming (after S h) d s o ++ l)
    -- nothing is lost on a link
    pub lossless : (h : List Call) (d s o : ℕ) (l : List Write) → d < π.depots → s < π.shelves → o < π.depots → (o ≡ d → ⊥) → Sent o s h l → Lossless h d s o l
    -- where no link holds any copy, every depot stores each write made, or a greater one; all depots store the same version of each bearing; and whoever asks is
    -- answered with it
    pub all_stored : (h : List Call) → Bare h → (w : Write) → Made S h w → (d : ℕ) → d < π.depots → AtLeast π.depots (S.store (after S h) d w.bearing) w.version
    pub alike : (h : List Call) → Bare h → (d e k : ℕ) → d < π.depots → e < π.depots → k < π.bearings → S.store (after S h) d k ≡ S.store (after S h) e k
    pub answered : (h : List Call) → Bare h → (q : Call) (c k : ℕ) (v : Version) → Got S h q c k v → (d : ℕ) → d < π.depots → S.store (after S h) d k ≡ v
