-- What an entry rests on in the log lies in its crew's past: by the first step back, which is to an earlier entry of the crew or to the write that is read.
-- Assumes nothing.
use Prim.Native.Nat.{ℕ, zero, suc, ◌≤◌, ◌<◌}
use native.Mathlib.Nat.{lt_of_lt_of_le, lt_of_le_of_lt, le_of_lt, le_refl}
use native.Mathlib.Omega.{arith}
use mathlib.Core.Path.{◌≡◌, refl, sym, ◌∙◌, ap, subst, subst₂}
use mathlib.Core.Logic.{◌⊎◌, inl, inr, ⊎_elim}
use mathlib.Core.List.{List, ◌∷◌, ◌++◌}
use mathlib.Core.Bool.{true, false}
use lib.ListN.{length, take}
use lib.Seq.{length-take-le, get_or-take}
use Rattle.loops.proofs.BoolLaws.{both_ways, eq_or_ne, le_or_lt}
use Rattle.order.specs.Vector.{zeros}
use Rattle.order.specs.Order.{above}
use Rattle.order.proofs.VectorLaws.{written_at}
use Rattle.order.proofs.OrderLaws.{above_irrefl, above_asym}
use Rattle.paper.specs.Calls.{Call}
use Rattle.model.specs.Parts.{Counts, Version, Write, rank, stamp, unwritten}
use Rattle.model.specs.Calls.{shelf_of}
use Rattle.model.specs.System.{System, after}
use Rattle.model.specs.Demands.{AtLeast, Wrote, Got, MadeAt, now, Made, Past, wrote, got, kept, under, Demand2}
use Rattle.chains.specs.Chain.{Grid, Chain, step, steps}
use Rattle.chains.proofs.Closing.{chain_from}
use Rattle.entries.specs.Rests.{rests_on}
use Rattle.passes.specs.Log.{Entry, nobody, nth, shown, words_of, Logged}
use Rattle.passes.proofs.LogLaws.{At, at_of, at_before, at_upto, tells, tells_write, tells_read, tells_kind, made_logged, made_later, past_later}
use Rattle.passes.proofs.WordLaws.{SameVersion, Lower, rests_is, shown_in}

-- what is used of a system besides demand 2
pub record Orderly (π : Counts) (S : System) : Type 0 where
  -- a write that was made comes from a depot that there is, and its shelf's clock has reached its stamp
  pub origin : (h : List Call) (w : Write) → Made S h w → w.version.origin < π.depots
  pub clock : (h : List Call) (w : Write) → Made S h w → stamp w.version ≤ S.clock (after S h) w.version.origin (shelf_of π w.bearing)
  -- a call makes one write, and one that makes a write answers with no version
  pub one : (h : List Call) (q : Call) (c b : ℕ) (v w : Write) → Wrote S h q c v → Wrote S h q b w → (c ≡ b) × (v ≡ w)
  pub apart : (h : List Call) (q : Call) (c b k : ℕ) (w : Write) (v : Version) → Wrote S h q c w → Got S h q b k v → ⊥
  -- no answer is lower than a write to that bearing in the crew's past, the call's other answers counted
  pub page : (h : List Call) (q : Call) (c k : ℕ) (v : Version) → Got S h q c k v → (w : Write) → w.bearing ≡ k → Past π S (q ∷ h) c w
      → AtLeast π.depots v w.version

-- the first step of a chain, and what is left
pub chain_first : {n : ℕ} {R : Grid} {i j : ℕ} → Chain n R i j → (m : ℕ) × (m < n) × (R i m ≡ true) × ((m ≡ j) ⊎ Chain n R m j)
chain_first (step {j = j} l m r) = (j, m, r, inl refl)
chain_first {n} {R} (steps {j = j} {k = k} c d) =
    let f = chain_first c in
    (f.0, f.1, f.2, inr (⊎_elim (λ (e : f.0 ≡ j). subst (λ (x : ℕ). Chain n R x k) (sym e) d) (λ r. steps r d) f.3))

module _ (π : Counts) (S : System) (few : π.depots ≤ 4) (demand : Demand2 π S) (orderly : Orderly π S) (es : List Entry) where
  abbrev e : ℕ → Entry
  e i = nth es i

  -- a write as it was made
  made_here : {h : List Call} {i : ℕ} (a : At S h es i) → (e i).kind ≡ 0 → MadeAt S h a.before (e i).crew (e i).write
  made_here {i = i} a k =
      subst (λ (g : List Call). MadeAt S g a.before (e i).crew (e i).write) (sym a.split) (made_later S a.later (now (tells_write S (tells S a) k)))

  made_of : {h : List Call} {i : ℕ} → At S h es i → (e i).kind ≡ 0 → Made S h (e i).write
  made_of a k = record { before = a.before; author = _; at = made_here a k }

  pub from_depot : {h : List Call} {i : ℕ} → At S h es i → (e i).kind ≡ 0 → (e i).write.version.origin < π.depots
  from_depot a k = orderly.origin _ _ (made_of a k)

  pub stamp_above_0 : {h : List Call} {i : ℕ} → At S h es i → (e i).kind ≡ 0 → 0 < stamp (e i).write.version
  stamp_above_0 a k = let s = (demand.writes _ _ _ _ (tells_write S (tells S a) k)).stamped in omega arith

  -- a write is the only entry of its call
  alone : {h : List Call} {i : ℕ} (a : At S h es i) → (e i).kind ≡ 0 → (m : ℕ) → m < i → m < a.first
  alone {i = i} a k m p =
      ⊎_elim
      (λ (q : a.first ≤ m). absurd (both q))
      (λ (q : m < a.first). q)
      (le_or_lt a.first m)
    where
      same : (x y : Entry) → x.kind ≡ y.kind → x.crew ≡ y.crew → x.write ≡ y.write → x ≡ y
      same x y p q r = λ i. record { kind = p i; crew = q i; write = r i }

      both : a.first ≤ m → ⊥
      both q =
          let t = a.mine m q (le_of_lt p) in
          ⊎_elim
          (λ (z : (e m).kind ≡ 0).
          let o = orderly.one _ _ _ _ _ _ (tells_write S t z) (tells_write S (tells S a) k) in
          a.once m i q p (le_refl _) z (same _ _ (z ∙ sym k) o.0 o.1))
          (λ (z : (e m).kind ≡ 0 → ⊥).
          let r : (e m).kind ≡ 1 = let l = tells_kind S t in omega (arith, z) in
          orderly.apart _ _ _ _ _ _ _ (tells_write S (tells S a) k) (tells_read S t r))
          (eq_or_ne (e m).kind 0)

  -- of two writes of one depot to one bearing the later has the higher stamp
  stamps_rise : {h : List Call} {j : ℕ} (a : At S h es j) → j < length es → (i : ℕ) → i < j → (e i).kind ≡ 0 → (e j).kind ≡ 0
      → (e i).write.bearing ≡ (e j).write.bearing → (e i).write.version.origin ≡ (e j).write.version.origin → stamp (e i).write.version < stamp (e j).write.version
  stamps_rise {j = j} a l i m ki kj b o =
      let low = orderly.clock _ _ (made_of (at_before S a l i (alone a kj i m)) ki) in
      let high = (demand.writes _ _ _ _ (tells_write S (tells S a) kj)).stamped in
      let same : S.clock (after S a.before) (e i).write.version.origin (shelf_of π (e i).write.bearing)
      ≡ S.clock (after S a.before) (e j).write.version.origin (shelf_of π (e j).write.bearing) =
      ap (λ (x : ℕ). S.clock (after S a.before) x (shelf_of π (e i).write.bearing)) o
      ∙ ap (λ (x : ℕ). S.clock (after S a.before) (e j).write.version.origin (shelf_of π x)) b in
      omega arith

  -- the stamp is among the words
  shown_stamp : (i j : ℕ) → SameVersion π es i j → (e j).write.version.origin < π.depots → stamp (e i).write.version ≡ stamp (e j).write.version
  shown_stamp i j s o =
      let v = s.entry (e j).write.version.origin (lt_of_lt_of_le o few) in
      ap (e i).write.version.vector s.origin ∙ sym (shown_in π (e i).write.version _ o) ∙ v ∙ shown_in π (e j).write.version _ o

  module _ {h : List Call} (log : Logged S h (take (length es) es)) where
    there : (i : ℕ) → i < length es → At S h es i
    there i l = at_of S es (length es) log (le_refl _) i l

    -- two writes of one version are one entry
    pub twins : (i j : ℕ) → i < length es → j < length es → (e i).kind ≡ 0 → SameVersion π es i j → i ≡ j
    twins i j l m k s =
        ⊎_elim
        (λ (p : i ≤ j).
        ⊎_elim
        (λ (q : j ≤ i). omega arith)
        (λ (q : i < j). let up = stamps_rise (there j m) m i q k s.write s.bearing s.origin in absurd (omega (arith, same)))
        (le_or_lt j i))
        (λ (p : j < i). let up = stamps_rise (there i l) l j p s.write k (sym s.bearing) (sym s.origin) in absurd (omega (arith, same)))
        (le_or_lt i j)
      where
        same : stamp (e i).write.version ≡ stamp (e j).write.version
        same = shown_stamp i j s (from_depot (there j m) s.write)

    -- a read of what was written has its write among the entries before it, and it is the only one
    pub read_made : {g : List Call} {i : ℕ} (a : At S g es i) → i < length es → (e i).kind ≡ 1
        → ((e i).write.version ≡ unwritten) ⊎ ((m : ℕ) × (m < i) × ((e m).kind ≡ 0) × ((e m).write ≡ (e i).write))
    read_made {i = i} a l k =
        ⊎_elim inl
        (λ (made : Made S a.before (e i).write).
        let w = made_logged S a.logged made.at in
        let f : w.0 < a.first = let t = length-take-le a.first es (le_of_lt (lt_of_le_of_lt a.since l)) in omega (arith, w.1) in
        let here : e w.0 ≡ record { kind = 0; crew = made.author; write = (e i).write } = sym (get_or-take a.first es w.0 nobody f) ∙ w.2 in
        inr (w.0, omega (arith, f, a.since), ap (λ (x : Entry). x.kind) here, ap (λ (x : Entry). x.write) here))
        (demand.reads _ _ _ _ _ (tells_read S (tells S a) k)).written

    pub record Source (i m : ℕ) : Type 0 where
      pub lower : m < i
      pub same : (e m).write ≡ (e i).write
      pub written : zeros π.depots (e m).write.version.vector ≡ false

    pub source_is : {g : List Call} {i : ℕ} (a : At S g es i) → i < length es → (e i).kind ≡ 1 → (m : ℕ) → m < length es → SameVersion π es i m → Source i m
    unfolding unwritten
    source_is {i = i} a l k m n s =
        ⊎_elim
        (λ (z : (e i).write.version ≡ unwritten). absurd (nothing z))
        (λ (w : (m : ℕ) × (m < i) × ((e m).kind ≡ 0) × ((e m).write ≡ (e i).write)).
        let one : w.0 ≡ m = twins w.0 m (omega (arith, w.1)) n w.2 (as_version w.0 w.3) in
        record {
          lower = omega (arith, w.1, one);
          same = ap (λ (x : ℕ). (e x).write) (sym one) ∙ w.3;
          written = written_at π.depots _ (e m).write.version.origin (from_depot (there m n) s.write) (stamp_above_0 (there m n) s.write);
        })
        (read_made a l k)
      where
        nothing : (e i).write.version ≡ unwritten → ⊥
        nothing z =
            let up = stamp_above_0 (there m n) s.write in
            let same = shown_stamp i m s (from_depot (there m n) s.write) in
            let none = ap (λ (v : Version). stamp v) z in
            omega arith

        as_version : (x : ℕ) → (e x).write ≡ (e i).write → SameVersion π es x m
        as_version x q = record {
          write = s.write;
          bearing = ap (λ (w : Write). w.bearing) q ∙ s.bearing;
          origin = ap (λ (w : Write). w.version.origin) q ∙ s.origin;
          entry = λ y t. ap (λ (w : Write). shown π w.version y) q ∙ s.entry y t;
        }

    -- ---- the past

    abbrev Rests : ℕ → ℕ → Type 0
    Rests i j = Chain (length es) (rests_on (words_of π es)) i j

    -- what is claimed of entry i, at any moment at which it was made: a write that it rests on is then in its crew's past
    abbrev Claim : ℕ → Type 0
    Claim i = (g : List Call) (a : At S g es i) (j : ℕ) → Rests i j → (e j).kind ≡ 0 → Past π S (a.asked ∷ a.before) (e i).crew (e j).write

    -- by way of an entry m of the crew that was made by then
    by_crew : {g : List Call} {m : ℕ} (b : At S g es m) (c : ℕ) → c ≡ (e m).crew → (j : ℕ) → (m ≡ j) ⊎ Rests m j → (e j).kind ≡ 0 → Claim m → Past π S g c (e j).write
    by_crew {g} {m} b c o j t k claim =
        subst₂ (λ (g : List Call) (x : ℕ). Past π S g x (e j).write) (sym b.split) (sym o)
        (past_later S π b.later
        (⊎_elim
        (λ (q : m ≡ j).
        subst (λ (x : ℕ). Past π S (b.asked ∷ b.before) (e m).crew (e x).write) q (wrote (tells_write S (tells S b) (ap (λ (x : ℕ). (e x).kind) q ∙ k))))
        (λ (r : Rests m j). claim g b j r k)
        t))

    -- what a write rests on was in its author's past when it was made
    before_write : {g : List Call} {i : ℕ} (a : At S g es i) → i < length es → (e i).kind ≡ 0 → (j : ℕ) → Rests i j → (e j).kind ≡ 0
        → ((m : ℕ) → m < i → Claim m) → Past π S a.before (e i).crew (e j).write
    before_write {i = i} a l w j r k claims =
        let f = chain_first r in
        ⊎_elim
        (λ (c : (f.0 < i) × ((e i).crew ≡ (e f.0).crew)).
        by_crew (at_before S a l f.0 (alone a w f.0 c.0)) (e i).crew c.1 j f.3 k (claims f.0 c.0))
        (λ (c : ((e i).kind ≡ 1) × SameVersion π es i f.0). absurd (omega (arith, w, c.0)))
        (rests_is π es i f.0 l f.1 f.2)

    rests_past : (n i : ℕ) → i < n → i < length es → Claim i
    rests_past zero i p l g a j r k = absurd (omega arith)
    rests_past (suc n) i p l g a j r k =
        let f = chain_first r in
        ⊎_elim
        (λ (c : (f.0 < i) × ((e i).crew ≡ (e f.0).crew)).
        by_crew (at_upto S a l f.0 c.0) (e i).crew c.1 j f.3 k (rests_past n f.0 (omega (arith, c.0)) f.1))
        (λ (c : ((e i).kind ≡ 1) × SameVersion π es i f.0).
        let s = source_is a l c.0 f.0 f.1 c.1 in
        let b = at_upto S a l f.0 s.lower in
        let read : Past π S (a.asked ∷ a.before) (e i).crew (e f.0).write =
        got (subst (λ (w : Write). Got S a.before a.asked (e i).crew w.bearing w.version) (sym s.same) (tells_read S (tells S a) c.0)) s.written in
        ⊎_elim
        (λ (q : f.0 ≡ j). subst (λ (x : ℕ). Past π S (a.asked ∷ a.before) (e i).crew (e x).write) q read)
        (λ (t : Rests f.0 j).
        under read (made_here b c.1.write)
        (before_write b f.1 c.1.write j t k (λ m q. rests_past n m (omega (arith, q, s.lower)) (omega (arith, q, f.1)))))
        f.3)
        (rests_is π es i f.0 l f.1 f.2)

    -- no read is lower than a write that it rests on
    pub no_lower : (i j : ℕ) → Rests i j → Lower π es i j → ⊥
    no_lower i j r low =
        at_least (orderly.page _ _ _ _ _ (tells_read S (tells S a) low.read) (e j).write low.bearing (rests_past (length es) i l l h a j r low.write))
      where
        l : i < length es
        l = chain_from r

        a : At S h es i
        a = there i l

        at_least : AtLeast π.depots (e i).write.version (e j).write.version → ⊥
        at_least (inl q) =
            both_ways low.lower (ap (λ (v : Version). above π.depots (rank (e j).write.version) (rank v)) q ∙ above_irrefl π.depots (rank (e j).write.version))
        at_least (inr q) = both_ways low.lower (above_asym π.depots _ _ q)
