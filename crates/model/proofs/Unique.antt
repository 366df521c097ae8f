-- A write's stamp is above every stamp given before on its shelf, so no two writes share one; hence a stored version that is not below a write
-- to its bearing is that write's, or a greater one.
-- Assumes nothing.
use Prim.Native.Nat.{ℕ, suc, ◌≤◌, ◌<◌}
use native.Mathlib.Omega.{arith}
use mathlib.Core.Path.{◌≡◌, refl, sym, subst, subst₂, ap, ◌∙◌}
use mathlib.Core.Logic.{◌⊎◌, inl, inr, ⊎_elim}
use mathlib.Core.Bool.{true, false}
use mathlib.Core.List.{List, [], ◌∷◌, ◌++◌}
use Rattle.order.specs.Vector.{zeros}
use Rattle.order.specs.Order.{above}
use Rattle.loops.proofs.BoolLaws.{both_ways, decided}
use Rattle.order.proofs.VectorLaws.{written_at}
use Rattle.order.proofs.OrderLaws.{above_total, above_written}
use Rattle.model.specs.Parts.{Counts, Version, Write, rank, stamp, unwritten}
use Rattle.paper.specs.Calls.{Call, write, tick}
use Rattle.model.specs.Calls.{shelf_of, made}
use Rattle.model.specs.System.{of_model, run}
use Rattle.model.specs.Demands.{Wrote, MadeAt, now, earlier, Made, AtLeast}
use Rattle.model.proofs.Places.{put_same}
use Rattle.model.proofs.Showing.{AtMost}
use Rattle.model.proofs.Invariant.{unwritten_zeros}
use Rattle.model.proofs.Refusals.{SetUp}
use Rattle.model.proofs.Histories.{made_cases, made_never, inv, history_grows}

module _ (π : Counts) (homes : List ℕ) where
  -- what the last call wrote has the new clock of its shelf for its stamp
  pub wrote_stamp : {h : List Call} {q : Call} {c : ℕ} {w : Write} → Wrote (of_model π homes) h q c w
      → stamp w.version ≡ suc ((run π homes h).shelf w.version.origin (shelf_of π w.bearing)).clock
  unfolding made
  wrote_stamp {h} {q} {c} {w} t = subst (λ (v : Version). stamp v ≡ suc ((run π homes h).shelf v.origin (shelf_of π w.bearing)).clock) (sym t.makes.2) (put_same _ _ _)

  -- two writes that the last call wrote are one
  pub wrote_one : {h : List Call} {q : Call} {b c : ℕ} {v w : Write} → Wrote (of_model π homes) h q b v → Wrote (of_model π homes) h q c w → v ≡ w
  wrote_one {h} {q} {b} {c} {v} {w} s t =
      let one : q ≡ write b v.bearing s.makes.0 = s.makes.1 in
      let two : q ≡ write c w.bearing t.makes.0 = t.makes.1 in
      let bearing : v.bearing ≡ w.bearing = cc in
      let version : v.version ≡ w.version = cc (s.makes.2, t.makes.2) in
      λ i. record { bearing = bearing i; version = version i }

  module _ (u : SetUp π homes) where
    -- what the last call wrote has a stamp above any made before on its shelf
    wrote_later : {h : List Call} {q : Call} {c : ℕ} {v w : Write} → Wrote (of_model π homes) h q c w → Made (of_model π homes) h v → v.version.origin ≡ w.version.origin
        → shelf_of π v.bearing ≡ shelf_of π w.bearing → stamp v.version < stamp w.version
    wrote_later {h} {v = v} {w = w} t m origin shelf =
        let low : stamp v.version ≤ ((run π homes h).shelf w.version.origin (shelf_of π w.bearing)).clock
        = subst₂ (λ d s. stamp v.version ≤ ((run π homes h).shelf d s).clock) origin shelf ((inv π homes u h).good v m).clock in
        let new = wrote_stamp t in
        omega arith

    -- a write after a tick of its shelf has a stamp above the clock after that tick
    pub beats : (l h : List Call) (d s : ℕ) (q : Call) (c : ℕ) (w : Write) → Wrote (of_model π homes) (l ++ (tick d s ∷ h)) q c w → w.version.origin ≡ d → shelf_of π w.bearing ≡ s
        → ((run π homes (tick d s ∷ h)).shelf d s).clock < stamp w.version
    beats l h d s q c w t origin shelf =
        let up = (history_grows π homes u l (tick d s ∷ h)).clock d s in
        let new : stamp w.version ≡ suc ((run π homes (l ++ (tick d s ∷ h))).shelf d s).clock
        = subst₂ (λ d' s'. stamp w.version ≡ suc ((run π homes (l ++ (tick d s ∷ h))).shelf d' s').clock) origin shelf (wrote_stamp t) in
        omega arith

    pub unique : (h : List Call) (v w : Write) → Made (of_model π homes) h v → Made (of_model π homes) h w → v.version.origin ≡ w.version.origin → shelf_of π v.bearing ≡ shelf_of π w.bearing
        → stamp v.version ≡ stamp w.version → v ≡ w
    unique [] v w m n origin shelf same = absurd (made_never π homes m)
    unique (q ∷ h) v w m n origin shelf same = ⊎_elim
        (λ s. ⊎_elim (λ t. wrote_one s.1 t.1) (λ n. absurd (let late = wrote_later s.1 n (sym origin) (sym shelf) in omega arith)) (made_cases π homes n))
        (λ m. ⊎_elim (λ t. absurd (let late = wrote_later t.1 m origin shelf in omega arith)) (λ n. unique h v w m n origin shelf same) (made_cases π homes n))
        (made_cases π homes m)

    made_written : (h : List Call) (w : Write) → Made (of_model π homes) h w → zeros π.depots w.version.vector ≡ false
    made_written h w m = written_at π.depots w.version.vector w.version.origin ((inv π homes u h).good w m).rests.depot (positive m.at)
      where
        positive : {f g : List Call} {c : ℕ} → MadeAt (of_model π homes) f g c w → 0 < stamp w.version
        positive (now t) = let new = wrote_stamp t in omega arith
        positive (earlier t) = positive t

    -- a version that is not below a write made to its bearing, and is unwritten or was made itself
    pub at_least : (h : List Call) (v : Version) (w : Write) → Made (of_model π homes) h w → AtMost π.depots w.version v
        → (v ≡ unwritten) ⊎ Made (of_model π homes) h (record { bearing = w.bearing; version = v }) → AtLeast π.depots v w.version
    at_least h v w m low from = ⊎_elim
        (λ (e : v ≡ unwritten). absurd (both_ways (above_written π.depots (rank w.version) (rank v) (made_written h w m) (unwritten_zeros π.depots e)) low.holds))
        (λ n. ⊎_elim
        (λ (e : above π.depots (rank v) (rank w.version) ≡ true). inr e)
        (λ (e : above π.depots (rank v) (rank w.version) ≡ false). inl (same n e))
        (decided (above π.depots (rank v) (rank w.version))))
        from
      where
        same : Made (of_model π homes) h (record { bearing = w.bearing; version = v }) → above π.depots (rank v) (rank w.version) ≡ false → v ≡ w.version
        same n e =
            let it : Write = record { bearing = w.bearing; version = v } in
            let equal = above_total π.depots (rank v) (rank w.version) (made_written h it n) (made_written h w m) e low.holds in
            let stamps : stamp v ≡ stamp w.version = equal.0 v.origin ((inv π homes u h).good it n).rests.depot ∙ ap w.version.vector equal.1 in
            ap (λ (x : Write). x.version) (unique h it w n m equal.1 refl stamps)
