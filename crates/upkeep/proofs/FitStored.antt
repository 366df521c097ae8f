-- Storing a fit version, and raising a crew's vector within its range, keep every part of the book.
-- Assumes nothing.
use Prim.Native.Nat.{ℕ, ◌+◌, ◌≤◌, ◌<◌}
use native.Mathlib.Nat.{max-le, le_of_eq}
use native.Mathlib.Omega.{arith}
use mathlib.Core.Path.{◌≡◌, refl, sym, ◌∙◌, ap, subst}
use mathlib.Core.Logic.{⊎_elim}
use mathlib.Core.List.{List}
use mathlib.Core.Bool.{true}
use lib.ListN.{length, get_or, set, length-set}
use lib.Seq.{get_or-set_same, get_or-set_other}
use Rattle.order.specs.Vector.{Vec, merged_at}
use Rattle.order.specs.Record.{bearing_of}
use Rattle.loops.proofs.BoolLaws.{eq_or_ne}
use Rattle.order.proofs.VectorLaws.{length_merged, merged_entry, merged_other}
use Rattle.book.specs.declared.parts.Counts.{Counts}
use Rattle.book.specs.Layout.{end, crew_at, stored_at, stored}
use Rattle.fit.specs.Fit.{kept_fit, Within}
use Rattle.shelf.specs.Show.{kept_in}
use Rattle.shelf.proofs.FrameLaws.{Off, off_sides, part_off, length_kept_in, kept_in_low}
use Rattle.shelf.proofs.SweepLaws.{kept_in_stored, kept_in_other}
use Rattle.shelf.proofs.AllLaws.{record_kept_all}
use Rattle.register.proofs.FitParts.{Whole}
use Rattle.register.proofs.FitMessage.{VersionOk, version_kept}
use Rattle.upkeep.proofs.FitFrame.{CrewOk, Keeps, crews_same, stored_same, keeps_off, keeps_whole}

pub crew_merged_off :
    (n : Counts) (l : List ℕ) (c : ℕ) (u : Vec) (j : ℕ) → Off (crew_at c) n.depots j →
    get_or (merged_at n.depots n.depots u (crew_at c) l) j 0 ≡ get_or l j 0
crew_merged_off n l c u j off = merged_other n.depots n.depots u (crew_at c) l j (off_sides (crew_at c) n.depots j off)

module _ (n : Counts) (l : List ℕ) (W : Within n) (full : length l ≡ 16384) where
  pub kept_in_keeps : (d : ℕ) (r : List ℕ) → d < n.depots → length r ≡ 9 → VersionOk n r → bearing_of r < n.bearings → Keeps n l (kept_in n.depots d r l)
  kept_in_keeps d r hd nine ok hb =
      let a = W.depots in
      let b = W.bearings in
      keeps_off n l _ W (length_kept_in n.depots d r l) (λ j x y. low j (omega arith))
      (crews_same n l (kept_in n.depots d r l) W (λ j x y. low j (omega arith))) (λ j x y. low j y)
      λ e k he hk.
      ⊎_elim
      (λ (p : e ≡ d). subst (λ (x : ℕ). kept_fit n k (stored l x k) ≡ true → kept_fit n k (stored (kept_in n.depots d r l) x k) ≡ true) (sym p) (own k))
      (λ (p : e ≡ d → ⊥). stored_same n l _ e k (kept_in_other n.depots d r l (le_of_eq nine) (omega arith) e k p (omega arith)))
      (eq_or_ne e d)
    where
      low : (j : ℕ) → j < 10596 → get_or (kept_in n.depots d r l) j 0 ≡ get_or l j 0
      low = kept_in_low n.depots d r l

      own : (k : ℕ) → kept_fit n k (stored l d k) ≡ true → kept_fit n k (stored (kept_in n.depots d r l) d k) ≡ true
      own k h =
          let a = W.depots in
          let b = W.bearings in
          ap (kept_fit n k) (kept_in_stored n.depots d r l nine (rw full (omega arith)) k)
          ∙ record_kept_all (λ j v. j ≡ k → kept_fit n k v ≡ true) n.depots r (stored l d) (λ e. version_kept n k r ok e)
          (λ j e. subst (λ (i : ℕ). kept_fit n k (stored l d i) ≡ true) (sym e) h) k refl

  -- a change of the vector of crew c alone, within its range
  crew_keeps :
      (m : List ℕ) (c : ℕ) → c < n.crews → length m ≡ length l → ((j : ℕ) → Off (crew_at c) n.depots j → get_or m j 0 ≡ get_or l j 0) →
      (CrewOk n l c → CrewOk n m c) → Keeps n l m
  crew_keeps m c hc size stays own =
      let a = W.depots in
      let b = W.crews in
      keeps_off n l m W size (λ j x y. stays j (omega arith))
      (λ e k h.
      ⊎_elim
      (λ (p : e ≡ c). subst (λ (j : ℕ). CrewOk n m j) (sym p) (own (subst (CrewOk n l) p h)))
      (λ (p : e ≡ c → ⊥) (x : ℕ) (z : x < n.depots). rw (stays (crew_at e + x) (omega arith)) (h x z))
      (eq_or_ne e c))
      (λ j x y. stays j (omega arith))
      λ d k hd hk. stored_same n l m d k (part_off m l (stored_at d k) 9 size λ j x y. stays j (omega arith))

  -- one entry of a crew's vector
  pub crew_set_keeps : (c x v : ℕ) → c < n.crews → x < n.depots → v ≤ end → Keeps n l (set l (crew_at c + x) v)
  crew_set_keeps c x v hc hx hv =
      let a = W.depots in
      let b = W.crews in
      crew_keeps _ c hc (length-set l _ v) (λ j off. get_or-set_other l (crew_at c + x) j v 0 (λ e. off (omega arith) (omega arith)))
      λ h y z.
      ⊎_elim
      (λ (p : y ≡ x).
      subst (λ (j : ℕ). get_or (set l (crew_at c + x) v) (crew_at c + j) 0 ≤ end) (sym p) (rw (get_or-set_same l (crew_at c + x) v 0 (rw full (omega arith))) hv))
      (λ (p : y ≡ x → ⊥). rw (get_or-set_other l (crew_at c + x) (crew_at c + y) v 0 (omega arith)) (h y z))
      (eq_or_ne y x)

  -- a crew's vector, merged with another in range
  pub crew_merged_keeps :
      (c : ℕ) (u : Vec) → c < n.crews → ((x : ℕ) → x < n.depots → u x ≤ end) → Keeps n l (merged_at n.depots n.depots u (crew_at c) l)
  crew_merged_keeps c u hc hu =
      let a = W.depots in
      let b = W.crews in
      crew_keeps _ c hc (length_merged n.depots n.depots u (crew_at c) l)
      (crew_merged_off n l c u)
      λ h y z.
      subst (λ (v : ℕ). v ≤ end) (sym (merged_entry n.depots n.depots u (crew_at c) l (rw full (omega arith)) y z (omega arith)))
      (max-le (h y z) (hu y z))

-- ---- the same of whole books

module _ (n : Counts) (l : List ℕ) (W : Whole n l) where
  pub kept_in_whole : (d : ℕ) (r : List ℕ) → d < n.depots → length r ≡ 9 → VersionOk n r → bearing_of r < n.bearings → Whole n (kept_in n.depots d r l)
  kept_in_whole d r hd nine ok hb = keeps_whole n l _ (kept_in_keeps n l W.within W.full d r hd nine ok hb) W

  pub crew_set_whole : (c x v : ℕ) → c < n.crews → x < n.depots → v ≤ end → Whole n (set l (crew_at c + x) v)
  crew_set_whole c x v hc hx hv = keeps_whole n l _ (crew_set_keeps n l W.within W.full c x v hc hx hv) W
