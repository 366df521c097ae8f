-- Showing records is showing versions: the records of a depot, decoded and guarded, after copies are shown are what the model's showing makes of the
-- decoded store and the decoded copies; and the copies that stay are the same.
-- Assumes nothing.
use Prim.Native.Nat.{ℕ, ◌%◌, ◌<◌}
use mathlib.Core.Path.{◌≡◌, refl, sym, ◌∙◌, ap, ap₂, fun_ext, subst}
use mathlib.Core.Logic.{⊎_elim}
use mathlib.Core.Bool.{Bool, true, false, ◌&&◌}
use mathlib.Core.List.{List, [], ◌∷◌, map}
use lib.Dec.{eqb, ltb}
use borrow.Author.Tests.{lt-ltb, eq-eqb, eqb-true}
use Rattle.loops.specs.Loops.{pick}
use Rattle.order.specs.Order.{above}
use Rattle.order.specs.Record.{bearing_of, rank_of}
use Rattle.loops.proofs.BoolLaws.{decided, and_intro, and_right, pick_true, pick_false}
use Rattle.book.specs.Layout.{record_of}
use Rattle.shelf.proofs.SweepLaws.{staying, record_kept, records_shown}
use Rattle.shelf.proofs.AllLaws.{AllOf}
use Rattle.model.specs.Parts.{Counts, Version, Write, put, greater, unwritten}
use Rattle.model.specs.Rules.{keeping, shown_of, left}
use Rattle.bridge.specs.View.{version_of, write_of}
use Rattle.bridge.proofs.Basics.{pick_then, pick_ap}
use Rattle.bridge.proofs.Decoded.{version_greater}

-- the write that a copy's ten words hold
abbrev pub copied : ℕ → List ℕ → Write
copied n m = write_of n (record_of m)

-- those that stay
pub left_decoded : (n : ℕ) (test : Write → Bool) (check : List ℕ → Bool) → ((m : List ℕ) → test (copied n m) ≡ check m) → (l : List (List ℕ))
    → left test (map (copied n) l) ≡ map (copied n) (staying check l)
unfolding left staying
left_decoded n test check e [] = refl
left_decoded n test check e (m ∷ l) =
    ap₂ (λ (t : Bool) (r : List Write). pick t r (copied n m ∷ r)) (e m) (left_decoded n test check e l)
    ∙ sym (pick_ap (map (copied n)) (check m) (staying check l) (m ∷ staying check l))

module _ (π : Counts) where
  -- the records st of a depot, as its shelf s stores them
  unfoldable pub guarded : ℕ → (ℕ → List ℕ) → ℕ → Version
  guarded s st k = pick (ltb k π.bearings && eqb (k % π.shelves) s) (version_of π.depots (st k)) unwritten

  -- a copy of a bearing that lies on shelf s
  pub record LiesOn (s : ℕ) (m : List ℕ) : Type 0 where
    pub known : bearing_of (record_of m) < π.bearings
    pub lies : bearing_of (record_of m) % π.shelves ≡ s

  pub kept_guarded : (s : ℕ) (m : List ℕ) (st : ℕ → List ℕ) → LiesOn s m
      → keeping π.depots (copied π.depots m) (guarded s st) ≡ guarded s (record_kept π.depots (record_of m) st)
  unfolding keeping write_of put guarded record_kept
  kept_guarded s m st o = fun_ext λ k.
      ⊎_elim
      (λ (e : eqb k b ≡ true).
      pick_true _ _ e ∙ ap (λ (v : Version). greater n v (version_of n r)) (pick_true _ _ in_place) ∙ version_greater n (st b) r
      ∙ sym (pick_ap (version_of n) (above n (rank_of r) (rank_of (st b))) r (st b))
      ∙ sym
      (ap (λ (x : List ℕ). pick (ltb k π.bearings && eqb (k % π.shelves) s) (version_of n x) unwritten) (pick_true _ _ e)
      ∙ pick_true _ _ (subst (λ (x : ℕ). ltb x π.bearings && eqb (x % π.shelves) s ≡ true) (sym (eqb-true k b e)) in_place)))
      (λ (e : eqb k b ≡ false).
      pick_false _ _ e ∙ sym (ap (λ (x : List ℕ). pick (ltb k π.bearings && eqb (k % π.shelves) s) (version_of n x) unwritten) (pick_false _ _ e)))
      (decided (eqb k b))
    where
      n : ℕ
      n = π.depots

      r : List ℕ
      r = record_of m

      b : ℕ
      b = bearing_of (record_of m)

      in_place : (ltb (bearing_of (record_of m)) π.bearings && eqb (bearing_of (record_of m) % π.shelves) s) ≡ true
      in_place = and_intro (lt-ltb _ _ o.known) (eq-eqb _ _ o.lies)

  -- the shelf on which the copies' bearings lie
  pub shown_guarded : (s : ℕ) (test : Write → Bool) (check : List ℕ → Bool) → ((m : List ℕ) → test (copied π.depots m) ≡ check m) → (l : List (List ℕ)) → AllOf (LiesOn s) l
      → (st : ℕ → List ℕ) → shown_of π.depots test (map (copied π.depots) l) (guarded s st) ≡ guarded s (records_shown π.depots check l st)
  unfolding shown_of records_shown AllOf
  shown_guarded s test check e [] all st = refl
  shown_guarded s test check e (m ∷ l) all st =
      ap (shown_of π.depots test (map (copied π.depots) l))
      (ap₂ (λ (t : Bool) (f : ℕ → Version). pick t f (guarded s st)) (e m) (kept_guarded s m st all.0) ∙ sym (pick_ap (guarded s) (check m) _ st))
      ∙ shown_guarded s test check e l all.1 (pick (check m) (record_kept π.depots (record_of m) st) st)

  -- every other shelf of the depot
  pub kept_elsewhere : (s r : ℕ) (m : List ℕ) (st : ℕ → List ℕ) → (r ≡ s → ⊥) → LiesOn s m → guarded r (record_kept π.depots (record_of m) st) ≡ guarded r st
  unfolding guarded record_kept
  kept_elsewhere s r m st apart o = fun_ext λ k. pick_then (ltb k π.bearings && eqb (k % π.shelves) r) unwritten λ t.
      ap (version_of π.depots)
      (⊎_elim
      (λ (e : eqb k (bearing_of (record_of m)) ≡ true).
      absurd (apart (sym (eqb-true _ _ (and_right (ltb k π.bearings) _ t)) ∙ ap (λ (x : ℕ). x % π.shelves) (eqb-true _ _ e) ∙ o.lies)))
      (λ (e : eqb k (bearing_of (record_of m)) ≡ false). pick_false _ _ e)
      (decided (eqb k (bearing_of (record_of m)))))

  pub shown_elsewhere : (s r : ℕ) (check : List ℕ → Bool) (l : List (List ℕ)) → (r ≡ s → ⊥) → AllOf (LiesOn s) l → (st : ℕ → List ℕ)
      → guarded r (records_shown π.depots check l st) ≡ guarded r st
  unfolding records_shown AllOf
  shown_elsewhere s r check [] apart all st = refl
  shown_elsewhere s r check (m ∷ l) apart all st =
      shown_elsewhere s r check l apart all.1 (pick (check m) (record_kept π.depots (record_of m) st) st)
      ∙ pick_ap (guarded r) (check m) _ st
      ∙ ap (λ (f : ℕ → Version). pick (check m) f (guarded r st)) (kept_elsewhere s r m st apart all.0)
      ∙ Rattle.bridge.proofs.Basics.pick_same (check m) (guarded r st)
