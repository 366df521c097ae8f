-- The version that a write makes, in the words and in the model; and storing it if greater.
-- Assumes nothing.
use Prim.Native.Nat.{ℕ, suc, ◌%◌, ◌≤◌, ◌<◌}
use native.Mathlib.Nat.{le_of_eq}
use native.Mathlib.Numerals.{add-one}
use native.Mathlib.Omega.{arith}
use mathlib.Core.Path.{◌≡◌, sym, ◌∙◌, ap, fun_ext, subst}
use mathlib.Core.Logic.{⊎_elim}
use mathlib.Core.Bool.{true, false}
use mathlib.Core.List.{List, ◌∷◌}
use lib.Dec.{ltb}
use lib.ListN.{length, get_or}
use borrow.Author.Tests.{ltb-true, ltb-false, ne_eqb, eq-eqb}
use Rattle.loops.specs.Loops.{pick}
use Rattle.order.specs.Vector.{Vec, zeros}
use Rattle.order.specs.Record.{vector_of}
use Rattle.loops.proofs.BoolLaws.{decided, pick_true, pick_false, eq_or_ne}
use Rattle.order.proofs.VectorLaws.{written_at}
use Rattle.book.specs.Layout.{copy_kind, clock_at, stable_at, home, clock, stored, record_of}
use Rattle.fit.specs.Fit.{fit}
use Rattle.shelf.specs.Show.{kept_in}
use Rattle.shelf.proofs.FrameLaws.{length_kept_in, kept_in_low, kept_in_off}
use Rattle.shelf.proofs.SweepLaws.{record_kept, kept_in_stored}
use Rattle.register.specs.Calls.{new_stamp, made_vector, made_record}
use Rattle.register.proofs.MadeLaws.{made_entry}
use Rattle.paper.specs.declared.answer.Payload.{Payload}
use Rattle.model.specs.Parts.{Counts, Version, Write, copy, put}
use Rattle.model.specs.Rules.{keeping, storing, keep}
use Rattle.model.proofs.Places.{put_same, put_other}
use Rattle.bridge.specs.View.{counts_in, entries_at, write_of, message_of, store_at, shelf_at, view_by, view}
use Rattle.bridge.proofs.Basics.{same_entries, shelf_path}
use Rattle.bridge.proofs.Sound.{Sound, sound}
use Rattle.bridge.proofs.Looks.{shelf_here, crew_here}
use Rattle.bridge.proofs.Kept.{seen_kept, links_kept}
use Rattle.bridge.proofs.Decoded.{version_written}
use Rattle.bridge.proofs.Moved.{view_moved}
use Rattle.bridge.proofs.ShowView.{guarded, LiesOn, kept_guarded, kept_elsewhere}
use Rattle.bridge.proofs.HomeView.{kd, crew_agrees}

-- ---- the version

module _ (l : List ℕ) (F : fit l ≡ true) (c k : ℕ) (payload : Payload) (kc : c < (counts_in l).crews) where
  -- its vector: the crew's, with the home entry set to the new clock
  unfoldable pub new_vector : Vec
  new_vector = put (home l c) (suc (clock l (home l c) (k % (counts_in l).shelves))) ((view l).crew c)

  pub new_own : new_vector (home l c) ≡ new_stamp l c k
  unfolding new_vector
  new_own = put_same (home l c) _ _ ∙ sym (add-one _)

  pub new_other : (x : ℕ) → (x ≡ home l c → ⊥) → new_vector x ≡ (view l).crew c x
  unfolding new_vector
  new_other x e = put_other (home l c) _ _ x e

  pub new_beyond : (x : ℕ) → (counts_in l).depots ≤ x → new_vector x ≡ 0
  unfolding view entries_at
  new_beyond x h =
      let g = kd l F c k kc in
      new_other x (omega arith) ∙ ap (λ (u : Vec). u x) (crew_here (counts_in l) l c kc) ∙ pick_false _ _ (borrow.Author.Tests.le-ltb x _ h)

  made_is : (x : ℕ) → x < (counts_in l).depots → vector_of (made_record l c k payload) x ≡ new_vector x
  unfolding made_vector
  made_is x h =
      made_entry l c k payload x (sound l F).small.depots h
      ∙ ⊎_elim
      (λ (e : x ≡ home l c). pick_true _ _ (eq-eqb x _ e) ∙ sym new_own ∙ ap new_vector (sym e))
      (λ (e : x ≡ home l c → ⊥). pick_false _ _ (ne_eqb x _ e) ∙ crew_agrees l F c k kc x h ∙ sym (new_other x e))
      (eq_or_ne x (home l c))

  made_entries : entries_at (counts_in l).depots (made_record l c k payload) 5 ≡ new_vector
  unfolding entries_at
  made_entries = fun_ext λ x.
      ⊎_elim
      (λ (e : ltb x (counts_in l).depots ≡ true). pick_true _ _ e ∙ made_is x (ltb-true x _ e))
      (λ (e : ltb x (counts_in l).depots ≡ false). pick_false _ _ e ∙ sym (new_beyond x (ltb-false x _ e)))
      (decided (ltb x (counts_in l).depots))

  pub made_written : zeros (counts_in l).depots (vector_of (made_record l c k payload)) ≡ false
  made_written =
      let h = kd l F c k kc in
      written_at (counts_in l).depots _ (home l c) h (subst (λ (x : ℕ). 0 < x) (sym (made_is (home l c) h ∙ new_own)) (omega arith))

  -- the write
  abbrev pub new_write : Write
  new_write = record { bearing = k; version = record { payload = payload; origin = home l c; vector = new_vector } }

  pub made_write : write_of (counts_in l).depots (made_record l c k payload) ≡ new_write
  unfolding write_of made_record
  made_write =
      ap (λ (v : Version). record { bearing = k; version = v }) (version_written (counts_in l).depots (made_record l c k payload) made_written)
      ∙ ap (λ (u : Vec). record { bearing = k; version = record { payload = payload; origin = home l c; vector = u } }) made_entries

  pub made_message_of : message_of (counts_in l).depots (copy_kind ∷ made_record l c k payload) ≡ copy new_write
  unfolding message_of pick
  made_message_of = ap (λ (r : List ℕ). copy (write_of (counts_in l).depots r)) (Rattle.register.proofs.MadeLaws.made_record_of l c k payload) ∙ ap copy made_write

-- ---- storing if greater

module _ (π : Counts) (l : List ℕ) (S : Sound π l) (d s : ℕ) (kd : d < π.depots) (ks : s < π.shelves) (m : List ℕ) (nine : length (record_of m) ≡ 9) (lies : LiesOn π s m) where
  v : List ℕ
  v = kept_in π.depots d (record_of m) l

  size : length v ≡ length l
  unfolding v
  size = length_kept_in π.depots d (record_of m) l

  low : (j : ℕ) → j < 10596 → get_or v j 0 ≡ get_or l j 0
  unfolding v
  low = kept_in_low π.depots d (record_of m) l

  records : stored v d ≡ record_kept π.depots (record_of m) (stored l d)
  unfolding v
  records = fun_ext λ k.
      let a = S.small.depots in let b = S.small.bearings in let c = lies.known in let f = S.full in
      kept_in_stored π.depots d (record_of m) l nine (omega arith) k

  here : shelf_at π v d s ≡ storing π.depots (write_of π.depots (record_of m)) (shelf_at π l d s)
  unfolding storing shelf_at
  here =
      let a = S.small.depots in let b = S.small.shelves in
      let t = links_kept π l v size d s (λ o k. let c = k.below in let L = S.links s o d ks k.below kd k.apart in
      (record { head = λ j x y. low j (omega arith); slots = λ j x y. low j (omega arith) }, L.few, L.order)) in
      shelf_path
      (low (clock_at d s) (omega arith))
      (same_entries π.depots l v (stable_at d s) (λ j x y. low j (omega arith)))
      (seen_kept π l v size d s a (λ j x y. low j (omega arith)))
      stores t.0 t.1
    where
      stores : store_at π v d s ≡ keeping π.depots (write_of π.depots (record_of m)) (store_at π l d s)
      stores = unfold store_at guarded in ap (guarded π s) records ∙ sym (kept_guarded π s m (stored l d) lies)

  pub kept_view : view_by π (kept_in π.depots d (record_of m) l) ≡ keep π d s (write_of π.depots (record_of m)) (view_by π l)
  unfolding keep v
  kept_view =
      view_moved π l v size S d s kd ks
      (λ j o. let a = S.small.depots in let b = S.small.bearings in let c = lies.known in
      kept_in_off π.depots d (record_of m) l j (le_of_eq nine) (λ x y. o.stored (omega arith) (omega arith)))
      _
      (λ r e. elsewhere r e)
      (here ∙ ap (storing π.depots (write_of π.depots (record_of m))) (sym (shelf_here π l d s kd ks)))
    where
      elsewhere : (r : ℕ) → (r ≡ s → ⊥) → store_at π v d r ≡ store_at π l d r
      elsewhere r e = unfold store_at guarded in ap (guarded π r) records ∙ kept_elsewhere π s r m (stored l d) e lies
