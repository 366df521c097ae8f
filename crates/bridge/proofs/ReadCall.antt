-- Read: what the words do is what the model does.
-- Assumes nothing.
use Prim.Native.Nat.{ℕ, ◌+◌, ◌%◌, max}
use native.Mathlib.Omega.{arith}
use mathlib.Core.Path.{◌≡◌, sym, ◌∙◌, ap, ap₂, fun_ext}
use mathlib.Core.Logic.{inl, inr, ⊎_elim}
use mathlib.Core.Bool.{true, false}
use mathlib.Core.List.{List}
use lib.Dec.{ltb}
use borrow.Author.Tests.{ltb-true, ltb-false}
use Rattle.order.specs.Vector.{Vec, merged}
use Rattle.order.specs.Record.{vector_of}
use Rattle.loops.proofs.BoolLaws.{decided, pick_true, pick_false}
use Rattle.order.proofs.VectorLaws.{length_merged, merged_other, merged_entry}
use Rattle.book.specs.Layout.{crew_at, home}
use Rattle.fit.specs.Fit.{fit}
use Rattle.shelf.proofs.FrameLaws.{off_sides}
use Rattle.register.specs.Answers as answers
use Rattle.register.specs.Table.{read_number}
use Rattle.register.specs.Calls.{settled_home, read_record, read_book}
use Rattle.register.specs.Promises.{after}
use Rattle.register.proofs.Numbers.{ReadDone, read_done}
use Rattle.upkeep.proofs.FitKept.{read_fit_law}
use Rattle.model.specs.Parts.{Version, State, set_shelf, set_crew}
use Rattle.model.specs.Rules.{settled, settle}
use Rattle.paper.specs.Calls.{read, Answer, reads, answer_by}
use Rattle.model.specs.Calls.{told, acted, reading, home_shelf, shelf_of}
use Rattle.bridge.specs.View.{counts_in, entries_at, version_of, view_by, view}
use Rattle.bridge.specs.Bridged.{Bridged}
use Rattle.bridge.proofs.Sound.{sound}
use Rattle.bridge.proofs.Looks.{crew_here, home_here}
use Rattle.bridge.proofs.Decoded.{version_entry, version_beyond}
use Rattle.bridge.proofs.Numbers.{read_number_law}
use Rattle.bridge.proofs.CrewView.{crew_view, told_here}
use Rattle.bridge.proofs.HomeView.{crew_agrees, home_settled, home_below, home_size, home_stored}
use Rattle.bridge.proofs.Assembly.{counts_same, view_by_law, Does, bridged}

module _ (l : List ℕ) (F : fit l ≡ true) (c k : ℕ) where
  module _ (o : ReadDone l c k) where
    r : List ℕ
    r = read_record l c k

    -- the crew's vector becomes the maximum
    raised_crew : entries_at (counts_in l).depots (read_book l c k) (crew_at c) ≡ merged ((view l).crew c) (version_of (counts_in l).depots r).vector
    unfolding entries_at merged read_book r view
    raised_crew = fun_ext λ x.
        ⊎_elim
        (λ (e : ltb x (counts_in l).depots ≡ true).
        let h = ltb-true x (counts_in l).depots e in
        let S = sound l F in
        let a = S.small.depots in let b = S.small.crews in let f = S.full in let g = o.crew in let z = home_size l F c k o.crew in
        pick_true _ _ e
        ∙ merged_entry (counts_in l).depots (counts_in l).depots (vector_of r) (crew_at c) (settled_home l c k) (omega arith) x h (omega arith)
        ∙ ap₂ max (home_below l F c k o.crew (crew_at c + x) (omega arith) ∙ crew_agrees l F c k o.crew x h) (sym (version_entry (counts_in l).depots r x h)))
        (λ (e : ltb x (counts_in l).depots ≡ false).
        pick_false _ _ e
        ∙ sym (ap₂ max (ap (λ (u : Vec). u x) (crew_here (counts_in l) l c o.crew) ∙ pick_false _ _ e) (version_beyond (counts_in l).depots r x (ltb-false x _ e))))
        (decided (ltb x (counts_in l).depots))

    crewed : view_by (counts_in l) (read_book l c k) ≡ set_crew c (merged ((view l).crew c) (version_of (counts_in l).depots r).vector) (view_by (counts_in l) (settled_home l c k))
    unfolding read_book
    crewed =
        let S = sound l F in
        let a = S.small.depots in let b = S.small.crews in let g = o.crew in
        crew_view (counts_in l) (settled_home l c k) (read_book l c k) (length_merged (counts_in l).depots _ _ (crew_at c) (settled_home l c k))
        (λ j h. merged_other (counts_in l).depots _ _ (crew_at c) (settled_home l c k) j (inr (omega arith)))
        c _ a b o.crew
        (λ j x y. merged_other (counts_in l).depots _ _ (crew_at c) (settled_home l c k) j (inl (omega arith)))
        (λ j x out. merged_other (counts_in l).depots _ _ (crew_at c) (settled_home l c k) j (off_sides (crew_at c) (counts_in l).depots j (λ p q. out p (omega arith))))
        raised_crew

    counted : counts_in (read_book l c k) ≡ counts_in l
    unfolding read_book
    counted = counts_same l (read_book l c k) λ j h.
        merged_other (counts_in l).depots _ _ (crew_at c) (settled_home l c k) j (inl (omega arith)) ∙ home_below l F c k o.crew j (omega arith)

    -- what the model leaves, with the home depot d
    left_by_law : ℕ → State
    left_by_law d = let h = settled (counts_in l).depots d ((view l).crew c) ((view l).shelf d (k % (counts_in l).shelves)) in
        set_crew c (merged ((view l).crew c) (h.store k).vector) (set_shelf d (k % (counts_in l).shelves) h (view l))

    stored_here : (settled (counts_in l).depots (home l c) ((view l).crew c) ((view l).shelf (home l c) (k % (counts_in l).shelves))).store k ≡ version_of (counts_in l).depots r
    unfolding r read_record
    stored_here = home_stored l F c k o.crew o.bearing

    at_home : (view l).home c ≡ home l c
    unfolding view
    at_home = home_here (counts_in l) l c o.crew

    leaves : view (read_book l c k) ≡ (acted (counts_in l) (view l) (read c k)).state
    unfolding acted reading home_shelf shelf_of left_by_law settle
    leaves =
        view_by_law l (read_book l c k) counted ∙ crewed
        ∙ ap₂ (λ (v : Version) (σ : State). set_crew c (merged ((view l).crew c) v.vector) σ) (sym stored_here) (home_settled l F c k o.crew)
        ∙ ap left_by_law (sym at_home)

    tells_same : reads (answers.told (counts_in l).depots (read_record l c k)) ≡ (acted (counts_in l) (view l) (read c k)).answer
    unfolding acted reading home_shelf shelf_of r
    tells_same =
        ap reads (told_here (counts_in l).depots (read_record l c k) (sound l F).small.depots)
        ∙ ap (λ (v : Version). reads (told (counts_in l).depots v)) (sym stored_here)
        ∙ ap (λ (d : ℕ). reads (told (counts_in l).depots ((settled (counts_in l).depots d ((view l).crew c) ((view l).shelf d (k % (counts_in l).shelves))).store k))) (sym at_home)

  does : read_number l c k ≡ 0 → Does l (read c k) (read_book l c k)
  does z = record { leaves = leaves (read_done l c k z); counts = counted (read_done l c k z); fits = read_fit_law l c k F z }

  pub read_bridge :
      (a : Answer) (l' : List ℕ) → a ≡ answer_by (read_number l c k) (reads (answers.told (counts_in l).depots (read_record l c k))) →
      l' ≡ after (read_number l c k) (read_book l c k) l → Bridged l (read c k) a l'
  read_bridge a l' answer book =
      bridged l F (read c k) (read_number l c k) (read_number_law l F c k) (read_book l c k) does a _ l' answer (λ z. tells_same (read_done l c k z)) book
