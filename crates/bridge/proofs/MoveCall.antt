-- Move: what the words do is what the model does.
-- Assumes nothing.
use Prim.Native.Nat.{ℕ, ◌≤◌, ◌<◌}
use native.Mathlib.Omega.{arith}
use mathlib.Core.Path.{◌≡◌, refl, sym, ◌∙◌, ap, ap₂, fun_ext, subst}
use mathlib.Core.Logic.{⊎_elim}
use mathlib.Core.Bool.{Bool, true, false, not, ◌&&◌, ◌||◌}
use mathlib.Core.List.{List}
use lib.Dec.{eqb, ltb, leb}
use lib.ListN.{length, set, length-set}
use lib.Seq.{get_or-set_same, get_or-set_other}
use borrow.Author.Tests.{lt-ltb, leb-false, eqb-true, eqb-false, eq-eqb}
use Rattle.loops.specs.Loops.{pick}
use Rattle.loops.proofs.BoolLaws.{decided, pick_true, pick_false}
use Rattle.book.specs.Layout.{home_at, home}
use Rattle.fit.specs.Fit.{fit}
use Rattle.named.proofs.NamedLaws.{fit_move}
use Rattle.register.specs.Table as table
use Rattle.register.specs.Calls.{move_book}
use Rattle.register.specs.Promises.{after}
use Rattle.register.proofs.MoveTable.{move_done}
use Rattle.upkeep.specs.Requests.{call, number_at, changed_by, book_after}
use Rattle.upkeep.proofs.LocalMove.{covered_but}
use Rattle.upkeep.proofs.NeverBadBook.{request_fit}
use Rattle.model.specs.Parts.{Counts, Shelf, empty_shelf, put, set_home}
use Rattle.paper.specs.Calls.{move, first, Answer, done, answer_by}
use Rattle.model.specs.Calls as calls
use Rattle.bridge.specs.View.{counts_in, view_by, view}
use Rattle.bridge.specs.Bridged.{Bridged}
use Rattle.bridge.proofs.Basics.{pick_then, pick_else, state_path}
use Rattle.bridge.proofs.Sound.{sound}
use Rattle.bridge.proofs.Looks.{home_here}
use Rattle.bridge.proofs.Numbers.{fit_passes}
use Rattle.bridge.proofs.Kept.{crews_kept}
use Rattle.bridge.proofs.CrewView.{shelf_above}
use Rattle.bridge.proofs.HomeView.{crew_agrees}
use Rattle.bridge.proofs.RefreshCall.{lowest_here}
use Rattle.bridge.proofs.Assembly.{counts_same, view_by_law, Does, bridged_done}

-- a book in which only one crew's home has moved is the state with that home put
home_view : (π : Counts) (l : List ℕ) (c d : ℕ) → π.depots ≤ 4 → π.crews ≤ 16 → length l ≡ 16384 → c < π.crews → view_by π (set l (home_at c) d) ≡ set_home c d (view_by π l)
unfolding set_home put
home_view π l c d few room full kc =
    state_path
    (λ e s. unfold view_by in ap (λ (h : Shelf). pick (ltb e π.depots && ltb s π.shelves) h empty_shelf) (shelf_above π l m size (λ j x. get_or-set_other l (home_at c) j d 0 (omega arith)) e s))
    (crews_kept π l m size few room (λ j x y. get_or-set_other l (home_at c) j d 0 (omega arith)))
    (unfold view_by in fun_ext λ e.
    ⊎_elim
    (λ (t : eqb e c ≡ true).
    subst (λ (x : ℕ). pick (ltb x π.crews) (home (set l (home_at c) d) x) 0 ≡ d) (sym (eqb-true e c t)) (pick_true _ _ (lt-ltb c _ kc) ∙ get_or-set_same l (home_at c) d 0 (omega arith))
    ∙ sym (pick_true _ _ t))
    (λ (t : eqb e c ≡ false).
    pick_then (ltb e π.crews) 0 (λ z. let n = eqb-false e c t in get_or-set_other l (home_at c) (home_at e) d 0 (omega arith)) ∙ sym (pick_false _ _ t))
    (decided (eqb e c)))
  where
    m : List ℕ
    m = set l (home_at c) d

    size : length m ≡ length l
    size = length-set l (home_at c) d

module _ (l : List ℕ) (F : fit l ≡ true) (c d : ℕ) where
  -- the depot has seen the crew's vector, in the words and in the view
  arrived_here : c < (counts_in l).crews → d < (counts_in l).depots → table.arrived l c d ≡ calls.arrived (counts_in l) d ((view l).crew c) (view l)
  unfolding table.arrived calls.arrived view
  arrived_here kc kd =
      covered_but (counts_in l).depots d _ _ _ _ (λ x k n. crew_agrees l F c 0 kc x k) (λ x k n. lowest_here (counts_in l) l d x kd (record { below = k; apart = n }))

  pub move_number_law : table.move_number l c d ≡ calls.refusal (counts_in l) (view l) (move c d)
  unfolding table.move_number first calls.refusal view
  move_number_law =
      pick_false _ _ (fit_passes (fit_move l F c d))
      ∙ pick_else (leb (counts_in l).crews c) 5 λ kc. pick_else (leb (counts_in l).depots d) 2 λ kd.
      let c< = leb-false _ c kc in
      ap (λ (b : Bool). pick (not b) 12 0)
      (ap₂ (λ (a b : Bool). a || b) (ap (eqb d) (sym (home_here (counts_in l) l c c<))) (arrived_here c< (leb-false _ d kd)))

  does : table.move_number l c d ≡ 0 → Does l (move c d) (move_book l c d)
  unfolding move_book calls.acted view number_at changed_by book_after after
  does z =
      let S = sound l F in
      let o = move_done l c d z in
      let same : counts_in (move_book l c d) ≡ counts_in l = counts_same l (move_book l c d) (λ j k. get_or-set_other l (home_at c) j d 0 (omega arith)) in
      record {
        leaves = view_by_law l (move_book l c d) same ∙ home_view (counts_in l) l c d S.small.depots S.small.crews S.full o.crew;
        counts = same;
        fits = subst (λ (m : List ℕ). fit m ≡ true) (pick_true _ _ (eq-eqb (table.move_number l c d) 0 z)) (request_fit l F (call (move c d)));
      }

  pub move_bridge : (r : Answer) (l' : List ℕ) → r ≡ answer_by (table.move_number l c d) done → l' ≡ after (table.move_number l c d) (move_book l c d) l → Bridged l (move c d) r l'
  unfolding calls.acted
  move_bridge r l' answer book = bridged_done l F (move c d) (table.move_number l c d) move_number_law (move_book l c d) does refl r l' answer book
