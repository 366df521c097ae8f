-- Setup: the numbers agree, and the view of a book that was set up is the fresh state.
-- Assumes nothing.
use Prim.Native.Nat.{ℕ}
use native.Mathlib.Omega.{arith}
use mathlib.Core.Path.{◌≡◌, refl, sym, ◌∙◌, ap, subst}
use mathlib.Core.Bool.{Bool, true, false, not, ◌&&◌, ◌||◌}
use mathlib.Core.List.{List}
use lib.Dec.{eqb, ltb}
use lib.ListN.{length, get_or}
use Rattle.std.proofs.Common.{Result}
use borrow.Author.Tests.{eq-eqb, ne_eqb}
use Rattle.loops.specs.Loops.{every, pick}
use Rattle.loops.proofs.BoolLaws.{pick_true, pick_false}
use Rattle.book.specs.declared.parts.Counts.{Counts}
use Rattle.book.specs.Layout.{book_words}
use Rattle.fit.specs.Fit.{most_bearings, between, counts_fit}
use Rattle.fit.proofs.FitLaws.{counts_within}
use Rattle.register.specs.Calls.{set_up}
use Rattle.register.specs.Promises.{after, Setup}
use Rattle.register.specs.Table as table
use Rattle.paper.specs.declared.answer.Refusal.{Refusal}
use Rattle.paper.specs.Answers.{paper}
use Rattle.upkeep.proofs.FitSetup.{setup_fit}
use Rattle.paper.specs.Calls.{done, first, answer_by}
use Rattle.model.specs.Calls as model
use Rattle.bridge.specs.View.{to_model, counts_in, view}
use Rattle.bridge.specs.Bridged.{BridgedSetup}
use Rattle.bridge.proofs.SetupView.{setup_open, setup_counts, setup_view}

one_test : (a b c e q : Bool) → not (a && (b && (c && e))) || not q ≡ not (a && (b && (c && (e && q))))
one_test false b c e q = refl
one_test true false c e q = refl
one_test true true false e q = refl
one_test true true true false q = refl
one_test true true true true q = refl

passes : {b : Bool} → b ≡ true → not b ≡ false
passes e = ap not e

module _ (l : List ℕ) (full : length l ≡ book_words) (n : Counts) (homes : List ℕ) where
  pub setup_number_law : table.setup_number l n homes ≡ model.setup (to_model n) homes
  unfolding table.setup_number first model.setup model.within counts_fit between
  setup_number_law =
      pick_false _ _ (passes (eq-eqb _ _ full))
      ∙ ap (λ (t : Bool). pick t 11 (pick (not (every n.crews (λ c. ltb (get_or homes c 0) n.depots))) 2 0))
      (one_test (between 1 n.depots 4) (between 1 n.shelves 4) (between 1 n.bearings most_bearings) (between 1 n.crews 16) (eqb (length homes) n.crews))

  pub setup_bridge : (r : Result Unit Refusal) (l' : List ℕ) → Setup l n homes r l' → BridgedSetup l n homes (paper r) l'
  unfolding after
  setup_bridge r l' t = record {
    answers = t.answer ∙ ap (λ (k : ℕ). answer_by k done) setup_number_law;
    leaves = λ z. ap view (set z) ∙ setup_view (setup_open l n homes (setup_number_law ∙ z));
    counts = λ z.
        let u = setup_open l n homes (setup_number_law ∙ z) in
        let w = (counts_within n u.counts).crews in
        let e = u.number in
        ap counts_in (set z) ∙ setup_counts n homes (omega arith);
    fits = λ z. subst (λ (m : List ℕ). Rattle.fit.specs.Fit.fit m ≡ true) (sym (set z)) (setup_fit l n homes (setup_number_law ∙ z));
    stays = λ z. t.book ∙ pick_false _ _ (ne_eqb _ 0 (λ e. z (sym setup_number_law ∙ e)));
  }
    where
      set : model.setup (to_model n) homes ≡ 0 → l' ≡ set_up n homes
      set z = t.book ∙ pick_true _ _ (eq-eqb _ 0 (setup_number_law ∙ z))
