-- The worked cases are computed, the listing's answers with (a) to (c) as one list with one claim. The laws of the order decide every comparison
-- in them but one, that of (e) and (f), which crate order has worked out.
-- Assumes nothing.
use mathlib.Core.Path.{◌≡◌, refl, ap, ◌∙◌}
use Prim.Native.Nat.{ℕ}
use mathlib.Core.List.{◌∷◌}
use mathlib.Core.Bool.{true}
use lib.Dec.{eqb}
use Rattle.loops.specs.Loops.{pick}
use Rattle.order.specs.Order.{Rank, above}
use Rattle.order.proofs.OrderCases.{above_case}
use Rattle.model.specs.Parts.{State, fresh}
use Rattle.paper.specs.Calls.{tick, take}
use Rattle.model.specs.Calls.{answers, step}
use Rattle.model.specs.System.{after}
use Rattle.model.specs.Cases.{counts, homes, listing_to_b, listing, listing_answers, stable_after, case_d, case_d_answers}
use Rattle.model.specs.Cases.{case_e, case_e_answers, case_f, case_f_answers, many_ticks, many_done, case_g, case_g_answers, clock_after, case_dates, case_dates_answers, case_cards, case_cards_answers, case_lists, case_lists_answers, CasesHold}
use Rattle.model.proofs.Lawful.{dominates, lawful, lawful_agrees, like, knowing, knowing_agrees}
use Rattle.model.proofs.Computed.{answers_now, ends_now, answers_computed, ends_computed}

pub listing_holds : answers counts (fresh homes) listing ≡ listing_answers
unfolding answers_now dominates lawful counts homes listing_to_b listing listing_answers
listing_holds = answers_computed counts lawful lawful_agrees (fresh homes) listing ∙ refl

-- in (c) the stable entry rises from 1 to 2
pub case_c_before : stable_after listing_to_b ≡ 1
unfolding ends_now dominates lawful counts homes listing_to_b stable_after
case_c_before = ap (λ (σ : State). (σ.shelf 1 0).stable 0) (ends_computed counts lawful lawful_agrees (fresh homes) listing_to_b) ∙ refl

pub case_c_after : stable_after listing ≡ 2
unfolding ends_now dominates lawful counts homes listing_to_b listing stable_after
case_c_after = ap (λ (σ : State). (σ.shelf 1 0).stable 0) (ends_computed counts lawful lawful_agrees (fresh homes) listing) ∙ refl

pub case_d_holds : answers counts (fresh homes) case_d ≡ case_d_answers
unfolding answers_now dominates lawful counts homes listing_to_b listing listing_answers case_d case_d_answers
case_d_holds = answers_computed counts lawful lawful_agrees (fresh homes) case_d ∙ refl

-- the vector (a, b) with the origin o, as the order looks at it
unfoldable pub pair_rank : ℕ → ℕ → ℕ → Rank
pair_rank a b o = record { vector = λ x. pick (eqb x 0) a (pick (eqb x 1) b 0); origin = o }

-- the one comparison that (e) and (f) leave to the order's own rule
pub first_decides : above 2 (pair_rank 1 0 0) (pair_rank 0 1 1) ≡ true
unfolding pair_rank pick
first_decides = above_case _ _ refl refl refl refl refl refl

pub case_e_holds : answers counts (fresh homes) case_e ≡ case_e_answers
unfolding answers_now dominates lawful like knowing pair_rank counts homes case_e case_e_answers
case_e_holds = answers_computed counts (knowing 2 (pair_rank 1 0 0) (pair_rank 0 1 1)) (knowing_agrees 2 (pair_rank 1 0 0) (pair_rank 0 1 1) first_decides) (fresh homes) case_e ∙ refl

pub case_f_holds : answers counts (fresh homes) case_f ≡ case_f_answers
unfolding answers_now dominates lawful like knowing pair_rank counts homes case_f case_f_answers
case_f_holds = answers_computed counts (knowing 2 (pair_rank 1 0 0) (pair_rank 0 1 1)) (knowing_agrees 2 (pair_rank 1 0 0) (pair_rank 0 1 1) first_decides) (fresh homes) case_f ∙ refl

pub case_g_holds : answers counts (fresh homes) case_g ≡ case_g_answers
unfolding answers_now dominates lawful counts homes many_ticks many_done case_g case_g_answers
case_g_holds = answers_computed counts lawful lawful_agrees (fresh homes) case_g ∙ refl

-- after the tick that is refused the clock is still 16, after the one that passes it is 17
pub case_g_full : clock_after (many_ticks 17) ≡ 16
unfolding answers_now counts homes many_ticks clock_after after step
case_g_full = refl

pub case_g_again : clock_after (tick 0 0 ∷ (take 1 0 0 ∷ many_ticks 17)) ≡ 17
unfolding answers_now counts homes many_ticks clock_after after step
case_g_again = refl

pub case_dates_holds : answers counts (fresh homes) case_dates ≡ case_dates_answers
unfolding answers_now dominates lawful counts homes case_dates case_dates_answers
case_dates_holds = answers_computed counts lawful lawful_agrees (fresh homes) case_dates ∙ refl

pub case_cards_holds : answers counts (fresh homes) case_cards ≡ case_cards_answers
unfolding answers_now dominates lawful counts homes case_cards case_cards_answers
case_cards_holds = answers_computed counts lawful lawful_agrees (fresh homes) case_cards ∙ refl

pub case_lists_holds : answers counts (fresh homes) case_lists ≡ case_lists_answers
unfolding answers_now dominates lawful counts homes listing_to_b listing listing_answers case_lists case_lists_answers
case_lists_holds = answers_computed counts lawful lawful_agrees (fresh homes) case_lists ∙ refl

pub cases_hold : CasesHold
cases_hold = record {
  listed = listing_holds;
  c_before = case_c_before;
  c_after = case_c_after;
  d = case_d_holds;
  e = case_e_holds;
  f = case_f_holds;
  g = case_g_holds;
  g_full = case_g_full;
  g_again = case_g_again;
  dates = case_dates_holds;
  cards = case_cards_holds;
  lists = case_lists_holds;
}
