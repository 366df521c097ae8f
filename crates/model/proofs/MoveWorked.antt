-- The crew that moves is computed: three rounds let it in, two do not.
-- Assumes nothing.
use Prim.Native.Nat.{ℕ, ◌+◌, ◌-◌, ◌<◌}
use native.Mathlib.Omega.{arith}
use mathlib.Core.Path.{◌≡◌, refl, ◌∙◌}
use mathlib.Core.List.{[], ◌∷◌, ◌++◌}
use Rattle.model.specs.Parts.{fresh}
use Rattle.model.specs.Rules.{shown, settled, settle, storing, keep}
use Rattle.model.specs.Calls.{answers, step}
use Rattle.model.specs.System.{after}
use Rattle.model.specs.Demands as demands
use Rattle.model.specs.Demands.{a_move, Silent, Rounds, lowest_clock}
use Rattle.model.specs.Cases.{counts, homes}
use Rattle.model.specs.Words.{all_refreshed, all_ticked, twice, waited_once, waited_twice, duo, number_after}
use Rattle.model.specs.MoveCase.{asks_there, waited_thrice, case_move, case_move_answers, MoveCase}
use Rattle.model.proofs.Lawful.{dominates, lawful, lawful_agrees}
use Rattle.model.proofs.Computed.{answers_now, answers_computed}
use Rattle.model.proofs.RoundsWorked.{taking, no_takes, OfLinks, all_links, Emptied, round_of}
use Rattle.model.proofs.Witnesses.{silent_round, four_takes, waited, silent}

three_lacking : duo.crew (after duo twice) 0 0 - lowest_clock counts duo twice 0 + 1 ≡ 3
unfolding answers_now counts homes twice after step settled shown settle storing keep lowest_clock
three_lacking = refl

not_here : number_after twice asks_there ≡ 12
unfolding answers_now counts homes twice after step settled shown settle storing keep
not_here = refl

not_yet : number_after waited_twice asks_there ≡ 12
unfolding answers_now counts homes twice waited_once waited_twice all_refreshed all_ticked after step settled shown settle storing keep
not_yet = refl

at_last : number_after waited_thrice asks_there ≡ 0
unfolding answers_now counts homes twice waited_once waited_twice waited_thrice all_refreshed all_ticked after step settled shown settle storing keep
at_last = refl

thrice_emptied : OfLinks (Emptied (four_takes ++ (asks_there ∷ waited_twice)))
unfolding answers_now counts homes twice waited_once waited_twice all_refreshed all_ticked after step settled shown settle storing keep
thrice_emptied = all_links (Emptied (four_takes ++ (asks_there ∷ waited_twice))) refl refl refl refl

waited_on : Rounds counts duo 3 twice waited_thrice
unfolding waited_thrice
waited_on = demands.round (demands.between waited) (round_of four_takes (asks_there ∷ waited_twice) (taking (taking (taking (taking no_takes)))) thrice_emptied)

silent_on : Silent duo 0 twice waited_thrice
unfolding waited_thrice
silent_on = silent_round four_takes (taking (taking (taking (taking no_takes)))) (demands.on silent (λ b p. never not_yet p))
  where
    never : {n : ℕ} → n ≡ 12 → n ≡ 0 → ⊥
    never e f = omega arith

moving : Silent duo 0 [] (asks_there ∷ []) → ⊥
unfolding answers_now counts homes after step
moving (demands.on s n) = n a_move refl

pub there_and_back : answers counts (fresh homes) case_move ≡ case_move_answers
unfolding answers_now dominates lawful counts homes case_move case_move_answers
there_and_back = answers_computed counts lawful lawful_agrees (fresh homes) case_move ∙ refl

pub move_case : MoveCase
move_case = record {
  three_lacking = three_lacking;
  silent = silent_on;
  waited = waited_on;
  not_here = not_here;
  not_yet = not_yet;
  at_last = at_last;
  moving = moving;
  there_and_back = there_and_back;
}
