-- A crew that moves, at work: the crew that waits in the words of the demands asks for depot 1 instead. Histories have their newest call first.
-- Assumes nothing.
use Rattle.std.specs.Prelude.{◌+◌, ◌-◌, ◌≡◌, List, [], ◌∷◌, ◌++◌}
use Rattle.paper.specs.Calls.{Call, read, write, tick, take, move, Answer, refused, done, reads, read_value, current}
use Rattle.model.specs.Parts.{fresh}
use Rattle.model.specs.Calls.{answers}
use Rattle.model.specs.System.{after}
use Rattle.model.specs.Demands.{Silent, Rounds, lowest_clock}
use Rattle.model.specs.Cases.{counts, homes, day, pair}
use Rattle.model.specs.Words.{all_refreshed, all_ticked, twice, waited_twice, duo, number_after}

-- crew 0, at home in depot 0, has written twice on shelf 0, and asks for depot 1
abbrev pub asks_there : Call
asks_there = move 0 1

-- one round more than it would wait for a write
unfoldable pub waited_thrice : List Call
waited_thrice = all_ticked ++ (all_refreshed ++ ((take 0 1 1 ∷ (take 0 0 1 ∷ (take 1 1 0 ∷ (take 1 0 0 ∷ [])))) ++ (asks_there ∷ waited_twice)))

-- fresh, oldest first: crew 0 writes 20 to bearing 0, with the vector (1, 0); depot 1 has not seen it on shelf 0, then not on shelf 1, then on both; there the
-- crew reads 20 and writes 30, its origin depot 1 and its vector (1, 1). A crew that is not there is 5, a depot 2, in this order; its home is always open, and
-- so is depot 0, on whose own entry nothing hangs, once it has seen the 30
unfoldable pub case_move : List Call
case_move =
    write 0 0 (day 20) ∷ (move 0 1 ∷ (move 0 0 ∷ (move 2 2 ∷ (move 0 2 ∷ (take 1 0 0 ∷ (move 0 1 ∷ (tick 0 1 ∷ (take 1 1 0 ∷ (move 0 1
    ∷ (read 0 0 ∷ (write 0 0 (day 30) ∷ (read 0 0 ∷ (move 0 0 ∷ (tick 1 1 ∷ (take 0 0 1 ∷ (take 0 1 1 ∷ (move 0 0 ∷ (read 0 0 ∷ []))))))))))))))))))

unfoldable pub case_move_answers : List Answer
case_move_answers =
    current 1 ∷ (refused 12 ∷ (done ∷ (refused 5 ∷ (refused 2 ∷ (done ∷ (refused 12 ∷ (done ∷ (done ∷ (done
    ∷ (reads (read_value (day 20) (pair 1 0)) ∷ (current 1 ∷ (reads (read_value (day 30) (pair 1 1)) ∷
    (refused 12 ∷ (done ∷ (done ∷ (done ∷ (done ∷ (reads (read_value (day 30) (pair 1 1)) ∷ []))))))))))))))))))

pub record MoveCase : Type 0 where
  -- crew 0 has to wait for three rounds; two are not enough
  pub three_lacking : duo.crew (after duo twice) 0 0 - lowest_clock counts duo twice 0 + 1 ≡ 3
  pub silent : Silent duo 0 twice waited_thrice
  pub waited : Rounds counts duo 3 twice waited_thrice
  pub not_here : number_after twice asks_there ≡ 12
  pub not_yet : number_after waited_twice asks_there ≡ 12
  pub at_last : number_after waited_thrice asks_there ≡ 0
  -- a crew that moves is not silent
  pub moving : Silent duo 0 [] (asks_there ∷ []) → ⊥
  -- the whole way, there and back
  pub there_and_back : answers counts (fresh homes) case_move ≡ case_move_answers
