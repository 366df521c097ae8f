-- The listing's twelve lines and the cases (a) to (c), asked of a book: what is answered is what the paper prints.
-- Assumes nothing.
use Rattle.std.specs.Prelude.{ℕ, ◌≡◌, List, [], ◌∷◌, map}
use Rattle.book.specs.declared.parts.Counts.{Counts}
use Rattle.book.specs.Layout.{stable}
use Rattle.paper.specs.Calls.{done}
use Rattle.model.specs.Cases.{listing_to_b, listing, listing_answers}
use Rattle.model.specs.MoveCase.{case_move, case_move_answers}
use Rattle.upkeep.specs.Requests.{Request, setup, call, replies, last}

-- S 2 2 4 2 0 1: two depots, two shelves, four bearings, two crews with homes 0 and 1
unfoldable pub counts : Counts
counts = record { depots = 2; shelves = 2; bearings = 4; crews = 2 }

unfoldable pub homes : List ℕ
homes = 0 ∷ 1 ∷ []

-- the twelve lines, with (a) and (b); then with (c)
unfoldable pub lines_to_b : List Request
lines_to_b = setup counts homes ∷ map call listing_to_b

unfoldable pub lines : List Request
lines = setup counts homes ∷ map call listing

-- the crew that moves, there and back
unfoldable pub move_lines : List Request
move_lines = setup counts homes ∷ map call case_move

-- what the promises say of any book l of the right length, asked these lines
pub record Listed (l : List ℕ) : Type 0 where
  pub answers : replies l lines ≡ done ∷ listing_answers
  -- in (c) shelf 0's stable entry for depot 0, at depot 1, rises from 1 to 2
  pub before : stable (last l lines_to_b) 1 0 0 ≡ 1
  pub after : stable (last l lines) 1 0 0 ≡ 2
  pub moved : replies l move_lines ≡ done ∷ case_move_answers
