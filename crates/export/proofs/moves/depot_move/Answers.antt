-- `export::moves::depot_move` meets its contract: the promise of the call.
-- Assumes nothing.
use Rattle.upkeep.specs.Requests.{moved}
use Rattle.telling.proofs.CallLaws.{by_call}
use Rattle.export.proofs.moves.depot_move.Goals as goal

pub returns : goal.returns
returns c =
    let told = by_call (moved c.move_crew.ensures) c.number_in.ensures in
    record { value = told.0; book_after = told.1 }
