-- `export::depot_refresh` meets its contract: the promise of the call.
-- Assumes nothing.
use Rattle.upkeep.specs.Requests.{refreshed}
use Rattle.telling.proofs.CallLaws.{by_call}
use Rattle.export.proofs.depot_refresh.Goals as goal

pub returns : goal.returns
returns c =
    let told = by_call (refreshed c.refresh.ensures) c.number_in.ensures in
    record { value = told.0; book_after = told.1 }
