-- `export::depot_setup` meets its contract: the promise of the call.
-- Assumes nothing.
use Rattle.upkeep.specs.Requests.{setting_up}
use Rattle.telling.proofs.CallLaws.{by_call}
use Rattle.export.proofs.depot_setup.Goals as goal

pub returns : goal.returns
returns c =
    let told = by_call (setting_up c.setup.ensures) c.number_in.ensures in
    record { value = told.0; book_after = told.1 }
