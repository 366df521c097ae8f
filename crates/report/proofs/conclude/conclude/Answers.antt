-- `report::conclude::conclude` meets its contract: the end of the input, what is to be said, and its line.
-- Assumes nothing.
use Rattle.report.proofs.Theorems.{concluded}
use Rattle.report.proofs.conclude.conclude.Goals as goal

pub returns : goal.returns
returns c =
    concluded c.requires.0
    c.finish-total.ensures.result_after c.report-said.ensures
    c.say.ensures c.requires.1
