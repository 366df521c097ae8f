-- `chains::table::mark` meets its contract. One bit of one word.
-- Assumes nothing.
use Rattle.chains.proofs.TableLaws.{adds_one}
use Rattle.chains.proofs.table.mark.Goals as goal

pub returns : goal.returns
returns c = adds_one _ _ _ c.requires.0 c.requires.1 c.requires.2
