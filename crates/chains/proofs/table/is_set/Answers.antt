-- `chains::table::is_set` meets its contract. The definition of a bit.
-- Assumes nothing.
use mathlib.Core.Path.{refl}
use Rattle.chains.specs.Table.{bit, bit_of}
use Rattle.chains.proofs.table.is_set.Goals as goal

pub returns : goal.returns
unfolding bit bit_of
returns c = refl
