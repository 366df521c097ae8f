-- `frame::whom_of` meets its contract.
-- Assumes nothing.
use native.Mathlib.Omega.{arith}
use Rattle.frame.specs.Frame.{whom}
use Rattle.frame.proofs.whom_of.Goals as goal

pub returns : goal.returns
unfolding whom
returns c = omega (arith, c.index.ensures, c.index-2.ensures, c.index-3.ensures)
