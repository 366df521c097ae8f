-- `report::say::say` meets its contract: a bad line, or the finding.
-- Assumes nothing.
use native.Mathlib.Omega.{arith}
use Rattle.report.specs.Report.{spoken}
use Rattle.report.proofs.SayLaws.{room_numbered}
use Rattle.report.proofs.say.say.Goals as goal

pub say_numbered-requires : goal.say_numbered-requires
say_numbered-requires c = room_numbered _ _ _ (omega (arith, c.requires))

pub returns-in-BadLine : goal.returns-in-BadLine
unfolding spoken
returns-in-BadLine c = rw c.in-BadLine.is c.say_numbered.ensures

pub returns-in-Found : goal.returns-in-Found
unfolding spoken
returns-in-Found c = rw c.in-Found.is c.say_finding.ensures
