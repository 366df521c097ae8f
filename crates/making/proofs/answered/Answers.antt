-- `making::answered` meets its contract: the choice that the test makes.
-- Assumes nothing.
use mathlib.Core.Path.{sym}
use Rattle.loops.proofs.BoolLaws.{pick_true, pick_false}
use Rattle.paper.specs.Answers.{paper_write}
use Rattle.register.specs.Answers.{written}
use Rattle.making.proofs.answered.Goals as goal

pub returns-then-current : goal.returns-then-current
unfolding paper_write written
returns-then-current c = sym (pick_true _ _ c.if-current.true)

pub returns : goal.returns
unfolding paper_write written
returns c = sym (pick_false _ _ c.if-current.false)
