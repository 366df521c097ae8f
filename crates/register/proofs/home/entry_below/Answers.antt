-- `register::calls::home::entry_below` meets its contract: the choice that the test makes.
-- Assumes nothing.
use mathlib.Core.Path.{sym}
use borrow.Author.Tests.{lt-ltb, le-ltb}
use Rattle.loops.proofs.BoolLaws.{pick_true, pick_false}
use Rattle.register.proofs.home.entry_below.Goals as goal

pub returns-then-x-n : goal.returns-then-x-n
returns-then-x-n c = sym (pick_true _ _ (lt-ltb _ _ c.if-x-n.true))

pub returns : goal.returns
returns c = sym (pick_false _ _ (le-ltb _ _ c.if-x-n.false))
