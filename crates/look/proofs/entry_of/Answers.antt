-- `look::entry_of` meets its contract: the choice that the test makes.
-- Assumes nothing.
use mathlib.Core.Path.{sym}
use borrow.Author.Tests.{le-ltb, lt-ltb}
use Rattle.loops.proofs.BoolLaws.{pick_true, pick_false}
use Rattle.look.specs.Look.{entry_of}
use Rattle.look.proofs.entry_of.Goals as goal

pub returns-then-n-o : goal.returns-then-n-o
unfolding entry_of
returns-then-n-o c = sym (pick_false _ _ (le-ltb _ _ c.if-n-o.true))

pub returns : goal.returns
unfolding entry_of
returns c = sym (pick_true _ _ (lt-ltb _ _ c.if-n-o.false))
