-- `page::is_list` meets its contract: the two ends.
-- Assumes nothing.
use mathlib.Core.Path.{◌∙◌, sym}
use borrow.Author.Tests.{le-leb, lt-leb}
use Rattle.loops.proofs.BoolLaws.{and_next, and_stop}
use Rattle.named.specs.Named.{is_list}
use Rattle.page.proofs.is_list.Goals as goal

pub returns-then-bearings-ge1 : goal.returns-then-bearings-ge1
unfolding is_list
returns-then-bearings-ge1 c = sym (and_next _ (le-leb _ _ c.if-bearings-ge1.true))

pub returns-else-bearings-ge1 : goal.returns-else-bearings-ge1
unfolding is_list
returns-else-bearings-ge1 c = let b = lt-leb 1 _ c.if-bearings-ge1.false in b ∙ sym (and_stop _ b)
