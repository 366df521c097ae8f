-- `look::look` meets its contract. The loop's invariant: the highest of the entries passed.
-- Assumes nothing.
use native.Mathlib.Nat.{le_antisymm}
use borrow.Author.Rules.{rules}
use Rattle.look.proofs.LookLaws.{highest_none, highest_more, entry_by}
use Rattle.look.proofs.look.Goals as goal

pub loop-x-init : goal.loop-x-init
loop-x-init c = highest_none _

pub loop-x-preserved : goal.loop-x-preserved
loop-x-preserved c = highest_more _ _ c.loop-x.invariant (search rules)

pub returns : goal.returns
returns c =
    let origin = c.wide-origin.ensures in
    (rw (le_antisymm c.loop-x.auto.x-end c.loop-x-test.false) at c.loop-x.invariant, origin, entry_by _ _ c.entry_of-stamp.ensures origin)
