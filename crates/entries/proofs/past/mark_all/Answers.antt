-- `entries::past::mark_all` meets its contract. The loop's invariant: the rows passed are marked.
-- Assumes nothing.
use borrow.Author.Rules.{rules}
use Rattle.chains.proofs.TableLaws.{turns_none, turns_more}
use Rattle.entries.proofs.past.mark_all.Goals as goal

pub loop-i-init : goal.loop-i-init
loop-i-init c = turns_none _ _ c.requires.sized

pub mark_row-requires : goal.mark_row-requires
mark_row-requires c =
    let pre = c.requires in
    (record { count = pre.count; few = pre.few; sized = c.loop-i.invariant.sized }, search rules)

pub loop-i-preserved : goal.loop-i-preserved
loop-i-preserved c = turns_more _ _ c.loop-i.invariant c.mark_row.ensures
