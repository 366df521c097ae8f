-- `entries::past::fill` meets its contract. The marked bits are the direct steps, so their chains are the pasts.
-- Assumes nothing.
use borrow.Author.Rules.{rules}
use Rattle.chains.proofs.TableLaws.{marked_steps}
use Rattle.chains.proofs.Closing.{closed_same}
use Rattle.entries.proofs.past.fill.Goals as goal

pub close-requires : goal.close-requires
close-requires c = (c.mark_all.ensures.sized, search rules)

pub returns : goal.returns
returns c =
    let pre = c.requires in (
      c.close.ensures.0,
      closed_same pre.0.count (marked_steps _ _ pre.0.few pre.1
          c.mark_all.ensures) c.close.ensures.1,
    )
