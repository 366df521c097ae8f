-- `chains::table::close` meets its contract. The loop's invariant: chains through the first k places are bits, and every bit is a chain.
-- Assumes nothing.
use borrow.Author.Rules.{rules}
use Rattle.chains.proofs.Closing.{closing_none, closing_more, closing_done}
use Rattle.chains.proofs.table.close.Goals as goal

pub loop-k-init : goal.loop-k-init
loop-k-init c = (c.requires.0, closing_none _ _)

pub loop-k-preserved : goal.loop-k-preserved
loop-k-preserved c =
    let joined = c.join.ensures in
    (joined.sized, closing_more _ c.requires.1 (search rules) c.loop-k.invariant.1 joined)

pub returns : goal.returns
returns c = (c.loop-k.invariant.0, closing_done (search rules) c.loop-k.invariant.1)
