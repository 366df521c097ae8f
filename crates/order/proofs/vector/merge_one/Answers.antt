-- `order::vector::merge_one` meets its contract: one entry's maximum, or the entry left out.
-- Assumes nothing.
use borrow.Author.Rules.{rules}
use Rattle.order.proofs.VectorLaws.{merge_one_own, merge_one_rest}
use Rattle.order.proofs.vector.merge_one.Goals as goal

pub returns-then-x-own : goal.returns-then-x-own
returns-then-x-own c = merge_one_rest _ _ _ _ _ c.if-x-own.true (search rules)

pub returns-else-x-own : goal.returns-else-x-own
returns-else-x-own c = merge_one_own _ _ _ _ _ c.if-x-own.false
