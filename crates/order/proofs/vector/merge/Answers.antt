-- `order::vector::merge` meets its contract. The loop's invariant: the words are those that the turns so far make.
-- Assumes nothing.
use mathlib.Core.Path.{◌∙◌, refl}
use Rattle.order.specs.Vector.{merged_at}
use Rattle.loops.proofs.LoopLaws.{times_none, times_more}
use Rattle.order.proofs.vector.merge.Goals as goal

pub loop-x-init : goal.loop-x-init
unfolding merged_at
loop-x-init c = (refl, times_none _ _)

pub loop-x-preserved : goal.loop-x-preserved
unfolding merged_at
loop-x-preserved c =
    let call = c.merge_one in
    let loop = c.loop-x in
    (call.auto.to ∙ loop.invariant.0, times_more _ _ _ loop.invariant.1 call.ensures)
