-- `replayer::extent_of` meets its contract: by the form of the kind.
-- Assumes nothing.
use native.Mathlib.Omega.{arith}
use Rattle.replayer.proofs.TurnLaws.{own_few, own_counted, extent_counted, extent_plain}
use Rattle.replayer.proofs.extent_of.Goals as goal

pub overflow_add-result : goal.overflow_add-result
overflow_add-result c = omega (arith, own_few c.args.kind c.shape_of-shape.ensures, c.count_in.ensures.1)

pub returns-then-shape : goal.returns-then-shape
returns-then-shape c =
    let args = c.args in
    let shape = c.shape_of-shape.ensures in
    let count = c.count_in.ensures in
    let is = extent_counted args.bytes.now args.kind shape c.if-shape.true count.0 in
    (is.0, is.1, omega (arith, own_counted args.kind shape c.if-shape.true, count.1))

pub returns : goal.returns
returns c =
    let args = c.args in
    let shape = c.shape_of-shape.ensures in
    let is = extent_plain args.bytes.now args.kind shape c.if-shape.false in
    (is.0, is.1, omega (arith, own_few args.kind shape))
