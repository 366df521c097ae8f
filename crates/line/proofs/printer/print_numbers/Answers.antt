-- `line::printer::print_numbers` meets its contract. The loop's invariant: the numbers passed are written.
-- Assumes nothing.
use native.Mathlib.Nat.{le_antisymm, lt_of_lt_of_le}
use Rattle.line.proofs.PrintLaws.{wrote_nothing, wrote_same, wrote_length, wrote_spaced, room_spaced, spaced_none}
use Rattle.line.proofs.printer.print_numbers.Goals as goal

pub loop-i-init : goal.loop-i-init
loop-i-init c = wrote_same (spaced_none c.args.numbers.now) (wrote_nothing _ _)

pub print_spaced-next-requires : goal.print_spaced-next-requires
print_spaced-next-requires c =
    let pre = c.requires in
    room_spaced _ c.loop-i.i _ c.loop-i-test.true pre.0 pre.1 c.loop-i.invariant

pub loop-i-preserved : goal.loop-i-preserved
loop-i-preserved c = wrote_spaced _ _ (lt_of_lt_of_le c.loop-i-test.true c.requires.0) c.loop-i.invariant c.print_spaced-next.ensures

pub shape_of-out : goal.shape_of-out
shape_of-out c = wrote_length c.loop-i.invariant

pub returns : goal.returns
returns c = rw (le_antisymm c.loop-i.auto.i-end c.loop-i-test.false) at c.loop-i.invariant
