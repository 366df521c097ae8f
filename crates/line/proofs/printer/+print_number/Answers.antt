-- `line::printer::print_number` meets its contract. The measure is the number: the digits of n / 10 are printed first, then the last digit.
-- Assumes nothing.
use native.Mathlib.Omega.{arith}
use Rattle.line.proofs.PrintLaws.{room_one, wrote_one, room_first, room_front, room_then, wrote_number}
use Rattle.line.proofs.printer.+print_number.Goals as goal

pub bounds-out-at : goal.bounds-out-at
bounds-out-at t c = room_one _ _ _ c.if-n-lt10.true c.requires

pub returns-then-n-lt10 : goal.returns-then-n-lt10
returns-then-n-lt10 t c = wrote_one _ _ _ c.if-n-lt10.true

pub print_number-last-requires : goal.print_number-last-requires
print_number-last-requires t c =
    (omega arith, room_first _ _ (room_front _ _ c.args.n c.if-n-lt10.false c.ranges.n.fits c.requires))

pub bounds-out-last : goal.bounds-out-last
bounds-out-last t c =
    let h = room_then _ (room_front _ _ c.args.n c.if-n-lt10.false c.ranges.n.fits c.requires) c.print_number-last.ensures in
    omega (arith, h.room)

pub returns : goal.returns
returns t c = wrote_number c.args.n c.if-n-lt10.false c.ranges.n.fits c.print_number-last.ensures

pub overflow_add-result-2 : goal.overflow_add-result-2
overflow_add-result-2 t c =
    let h = room_then _ (room_front _ _ c.args.n c.if-n-lt10.false c.ranges.n.fits c.requires) c.print_number-last.ensures in
    omega (arith, h.room)
