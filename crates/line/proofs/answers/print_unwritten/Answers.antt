-- `line::answers::print_unwritten` meets its contract: two bytes, then the vector.
-- Assumes nothing.
use native.Mathlib.Omega.{arith}
use lib.ListN.{length-set}
use Rattle.line.proofs.PrintLaws.{room_byte, wrote_after, wrote_length}
use Rattle.line.proofs.answers.print_unwritten.Goals as goal

pub bounds-out-second : goal.bounds-out-second
bounds-out-second c = let h = c.requires.1.room in simp length-set (omega arith)

pub print_numbers-requires : goal.print_numbers-requires
print_numbers-requires c =
    (c.requires.0, room_byte 45 (room_byte 32 c.requires.1))

pub returns : goal.returns
returns c = wrote_after 32 (wrote_after 45 c.print_numbers.ensures)

pub shape_of-out : goal.shape_of-out
shape_of-out c = wrote_length (wrote_after 32 (wrote_after 45 c.print_numbers.ensures))
