-- `line::answers::answer_unwritten` meets its contract: the 0, then what is told of the bearing.
-- Assumes nothing.
use Rattle.line.proofs.PrintLaws.{room_byte, wrote_after, wrote_length}
use Rattle.line.proofs.answers.answer_unwritten.Goals as goal

pub print_unwritten-requires : goal.print_unwritten-requires
print_unwritten-requires c = (c.requires.0, room_byte 48 c.requires.1)

pub returns : goal.returns
returns c = wrote_after 48 c.print_unwritten.ensures

pub shape_of-out : goal.shape_of-out
shape_of-out c = wrote_length (wrote_after 48 c.print_unwritten.ensures)
