-- `line::answers::answer_value` meets its contract: the 0, then what is told of the bearing.
-- Assumes nothing.
use Rattle.line.proofs.PrintLaws.{room_byte, wrote_after, wrote_length}
use Rattle.line.proofs.answers.answer_value.Goals as goal

pub print_value-requires : goal.print_value-requires
print_value-requires c = (c.requires.0, room_byte 48 c.requires.1)

pub returns : goal.returns
returns c = wrote_after 48 c.print_value.ensures

pub shape_of-out : goal.shape_of-out
shape_of-out c = wrote_length (wrote_after 48 c.print_value.ensures)
