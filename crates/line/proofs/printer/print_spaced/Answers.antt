-- `line::printer::print_spaced` meets its contract: the space, and then what the number printer writes.
-- Assumes nothing.
use mathlib.Core.Path.{◌∙◌}
use lib.ListN.{length-set}
use Rattle.line.proofs.PrintLaws.{room_byte, wrote_after}
use Rattle.line.proofs.printer.print_spaced.Goals as goal

pub print_number-requires : goal.print_number-requires
print_number-requires c = room_byte 32 c.requires

pub shape_of-out : goal.shape_of-out
shape_of-out c = c.print_number.auto.out ∙ simp length-set

pub returns : goal.returns
returns c = wrote_after 32 c.print_number.ensures
