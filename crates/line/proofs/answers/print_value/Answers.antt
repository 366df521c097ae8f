-- `line::answers::print_value` meets its contract: the value and the card, each number after a space, then the vector.
-- Assumes nothing.
use native.Mathlib.Omega.{arith}
use lib.ListN.{take}
use mathlib.Core.List.{[], ◌∷◌}
use Rattle.line.specs.Grammar.{spaced}
use Rattle.line.proofs.PrintLaws.{room_first, room_then, wrote_then, wrote_length}
use Rattle.line.proofs.answers.print_value.Goals as goal

pub print_numbers-next-requires : goal.print_numbers-next-requires
print_numbers-next-requires c =
    let p = c.args.payload in
    let rest = spaced (take c.args.depots c.args.vector.now) in
    (omega arith, room_first (spaced (p.value ∷ p.diameter ∷ p.width ∷ [])) rest c.requires.1)

pub print_numbers-requires : goal.print_numbers-requires
print_numbers-requires c =
    (c.requires.0, room_then _ c.requires.1 c.print_numbers-next.ensures)

pub returns : goal.returns
returns c = wrote_then c.print_numbers-next.ensures c.print_numbers.ensures

pub shape_of-out : goal.shape_of-out
shape_of-out c = wrote_length (wrote_then c.print_numbers-next.ensures c.print_numbers.ensures)
