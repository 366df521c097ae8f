-- `report::say::say_text` meets its contract: the text, and then the line feed.
-- Assumes nothing.
use native.Mathlib.Omega.{arith}
use mathlib.Core.List.{[], ◌∷◌}
use Rattle.line.proofs.PrintLaws.{room_first, room_then, wrote_then, wrote_byte}
use Rattle.report.specs.Report.{ended}
use Rattle.report.proofs.say.say_text.Goals as goal

pub print_text-next-requires : goal.print_text-next-requires
unfolding ended
print_text-next-requires c = room_first _ (10 ∷ []) c.requires

pub bounds-out-next : goal.bounds-out-next
unfolding ended
bounds-out-next c = omega (arith, (room_then (10 ∷ []) c.requires c.print_text-next.ensures).room)

pub returns : goal.returns
unfolding ended
returns c = wrote_then c.print_text-next.ensures (wrote_byte _ _ 10)
