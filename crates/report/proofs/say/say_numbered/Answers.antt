-- `report::say::say_numbered` meets its contract: the text, the number, and then the line feed.
-- Assumes nothing.
use native.Mathlib.Omega.{arith}
use mathlib.Core.Path.{◌∙◌}
use mathlib.Core.List.{[], ◌∷◌}
use lib.ListN.{length-set}
use Rattle.line.proofs.PrintLaws.{room_first, room_then, wrote_then, wrote_byte}
use Rattle.report.specs.Report.{ended, numbered}
use Rattle.report.proofs.say.say_numbered.Goals as goal

pub print_text-next-requires : goal.print_text-next-requires
unfolding ended numbered
print_text-next-requires c = room_first _ _ (room_first _ (10 ∷ []) c.requires)

pub print_number-last-requires : goal.print_number-last-requires
unfolding ended numbered
print_number-last-requires c = room_then _ (room_first _ (10 ∷ []) c.requires) c.print_text-next.ensures

pub bounds-out-last : goal.bounds-out-last
unfolding ended numbered
bounds-out-last c =
    omega (
      arith,
      (room_then (10 ∷ []) c.requires
          (wrote_then c.print_text-next.ensures c.print_number-last.ensures)).room,
    )

pub overflow_add-result : goal.overflow_add-result
unfolding ended numbered
overflow_add-result c = omega (
  arith,
  (room_then (10 ∷ []) c.requires
      (wrote_then c.print_text-next.ensures c.print_number-last.ensures)).room,
)

pub shape_of-out : goal.shape_of-out
shape_of-out c = simp length-set (c.print_number-last.auto.out ∙ c.print_text-next.auto.out)

pub returns : goal.returns
unfolding ended numbered
returns c = wrote_then (wrote_then c.print_text-next.ensures c.print_number-last.ensures) (wrote_byte _ _ 10)
