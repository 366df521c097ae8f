-- `line::answers::answer_stamp` meets its contract: the 0, the stamp after a space, and the letter after another.
-- Assumes nothing.
use native.Mathlib.Omega.{arith}
use Prim.Native.Nat.{◌+◌, ◌≤◌}
use mathlib.Core.Path.{◌∙◌}
use mathlib.Core.List.{[], ◌∷◌}
use lib.ListN.{length, length-set}
use borrow.Author.Rules.{rules}
use Rattle.line.specs.Number.{decimal}
use Rattle.line.specs.Answers.{standing}
use Rattle.line.specs.Printing.{Room}
use Rattle.line.proofs.PrintLaws.{room_first, room_then, room_byte, wrote_byte_as, wrote_then, wrote_after, wrote_length}
use Rattle.line.proofs.answers.answer_stamp.Goals as goal
use Rattle.line.proofs.answers.answer_stamp.Lts as lts
use Rattle.line.proofs.answers.answer_stamp.Tie as tie
use Rattle.line.proofs.answers.answer_stamp.Reads as reads

-- what is known at a place, for the lemmas below
abbrev After-slice_known-2-1 : Type 0
After-slice_known-2-1 = lts.After-slice_known2 tie.the-claims reads.Pre reads.Post

pub print_spaced-next-requires : goal.print_spaced-next-requires
print_spaced-next-requires c =
    room_first (32 ∷ decimal c.args.stamp) (32 ∷ (standing c.args.current ∷ [])) (room_byte 48 c.requires)

-- the room after the stamp
left : (c : After-slice_known-2-1)
    → Room c.print_spaced-next.new.out c.print_spaced-next.result (32 ∷ (standing c.args.current ∷ []))
left c = room_then _ (room_byte 48 c.requires) c.print_spaced-next.ensures

-- which is room in the output that was lent
inside : (c : After-slice_known-2-1) → c.print_spaced-next.result + 2 ≤ length c.args.out.now
inside c =
    let h = (left c).room in
    let kept = wrote_length c.print_spaced-next.ensures ∙ length-set c.args.out.now c.args.at 48 in
    omega arith

pub bounds-out-next : goal.bounds-out-next
bounds-out-next c = let h = (left c).room in omega arith

pub overflow_add-last : goal.overflow_add-last
overflow_add-last c = let h = inside c in search rules

pub bounds-out-last : goal.bounds-out-last
bounds-out-last c = let h = (left c.before).room in simp length-set (omega arith)

pub overflow_add-result : goal.overflow_add-result
overflow_add-result c = let h = inside c.before in search rules

pub returns : goal.returns
returns c = wrote_after 48 (wrote_then c.print_spaced-next.ensures (wrote_after 32 (wrote_byte_as _ _ c.standing_of.ensures)))

pub shape_of-out : goal.shape_of-out
shape_of-out c = wrote_length (wrote_after 48 (wrote_then c.print_spaced-next.ensures (wrote_after 32 (wrote_byte_as _ _ c.standing_of.ensures))))
