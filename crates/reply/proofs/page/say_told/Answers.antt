-- `reply::page::say_told` meets its contract: the first word tells whether the bearing is written.
-- Assumes nothing.
use Prim.Native.Nat.{ℕ}
use native.Mathlib.Omega.{arith}
use mathlib.Core.Path.{sym, ◌∙◌, ap}
use mathlib.Core.List.{List}
use lib.ListN.{get_or, take}
use Rattle.line.specs.Answers.{value_told, unwritten_told}
use Rattle.line.proofs.PrintLaws.{wrote_same, wrote_length}
use Rattle.reply.proofs.PageLaws.{told_none, told_some, last_four, four_long, room_value, room_unwritten}
use Rattle.reply.proofs.page.say_told.Goals as goal

pub print_unwritten-requires : goal.print_unwritten-requires
print_unwritten-requires c =
    let four = four_long c.args.told.now c.requires.0 in
    (omega (arith, c.requires.1), room_unwritten c.args.depots _ four c.requires.2)

pub returns-then-told-eq0 : goal.returns-then-told-eq0
returns-then-told-eq0 c =
    let w = c.args.told.now in
    let n = c.args.depots in
    wrote_same (ap (λ (u : List ℕ). unwritten_told (take n u)) (last_four w) ∙ sym (told_none n w c.if-told-eq0.true))
    c.print_unwritten.ensures

pub shape_of-out-then-told-eq0 : goal.shape_of-out-then-told-eq0
shape_of-out-then-told-eq0 c = wrote_length c.print_unwritten.ensures

pub print_value-requires : goal.print_value-requires
print_value-requires c =
    let four = four_long c.args.told.now c.requires.0 in
    (omega (arith, c.requires.1), room_value c.args.depots _ four c.requires.2 _)

pub returns : goal.returns
returns c =
    let w = c.args.told.now in
    let n = c.args.depots in
    wrote_same
    (ap (λ (u : List ℕ). value_told (record { value = get_or w 1 0; diameter = get_or w 2 0; width = get_or w 3 0 }) (take n u)) (last_four w)
    ∙ sym (told_some n w c.if-told-eq0.false))
    c.print_value.ensures

pub shape_of-out : goal.shape_of-out
shape_of-out c = wrote_length c.print_value.ensures
