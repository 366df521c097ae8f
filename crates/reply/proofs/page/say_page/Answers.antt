-- `reply::page::say_page` meets its contract. The loop's invariant: what is told of the bearings passed is written.
-- Assumes nothing.
use Prim.Native.Nat.{ℕ, ◌+◌, ◌*◌, ◌-◌, ◌≤◌, ◌<◌}
use native.Mathlib.Nat.{le_antisymm}
use native.Mathlib.Omega.{arith}
use mathlib.Core.Path.{◌≡◌, ap}
use mathlib.Core.List.{List}
use lib.ListN.{length, take, drop, length-take, length-drop}
use Rattle.paper.specs.Answers.{told_all, told_in}
use Rattle.line.proofs.PrintLaws.{wrote_nothing, wrote_same}
use Rattle.reply.specs.Printed.{page_bytes, told_bytes}
use Rattle.reply.proofs.PageLaws.{page_none, wrote_told, room_told}
use Rattle.reply.proofs.page.say_page.Goals as goal

-- the words of one bearing, and that they are eight
told_of : (w : List ℕ) (i : ℕ) → take (8 * i + 8 - 8 * i) (drop (8 * i) w) ≡ take 8 (drop (8 * i) w)
told_of w i = let e : 8 * i + 8 - 8 * i ≡ 8 = omega arith in rw e

eight : (w : List ℕ) (i m : ℕ) → i < m → 8 * m ≤ length w → length (take (8 * i + 8 - 8 * i) (drop (8 * i) w)) ≡ 8
eight w i m h k =
    let part = length-take (8 * i + 8 - 8 * i) (drop (8 * i) w) in
    let rest = length-drop (8 * i) w in
    omega arith

pub loop-i-init : goal.loop-i-init
loop-i-init c = wrote_same (page_none _ _) (wrote_nothing _ _)

pub say_told-next-requires : goal.say_told-next-requires
say_told-next-requires c =
    let more = c.loop-i-test.true in
    let w = c.args.words.now in
    (eight w c.loop-i.i _ more c.requires.0, c.requires.1, room_told c.args.depots c.loop-i.i w _ more c.requires.2 c.loop-i.invariant)

pub loop-i-preserved : goal.loop-i-preserved
loop-i-preserved c =
    let n = c.args.depots in
    let i = c.loop-i.i in
    let w = c.args.words.now in
    wrote_told n i w c.loop-i.invariant (wrote_same (ap (λ (x : List ℕ). told_bytes (told_in n x)) (told_of w i)) c.say_told-next.ensures)

pub returns : goal.returns
returns c =
    let end : c.loop-i.i ≡ c.args.bearings = le_antisymm c.loop-i.auto.i-end c.loop-i-test.false in
    wrote_same (ap (λ (i : ℕ). page_bytes (told_all c.args.depots i c.args.words.now)) end) c.loop-i.invariant
