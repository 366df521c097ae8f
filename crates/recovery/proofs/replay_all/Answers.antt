-- `recovery::replay_all` meets its contract. The loop's invariant: what the bytes come to is what those left come to, from the book as it stands.
-- Assumes nothing.
use native.Mathlib.Omega.{arith}
use mathlib.Core.Path.{refl, ◌∙◌}
use Rattle.recovery.proofs.RecoveryLaws.{far_start, far_more, far_stop, far_end, left_some, left_turn}
use borrow.Author.Rules.{rules}
use Rattle.recovery.proofs.replay_all.Goals as goal

pub loop-at-init : goal.loop-at-init
loop-at-init c = (search rules, search rules, refl, refl, far_start _ _)

pub next_record-next-requires : goal.next_record-next-requires
next_record-next-requires c =
    let loop = c.loop-at in
    (left_some c.args.bytes.now loop.at c.loop-at-test.true, omega (arith, loop.invariant.3, c.requires))

-- a record that is not done
pub returns-then-next-ne0 : goal.returns-then-next-ne0
returns-then-next-ne0 c =
    let loop = c.loop-at in
    far_stop loop.invariant.4 (left_turn c.args.bytes.now loop.at c.next_record-next.ensures) c.if-next-ne0.true c.loop-at-test.true

-- and one that is: it has some bytes, and no more than are left
pub overflow_add-at : goal.overflow_add-at
overflow_add-at c =
    let loop = c.loop-at in
    let f = c.args.bytes.now in
    let w = far_more loop.invariant.4 (left_turn f loop.at c.next_record-next.ensures) c.if-next-ne0.false in
    omega (arith, w.2)

pub overflow_add-done : goal.overflow_add-done
overflow_add-done c = let loop = c.loop-at in omega (arith, loop.invariant.1, c.loop-at-test.true)

pub loop-at-smaller : goal.loop-at-smaller
loop-at-smaller c =
    let loop = c.loop-at in
    let f = c.args.bytes.now in
    let w = far_more loop.invariant.4 (left_turn f loop.at c.next_record-next.ensures) c.if-next-ne0.false in
    omega (arith, w.1, w.2)

pub loop-at-preserved : goal.loop-at-preserved
loop-at-preserved c =
    let loop = c.loop-at in
    let f = c.args.bytes.now in
    let call = c.next_record-next in
    let w = far_more loop.invariant.4 (left_turn f loop.at call.ensures) c.if-next-ne0.false in
    (w.2, omega (arith, loop.invariant.1, w.1), call.auto.book ∙ loop.invariant.2, call.auto.numbers ∙ loop.invariant.3, w.0)

pub returns : goal.returns
returns c = far_end c.loop-at.invariant.4 c.loop-at-test.false

pub shape_of-book-then-next-ne0 : goal.shape_of-book-then-next-ne0
shape_of-book-then-next-ne0 c = c.next_record-next.auto.book ∙ c.loop-at.invariant.2

pub shape_of-numbers-then-next-ne0 : goal.shape_of-numbers-then-next-ne0
shape_of-numbers-then-next-ne0 c = c.next_record-next.auto.numbers ∙ c.loop-at.invariant.3

pub shape_of-book : goal.shape_of-book
shape_of-book c = c.loop-at.invariant.2

pub shape_of-numbers : goal.shape_of-numbers
shape_of-numbers c = c.loop-at.invariant.3
