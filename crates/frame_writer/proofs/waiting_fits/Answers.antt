-- `frame_writer::waiting_fits` meets its contract: the head, then all that waits.
-- Assumes nothing.
use Prim.Native.Nat.{ℕ, ◌+◌, ◌-◌, ◌≤◌}
use native.Mathlib.Omega.{arith}
use mathlib.Core.Path.{◌∙◌, sym, ap₂}
use lib.Dec.{leb}
use borrow.Author.Tests.{leb-true}
use Rattle.loops.specs.Loops.{every}
use Rattle.loops.proofs.BoolLaws.{and_left, and_right, and_next, and_stop, test_passed, test_failed}
use Rattle.book.specs.Layout.{held, taken, slot}
use Rattle.fit.specs.Fit.{head_fit, message_fit}
use Rattle.named.specs.Named.{waiting_fit}
use Rattle.frame_writer.proofs.waiting_fits.Goals as goal
use Rattle.frame_writer.proofs.waiting_fits.Lts as lts
use Rattle.frame_writer.proofs.waiting_fits.Tie as tie
use Rattle.frame_writer.proofs.waiting_fits.Reads as reads

-- what is known at a place, for the lemmas below
abbrev Else-not-head_fits : Type 0
Else-not-head_fits = lts.Else1 tie.the-claims reads.Pre reads.Post

pub returns-then-not-head_fits : goal.returns-then-not-head_fits
unfolding waiting_fit
returns-then-not-head_fits c = sym (and_stop _ (test_failed c.head_fits.ensures c.if-not-head_fits.true-raw))

-- what the head says
head : (c : Else-not-head_fits) → let args = c.args in (held args.book.now args.q.0 ≤ 16) × (taken args.book.now args.q.0 ≤ held args.book.now args.q.0)
unfolding head_fit
head c =
    let args = c.args in
    let h = test_passed c.head_fits.ensures c.if-not-head_fits.false-raw in
    (leb-true _ _ (and_left (leb (held args.book.now args.q.0) 16) _ h), leb-true _ _ (and_right (leb (held args.book.now args.q.0) 16) _ h))

pub overflow_sub-messages : goal.overflow_sub-messages
overflow_sub-messages c = omega (arith, c.held_of-messages.ensures, c.taken_of-taken.ensures, (head c.before.before.before).1)

pub waiting_fit-requires : goal.waiting_fit-requires
waiting_fit-requires c =
    let pre = c.requires in
    let h = head c.before.before.before in
    (pre.0, pre.1, pre.2, pre.3, omega (arith, c.held_of-messages.ensures, c.taken_of-taken.ensures, h.0, h.1))

pub returns : goal.returns
unfolding waiting_fit
returns c =
    let args = c.args in
    c.waiting_fit.ensures
    ∙ ap₂ (λ (t h : ℕ). every (h - t) (λ i. message_fit args.n args.s.0 args.from.0 (slot args.book.now args.q.0 (t + i))))
    c.taken_of-taken.ensures c.held_of-messages.ensures
    ∙ sym (and_next _ (test_passed c.head_fits.ensures c.if-not-head_fits.false-raw))
