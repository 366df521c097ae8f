-- `frame_form::messages_are_right` meets its contract. The loop's invariant: the messages passed are right, and the next begins at `at`.
-- Assumes nothing.
use native.Mathlib.Omega.{arith}
use native.Mathlib.Nat.{le_antisymm}
use mathlib.Core.Path.{◌≡◌, ◌∙◌, sym, ap}
use lib.ListN.{get_or}
use Rattle.loops.proofs.BoolLaws.{and_stop, test_passed, test_failed}
use Rattle.loops.proofs.LoopLaws.{every_none, every_more, every_stop}
use Rattle.frame.specs.Frame.{size_of, start_in, message_right}
use Rattle.frame.proofs.DecodeLaws.{At, message_says}
use Rattle.frame_form.proofs.FormLaws.{start_none, start_more, right_ends, all_right}
use Rattle.frame_form.proofs.messages_are_right.Goals as goal
use Rattle.frame_form.proofs.messages_are_right.Lts as lts
use Rattle.frame_form.proofs.messages_are_right.Tie as tie
use Rattle.frame_form.proofs.messages_are_right.Reads as reads

-- what is known at a place, for the lemmas below
abbrev After-message_is_right : Type 0
After-message_is_right = lts.After-message_is_right tie.the-claims reads.Pre reads.Post goal.the-invariant-loop-i goal.the-decreases-loop-i

abbrev Else-not-message_is_right : Type 0
Else-not-message_is_right = lts.Else1 tie.the-claims reads.Pre reads.Post goal.the-invariant-loop-i goal.the-decreases-loop-i

abbrev After-size_of-at : Type 0
After-size_of-at = lts.After-size_of tie.the-claims reads.Pre reads.Post goal.the-invariant-loop-i goal.the-decreases-loop-i

-- what the test of one message says
one_said :
    (c : After-message_is_right) →
    let args = c.args in
    c.message_is_right.result ≡ message_right args.way.route args.f.now c.loop-i.i (start_in args.way.route.counts.depots args.f.now c.loop-i.i)
one_said c =
    let args = c.args in c.message_is_right.ensures ∙ ap
    (message_right args.way.route args.f.now c.loop-i.i) c.loop-i.invariant.0

-- the message that passed
passed :
    (c : Else-not-message_is_right) → let args = c.args in At args.way.route args.f.now
    c.loop-i.i c.loop-i.at
passed c = message_says _ _ _ _ (test_passed c.message_is_right.ensures c.if-not-message_is_right.false-raw)

size_is :
    (c : After-size_of-at) → let args = c.args in c.size_of-at.result
    ≡ size_of args.way.route.counts.depots (get_or args.f.now c.loop-i.at 0)
size_is c = c.size_of-at.ensures ∙ ap (size_of c.args.way.route.counts.depots) c.word_of_byte.ensures

pub loop-i-init : goal.loop-i-init
loop-i-init c = (start_none _ _ c.requires.0, every_none _, c.requires.1)

pub message_is_right-requires : goal.message_is_right-requires
message_is_right-requires c = omega (arith, c.requires.1, c.loop-i-test.true)

pub returns-then-not-message_is_right : goal.returns-then-not-message_is_right
returns-then-not-message_is_right c =
    let args = c.args in
    sym
    (and_stop _
    (sym (all_right _ _ c.requires.0) ∙ every_stop _ _ _ c.loop-i-test.true (test_failed (one_said c.before.before) c.if-not-message_is_right.true-raw)))

pub bounds-f-at : goal.bounds-f-at
bounds-f-at c = omega (arith, (passed c.before.before).there)

pub overflow_add-at-in-loop-i : goal.overflow_add-at-in-loop-i
overflow_add-at-in-loop-i c = omega (arith, (passed c.before.before.before.before).ends, size_is c.before)

pub loop-i-preserved : goal.loop-i-preserved
loop-i-preserved c =
    let loop = c.loop-i in (
      start_more _ _ _ loop.invariant.0 (size_is c.before),
      every_more _ _ loop.invariant.1 (test_passed (one_said c.before.before.before.before.before) c.if-not-message_is_right.false-raw),
      omega (arith, (passed c.before.before.before.before).ends, size_is c.before),
    )

pub returns : goal.returns
returns c =
    let args = c.args in
    let loop = c.loop-i in
    let e = le_antisymm loop.auto.i-end c.loop-i-test.false ∙ c.requires.0 in
    right_ends args.way.route args.f.now (sym (all_right _ _ e) ∙ loop.invariant.1) (loop.invariant.0 ∙ ap (start_in args.way.route.counts.depots args.f.now) e)
