-- `script::runs` meets its contract. The loop's invariant: what is left of the script runs on the book so far, and every answer so far was right, exactly if the whole script runs.
-- Assumes nothing.
use native.Mathlib.Omega.{arith}
use mathlib.Core.Path.{refl, ◌∙◌}
use Rattle.script.proofs.LineLaws.{Turn, turn_at}
use Rattle.script.proofs.ScriptLaws.{exactly_taken, exactly_left, far_start, far_more, far_done}
use Rattle.script.proofs.runs.Goals as goal
use Rattle.script.proofs.runs.Lts as lts
use Rattle.script.proofs.runs.Tie as tie
use Rattle.script.proofs.runs.Reads as reads

-- what is known at a place, for the lemmas below
abbrev After-line_after-stop : Type 0
After-line_after-stop = lts.After-line_after2 tie.the-claims reads.Pre reads.Post goal.the-invariant-loop-at goal.the-decreases-loop-at tie.handed_clauses

pub loop-at-init : goal.loop-at-init
loop-at-init c = (refl, refl, far_start _ _)

-- the places of a line and of its answer
placed :
    (c : After-line_after-stop) →
    Turn c.args.script.now c.loop-at.at c.line_end-feed.result c.line_after-end.result c.line_after-stop.result
placed c = turn_at _ _ c.loop-at-test.true c.line_end-feed.ensures c.line_after-end.ensures c.line_after-stop.ensures

pub is_answered-requires : goal.is_answered-requires
is_answered-requires c = omega (arith, c.loop-at.invariant.1, c.requires)

pub loop-at-smaller-then-is_answered : goal.loop-at-smaller-then-is_answered
loop-at-smaller-then-is_answered c = omega (arith, (placed c.before.before.before.before.before.before.before.before.before.before.before).moves)

pub loop-at-preserved-then-is_answered : goal.loop-at-preserved-then-is_answered
loop-at-preserved-then-is_answered c =
    let call = c.is_answered in
    let loop = c.loop-at in
    let far =
    far_more loop.invariant.2
    c.loop-at-test.true
    c.line_end-feed.ensures
    c.line_after-end.ensures
    c.line_after-stop.ensures
    call.ensures.book_after
    (exactly_taken call.ensures.exactly c.if-is_answered.true refl)
    in
    (call.auto.book ∙ loop.invariant.0, call.auto.out ∙ loop.invariant.1, far)

pub loop-at-smaller : goal.loop-at-smaller
loop-at-smaller c = omega (arith, (placed c.before.before.before.before.before.before.before.before.before.before.before).moves)

pub loop-at-preserved : goal.loop-at-preserved
loop-at-preserved c =
    let call = c.is_answered in
    let loop = c.loop-at in
    let far =
    far_more loop.invariant.2
    c.loop-at-test.true
    c.line_end-feed.ensures
    c.line_after-end.ensures
    c.line_after-stop.ensures
    call.ensures.book_after
    (exactly_left call.ensures.exactly c.if-is_answered.false refl)
    in
    (call.auto.book ∙ loop.invariant.0, call.auto.out ∙ loop.invariant.1, far)

pub shape_of-book : goal.shape_of-book
shape_of-book c = c.loop-at.invariant.0

pub shape_of-out : goal.shape_of-out
shape_of-out c = c.loop-at.invariant.1

pub returns : goal.returns
returns c =
    let told = far_done c.loop-at.invariant.2 c.loop-at-test.false in
    record { book_after = told.0; exactly = told.1 }

pub slice_bounds-is_answered-count : goal.slice_bounds-is_answered-count
slice_bounds-is_answered-count c = (placed c.before.before.before).line

pub slice_bounds-is_answered-start : goal.slice_bounds-is_answered-start
slice_bounds-is_answered-start c = (placed c.before.before.before).line

pub slice_bounds-is_answered-end : goal.slice_bounds-is_answered-end
slice_bounds-is_answered-end c = (placed c.before.before.before).line_in_law

pub slice_bounds-is_answered-count-in-loop-at : goal.slice_bounds-is_answered-count-in-loop-at
slice_bounds-is_answered-count-in-loop-at c = (placed c.before.before.before.before).answer

pub slice_bounds-is_answered-start-in-loop-at : goal.slice_bounds-is_answered-start-in-loop-at
slice_bounds-is_answered-start-in-loop-at c = (placed c.before.before.before.before).answer

pub slice_bounds-is_answered-end-in-loop-at : goal.slice_bounds-is_answered-end-in-loop-at
slice_bounds-is_answered-end-in-loop-at c = (placed c.before.before.before.before).answer_in
