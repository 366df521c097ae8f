-- `moment::gather` meets its contract: the loop's invariant is that the vector is that of the turns so far.
-- Assumes nothing.
use Prim.Native.Nat.{ℕ}
use mathlib.Core.Path.{◌∙◌, ap}
use Rattle.loops.proofs.LoopLaws.{times_none, times_more, times_done}
use Rattle.register.specs.Calls.{gathered_from}
use Rattle.moment.proofs.gather.Goals as goal
use Rattle.moment.proofs.gather.Invariants.{turn}

pub loop-s-init : goal.loop-s-init
loop-s-init c = times_none _ _

pub loop-s-preserved : goal.loop-s-preserved
loop-s-preserved c =
    let args = c.args in
    times_more _ _ _ c.loop-s.invariant
    (c.gather_one.ensures ∙ ap (λ (x : ℕ). turn args.n args.d.0 args.book.now x c.loop-s.vector) c.nth.ensures)

pub returns : goal.returns
unfolding gathered_from
returns c = times_done _ _ c.loop-s.auto.s-end c.loop-s-test.false c.loop-s.invariant
