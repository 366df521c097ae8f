-- `whole::links_of_fit` meets its contract. The loop's invariant: what was passed is fit.
-- Assumes nothing.
use Prim.Native.Nat.{ℕ}
use native.Mathlib.Nat.{le_antisymm}
use mathlib.Core.Path.{◌∙◌, sym, ap}
use Rattle.loops.specs.Loops.{every}
use Rattle.loops.proofs.BoolLaws.{test_passed, test_failed}
use Rattle.loops.proofs.LoopLaws.{every_none, every_more, every_stop}
use mathlib.Core.Bool.{◌||◌}
use lib.Dec.{eqb}
use Rattle.book.specs.Layout.{link_of}
use Rattle.fit.specs.Fit.{link_fit}
use Rattle.whole.proofs.links_of_fit.Goals as goal

pub loop-i-init : goal.loop-i-init
loop-i-init c = every_none _

pub returns-then-not-links_out_fit : goal.returns-then-not-links_out_fit
returns-then-not-links_out_fit c =
    let args = c.args in
    sym (every_stop _ _ _ c.loop-i-test.true
    (test_failed (c.links_out_fit.ensures
    ∙ ap (λ (x : ℕ). every args.n.depots (λ to. eqb x to || link_fit args.n args.book.now args.s.0 x (link_of args.s.0 x to)))
    c.nth.ensures) c.if-not-links_out_fit.true-raw))

pub loop-i-preserved : goal.loop-i-preserved
loop-i-preserved c =
    let args = c.args in
    every_more _ _ c.loop-i.invariant
    (test_passed (c.links_out_fit.ensures
    ∙ ap (λ (x : ℕ). every args.n.depots (λ to. eqb x to || link_fit args.n args.book.now args.s.0 x (link_of args.s.0 x to)))
    c.nth.ensures) c.if-not-links_out_fit.false-raw)

pub returns : goal.returns
returns c = sym (rw (le_antisymm c.loop-i.auto.i-end c.loop-i-test.false) at c.loop-i.invariant)
