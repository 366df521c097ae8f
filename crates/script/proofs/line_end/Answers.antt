-- `script::line_end` meets its contract. The loop's invariant: the line feed from here on is the one from the start on.
-- Assumes nothing.
use Prim.Native.Nat.{◌≤◌, ◌<◌}
use native.Mathlib.Omega.{arith}
use mathlib.Core.Path.{refl}
use mathlib.Core.Logic.{⊎_elim}
use lib.ListN.{length}
use Rattle.loops.proofs.BoolLaws.{le_or_lt}
use Rattle.script.proofs.LineLaws.{size_end, size_feed, size_more}
use Rattle.script.proofs.line_end.Goals as goal

pub loop-i-init : goal.loop-i-init
loop-i-init c = refl

pub returns-then-s-i-eq-LINE_FEED : goal.returns-then-s-i-eq-LINE_FEED
returns-then-s-i-eq-LINE_FEED c =
    let e = size_feed c.args.s.now c.loop-i.i c.loop-i-test.true c.if-s-i-eq-LINE_FEED.true in
    omega arith

pub loop-i-preserved : goal.loop-i-preserved
loop-i-preserved c =
    let e = size_more c.args.s.now c.loop-i.i c.loop-i-test.true c.if-s-i-eq-LINE_FEED.false in
    omega arith

pub returns : goal.returns
returns c =
    let e = size_end c.args.s.now c.loop-i.i c.loop-i-test.false in
    ⊎_elim
    (λ (h : length c.args.s.now ≤ c.args.at). let none = size_end c.args.s.now c.args.at h in omega arith)
    (λ (h : c.args.at < length c.args.s.now). omega arith)
    (le_or_lt (length c.args.s.now) c.args.at)
