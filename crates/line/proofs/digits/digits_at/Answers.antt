-- `line::digits::digits_at` meets its contract. The loop's invariant: the digits passed and those that are left are all of them.
-- Assumes nothing.
use native.Mathlib.Omega.{arith}
use mathlib.Core.Logic.{⊎_elim}
use Prim.Native.Nat.{◌≤◌, ◌<◌}
use lib.ListN.{length}
use Rattle.loops.proofs.BoolLaws.{le_or_lt}
use Rattle.line.proofs.DigitLaws.{digit_told, run_more, run_stop, run_end}
use Rattle.line.proofs.digits.digits_at.Goals as goal

pub loop-i-preserved : goal.loop-i-preserved
loop-i-preserved c =
    let e = run_more c.args.s.now c.loop-i.i c.loop-i-test.true (digit_told _ c.is_ascii_digit.ensures.value c.if-not-is_ascii_digit.false) in
    omega arith

pub returns-then-not-is_ascii_digit : goal.returns-then-not-is_ascii_digit
returns-then-not-is_ascii_digit c =
    let e = run_stop c.args.s.now c.loop-i.i c.loop-i-test.true (digit_told _ c.is_ascii_digit.ensures.value c.if-not-is_ascii_digit.true) in
    omega arith

pub returns : goal.returns
returns c =
    let e = run_end c.args.s.now c.loop-i.i c.loop-i-test.false in
    ⊎_elim
    (λ (h : length c.args.s.now ≤ c.args.at). let none = run_end c.args.s.now c.args.at h in omega arith)
    (λ (h : c.args.at < length c.args.s.now). omega arith)
    (le_or_lt (length c.args.s.now) c.args.at)
