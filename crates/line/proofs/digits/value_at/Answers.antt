-- `line::digits::value_at` meets its contract. The loop's invariant: the digits that are left, read after the value so far, give the
-- whole value; and what k digits spell is below 10 ^ k, so that ten digits never wrap.
-- Assumes nothing.
use Prim.Native.Nat.{◌-◌, ◌<◌}
use native.Mathlib.Omega.{arith}
use mathlib.Core.Path.{◌≡◌, refl, sym, ◌∙◌}
use mathlib.Core.Bool.{true}
use lib.ListN.{get_or}
use Rattle.line.specs.Number.{is_digit}
use Rattle.line.proofs.DigitLaws.{digit_told, digit_bounds, run_more, value_more, value_stop, value_end, value_small, value_start, value_grows}
use Rattle.line.proofs.digits.value_at.Goals as goal
use Rattle.line.proofs.digits.value_at.Goals.{Else-not-is_ascii_digit}

pub loop-i-init : goal.loop-i-init
loop-i-init c = (refl, value_start _, refl)

digit : (c : Else-not-is_ascii_digit) → is_digit (get_or c.args.s.now c.loop-i.i 0) ≡ true
digit c = digit_told _ c.is_ascii_digit.ensures.value c.if-not-is_ascii_digit.false

-- at a digit: one digit less is left, and the value is still small
small : (c : Else-not-is_ascii_digit) → c.loop-i.v < 1_000_000_000
small c =
    let e = run_more c.args.s.now c.loop-i.i c.loop-i-test.true (digit c) in
    value_small _ (c.loop-i.i - c.args.at) c.loop-i.invariant.1 (omega arith)

pub overflow_mul-v : goal.overflow_mul-v
overflow_mul-v c = let h = small c in omega arith

pub overflow_sub-v : goal.overflow_sub-v
overflow_sub-v c = (digit_bounds _ (digit c)).0

pub overflow_add-v : goal.overflow_add-v
overflow_add-v c = let h = small c in let d = digit_bounds _ (digit c) in omega arith

pub loop-i-preserved : goal.loop-i-preserved
loop-i-preserved c =
    let s = c.args.s.now in
    let inside = c.loop-i-test.true in
    let e = run_more s c.loop-i.i inside (digit c) in
    let d = digit_bounds _ (digit c) in (
      omega arith,
      value_grows _ _ _ _ c.loop-i.invariant.1 c.loop-i.auto.i (omega arith),
      sym (value_more s c.loop-i.i c.loop-i.v inside (digit c)) ∙ c.loop-i.invariant.2,
    )

pub returns-then-not-is_ascii_digit : goal.returns-then-not-is_ascii_digit
returns-then-not-is_ascii_digit c =
    sym (value_stop _ _ _ c.loop-i-test.true (digit_told _ c.is_ascii_digit.ensures.value c.if-not-is_ascii_digit.true)) ∙ c.loop-i.invariant.2

pub returns : goal.returns
returns c = sym (value_end _ _ _ c.loop-i-test.false) ∙ c.loop-i.invariant.2
