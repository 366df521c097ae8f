-- `line::digits::read_number_law` meets its contract: one law for each test that it makes.
-- Assumes nothing.
use native.Mathlib.Omega.{arith}
use borrow.Author.Rules.{rules}
use Rattle.line.proofs.DigitLaws.{run_inside}
use Rattle.line.proofs.NumberLaws.{found_no_digit, found_too_long, found_spare_zero, found_too_large, found_number}
use Rattle.line.proofs.digits.read_number.Goals as goal

pub returns-then-n-eq0 : goal.returns-then-n-eq0
returns-then-n-eq0 c = found_no_digit _ _ c.digits_at-n.ensures c.if-n-eq0.true

pub returns-then-n-gt-MOST_DIGITS : goal.returns-then-n-gt-MOST_DIGITS
returns-then-n-gt-MOST_DIGITS c = found_too_long _ _ c.digits_at-n.ensures c.if-n-gt-MOST_DIGITS.true

-- a digit stands here, so the place is within the text
pub bounds-s-at : goal.bounds-s-at
bounds-s-at c =
    let called = c.digits_at-n.ensures in
    let h = run_inside c.args.s.now c.args.at (omega (arith, called)) in
    omega (arith, called)

pub returns-then-s-at-eq48 : goal.returns-then-s-at-eq48
returns-then-s-at-eq48 c = found_spare_zero _ _ c.digits_at-n.ensures (omega arith) c.if-s-at-eq48.true

pub value_at-v-requires : goal.value_at-v-requires
value_at-v-requires c = search rules

pub returns-then-v-gt-MOST_NUMBER : goal.returns-then-v-gt-MOST_NUMBER
returns-then-v-gt-MOST_NUMBER c = found_too_large _ _ c.value_at-v.ensures c.if-v-gt-MOST_NUMBER.true

pub overflow_add-result : goal.overflow_add-result
overflow_add-result c =
    let called = c.digits_at-n.ensures in
    let h = run_inside c.args.s.now c.args.at (omega (arith, called)) in
    omega (arith, called)

pub returns : goal.returns
returns c =
    found_number _ _
    c.digits_at-n.ensures
    c.value_at-v.ensures
    c.if-n-eq0.false
    c.if-n-gt-MOST_DIGITS.false
    (grind arith)
    c.if-v-gt-MOST_NUMBER.false
