-- `calendar::dates::next_date` meets its contract: the refusals in their order; 120 months times a 32-bit count fits 64 bits.
-- Assumes nothing.
use Prim.Native.Nat.{ℕ, ◌+◌, ◌*◌, ◌≤◌, ◌<◌, ◌^◌}
use native.Mathlib.Nat.{mul-le-mul_right}
use native.Mathlib.Omega.{arith}
use mathlib.Core.Path.{sym, ◌∙◌, ap}
use borrow.Author.Rules.{rules}
use Rattle.loops.proofs.BoolLaws.{test_passed, test_failed}
use Rattle.calendar.specs.Dates.{date_in}
use Rattle.calendar.specs.Next.{day_within, numbered, next_date}
use Rattle.calendar.proofs.DateLaws.{date_real}
use Rattle.calendar.proofs.AnswerLaws.{next_bad_date, next_bad_step, next_bad_count, next_too_late, next_given}
use Rattle.calendar.proofs.NextLaws.{step_most}
use Rattle.calendar.proofs.dates.next_date.Goals as goal

pub returns-then-not-is_date : goal.returns-then-not-is_date
returns-then-not-is_date c = sym (next_bad_date _ _ _ _ _ (test_failed c.is_date.ensures c.if-not-is_date.true-raw))

pub returns-then-not-is_step : goal.returns-then-not-is_step
returns-then-not-is_step c =
    sym
    (next_bad_step _ _ _ _ _
    (test_passed c.is_date.ensures c.if-not-is_date.false-raw)
    (test_failed c.is_step.ensures c.if-not-is_step.true-raw))

pub returns-then-n-eq0 : goal.returns-then-n-eq0
returns-then-n-eq0 c =
    sym
    (next_bad_count _ _ _ _ _
    (test_passed c.is_date.ensures c.if-not-is_date.false-raw)
    (test_passed c.is_step.ensures c.if-not-is_step.false-raw)
    c.if-n-eq0.true)

pub index_of-requires : goal.index_of-requires
index_of-requires c = test_passed c.is_date.ensures c.if-not-is_date.false-raw

-- the months of the count
counted : (s n : ℕ) → s ≤ 120 → n < 2 ^ 32 → s * n < 2 ^ 40
counted s n h k = let l : s * n ≤ 120 * n = mul-le-mul_right n h in omega arith

pub overflow_mul-far : goal.overflow_mul-far
overflow_mul-far c =
    let args = c.args in
    let l = counted args.step args.n (step_most _ (test_passed c.is_step.ensures c.if-not-is_step.false-raw)) (search rules) in
    omega arith

pub overflow_add-far : goal.overflow_add-far
overflow_add-far c =
    let args = c.args in
    let l = counted args.step args.n (step_most _ (test_passed c.is_step.ensures c.if-not-is_step.false-raw)) (search rules) in
    omega arith

pub returns-then-far : goal.returns-then-far
returns-then-far c =
    sym
    (next_too_late _ _ _ _ _
    (test_passed c.is_date.ensures c.if-not-is_date.false-raw)
    (test_passed c.is_step.ensures c.if-not-is_step.false-raw)
    c.if-n-eq0.false
    (omega arith))

pub within-requires : goal.within-requires
within-requires c =
    let w = date_real _ _ _ (test_passed c.is_date.ensures c.if-not-is_date.false-raw) in
    (search rules, w.day_least)

pub returns : goal.returns
unfolding next_date
returns c =
    let args = c.args in
    c.within.ensures
    ∙ ap (λ (i : ℕ). numbered (date_in (i + args.step * args.n) (day_within (i + args.step * args.n) args.day))) c.index_of.ensures
    ∙ sym
    (next_given _ _ _ _ _
    (test_passed c.is_date.ensures c.if-not-is_date.false-raw)
    (test_passed c.is_step.ensures c.if-not-is_step.false-raw)
    c.if-n-eq0.false
    (omega arith))
