-- `calendar::dates::day_number` meets its contract: the month's start from the table, and the days before in the month.
-- Assumes nothing.
use Prim.Native.Nat.{ℕ, ◌+◌, ◌-◌, ◌≤◌, min}
use native.Mathlib.Omega.{arith}
use mathlib.Core.Path.{◌≡◌, sym, ◌∙◌, ap}
use mathlib.Core.Bool.{true}
use Rattle.loops.proofs.BoolLaws.{test_passed, test_failed}
use Rattle.months.specs.Months.{start}
use Rattle.calendar.specs.Dates.{is_date, month_index, day_number, on}
use Rattle.calendar.proofs.DateLaws.{date_real, index_days, index_small, end_small}
use Rattle.calendar.proofs.AnswerLaws.{start_uncut, number_refused, number_given}
use Rattle.calendar.proofs.dates.day_number.Goals as goal

-- what the table was asked, and what it said
said : (y m d : ℕ) {i s : ℕ} → is_date y m d ≡ true → i ≡ month_index y m → s ≡ start (min i 4800) → (s ≡ start (month_index y m)) × (s + (d - 1) ≤ 146096)
said y m d e p q =
    let w = date_real y m d e in
    let small = index_small y m w.year_most w.month_least w.month_most in
    let f = q ∙ ap (λ (i : ℕ). start (min i 4800)) p ∙ start_uncut (month_index y m) (omega arith) in
    (f, omega (arith, end_small (month_index y m) small, index_days y m w.year_least w.month_least w.month_most))

pub returns-then-not-is_date : goal.returns-then-not-is_date
returns-then-not-is_date c = sym (number_refused _ _ _ (test_failed c.is_date.ensures c.if-not-is_date.true-raw))

pub index_of-requires : goal.index_of-requires
index_of-requires c = test_passed c.is_date.ensures c.if-not-is_date.false-raw

pub overflow_sub-result : goal.overflow_sub-result
overflow_sub-result c = let w = date_real _ _ _ (test_passed c.is_date.ensures c.if-not-is_date.false-raw) in omega arith

pub overflow_add-result : goal.overflow_add-result
overflow_add-result c =
    let e = test_passed c.is_date.ensures c.if-not-is_date.false-raw in
    let w = said _ _ _ e c.index_of.ensures c.month_start-start.ensures in
    omega arith

pub returns : goal.returns
unfolding day_number
returns c =
    let e = test_passed c.is_date.ensures c.if-not-is_date.false-raw in
    let args = c.args in
    ap (λ (s : ℕ). on (record { year = args.year; month = args.month; day = args.day }) (s + (args.day - 1)))
    (said _ _ _ e c.index_of.ensures c.month_start-start.ensures).0
    ∙ sym (number_given _ _ _ e)
