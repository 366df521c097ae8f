-- Day numbers and dates belong to each other, one to one, over the 400 years: a day lies in exactly one month, and a date in its own.
-- Assumes nothing.
use Prim.Native.Nat.{ℕ, ◌+◌, ◌-◌, ◌≤◌}
use native.Mathlib.Omega.{arith}
use mathlib.Core.Path.{◌≡◌, sym, ◌∙◌, ap}
use mathlib.Core.Bool.{true}
use Rattle.months.specs.Months.{start}
use Rattle.calendar.specs.Dates.{is_date, month_index, date_in, day_number, month_on, date_of}
use Rattle.calendar.specs.declared.answers.Date.{Date}
use Rattle.calendar.proofs.DateLaws.{Real, date_real, date_in_real, index_year, index_month, index_days, index_small, number_in, end_small, Inside, month_on_is, month_on_inside}

-- a date lies in its month
date_inside : (y m d : ℕ) → Real y m d → Inside (month_index y m) (day_number y m d)
unfolding day_number
date_inside y m d w = record { begun = omega arith; not_over = omega (arith, index_days y m w.year_least w.month_least w.month_most) }

-- a date's day number is at most the last
pub number_small : (y m d : ℕ) → is_date y m d ≡ true → day_number y m d ≤ 146096
number_small y m d e =
    let w = date_real y m d e in
    let l = date_inside y m d w in
    omega (arith, end_small (month_index y m) (index_small y m w.year_most w.month_least w.month_most))

-- dates are the same whose parts are
same : {a b c a' b' c' : ℕ} → a ≡ a' → b ≡ b' → c ≡ c' → ◌≡◌ {A = Date} (record { year = a; month = b; day = c }) (record { year = a'; month = b'; day = c' })
same p q r = cc

-- a date's day of the month, from its day number
day_back : (y m d : ℕ) → 1 ≤ d → day_number y m d - start (month_index y m) + 1 ≡ d
unfolding day_number
day_back y m d h = omega arith

-- the date of a date's day number is that date
pub date_of_number : (y m d : ℕ) → is_date y m d ≡ true → date_of (day_number y m d) ≡ record { year = y; month = m; day = d }
unfolding date_of
date_of_number y m d e =
    let w = date_real y m d e in
    let on = month_on_is (month_index y m) (day_number y m d) (index_small y m w.year_most w.month_least w.month_most) (date_inside y m d w) in
    ap (λ (i : ℕ). date_in i (day_number y m d - start i + 1)) on
    ∙ same (index_year y m w.year_least w.month_least w.month_most) (index_month y m w.year_least w.month_least w.month_most) (day_back y m d w.day_least)

-- the date of a day exists
pub date_of_real : (k : ℕ) → k ≤ 146096 → is_date (date_of k).year (date_of k).month (date_of k).day ≡ true
unfolding date_of
date_of_real k h =
    let w = month_on_inside k h in
    date_in_real (month_on k) (k - start (month_on k) + 1) (omega (arith, w.1)) (omega arith) (omega (arith, w.0.begun, w.0.not_over))

-- and its day number is that day
pub number_of_date : (k : ℕ) → k ≤ 146096 → day_number (date_of k).year (date_of k).month (date_of k).day ≡ k
unfolding date_of
number_of_date k h =
    let w = month_on_inside k h in
    number_in (month_on k) (k - start (month_on k) + 1) ∙ omega (arith, w.0.begun)

-- so a later date has a greater number, and two dates with one number are one date
pub number_one : (y m d y' m' d' : ℕ) → is_date y m d ≡ true → is_date y' m' d' ≡ true → day_number y m d ≡ day_number y' m' d'
    → ◌≡◌ {A = Date} (record { year = y; month = m; day = d }) (record { year = y'; month = m'; day = d' })
number_one y m d y' m' d' e f p = sym (date_of_number y m d e) ∙ ap date_of p ∙ date_of_number y' m' d' f
