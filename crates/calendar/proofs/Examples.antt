-- Dates of the document, worked by computing.
-- Assumes nothing.
use Prim.Native.Nat.{ℕ}
use mathlib.Core.Path.{◌≡◌, refl, sym, ◌∙◌, ap}
use mathlib.Core.Bool.{true, false}
use Rattle.std.specs.Prelude.{Err}
use Rattle.loops.specs.Loops.{pick}
use Rattle.months.specs.Months.{month_lengths, leap, is_month, days_in, days_of, start}
use Rattle.calendar.specs.Dates.{is_date, day_number, date_of, on}
use Rattle.calendar.specs.Next.{is_step, next_date, numbered, next_answer}
use Rattle.calendar.specs.declared.answers.Date.{Date}
use Rattle.calendar.specs.declared.answers.DateRefusal.TheVariants.{BadDate, BadStep, BadCount, TooLate}
use Rattle.calendar.proofs.Bijection.{date_of_number}

abbrev date : ℕ → ℕ → ℕ → Date
date y m d = record { year = y; month = m; day = d }

-- 31 January 2023, monthly: 28 February, then 31 March
shortened : next_answer 2023 1 31 1 1 ≡ on (date 2023 2 28) 8459
unfolding pick month_lengths leap is_month days_in days_of start is_date day_number is_step next_date numbered next_answer
shortened = refl

not_from_shortened : next_answer 2023 1 31 1 2 ≡ on (date 2023 3 31) 8490
unfolding pick month_lengths leap is_month days_in days_of start is_date day_number is_step next_date numbered next_answer
not_from_shortened = refl

-- 31 January 2024: 29 February
leap_february : next_answer 2024 1 31 1 1 ≡ on (date 2024 2 29) 8825
unfolding pick month_lengths leap is_month days_in days_of start is_date day_number is_step next_date numbered next_answer
leap_february = refl

-- 29 February 2024, yearly: 28 February 2025
yearly : next_answer 2024 2 29 12 1 ≡ on (date 2025 2 28) 9190
unfolding pick month_lengths leap is_month days_in days_of start is_date day_number is_step next_date numbered next_answer
yearly = refl

-- 1 March 2000 is day 60. That the year 2400 would start at 146,097 is `year_2400_start`, in StartLaws.
march_2000 : day_number 2000 3 1 ≡ 60
unfolding pick month_lengths leap is_month days_in days_of start day_number
march_2000 = refl

day_60 : date_of 60 ≡ date 2000 3 1
unfolding is_date pick month_lengths leap is_month days_in
day_60 = ap date_of (sym march_2000) ∙ date_of_number 2000 3 1 refl

-- 2000 is a leap year and 2100 is not
leap_2000 : is_date 2000 2 29 ≡ true
unfolding pick month_lengths leap is_month days_in is_date
leap_2000 = refl

no_leap_2100 : is_date 2100 2 29 ≡ false
unfolding pick month_lengths leap is_month days_in is_date
no_leap_2100 = refl

-- the refusals, in their order: each call has this fault and all those after it
bad_date : next_answer 2023 2 29 0 0 ≡ Err BadDate
unfolding pick month_lengths leap is_month days_in is_date is_step next_answer
bad_date = refl

bad_step : next_answer 2399 12 31 121 0 ≡ Err BadStep
unfolding pick month_lengths leap is_month days_in is_date is_step next_answer
bad_step = refl

bad_count : next_answer 2399 12 31 1 0 ≡ Err BadCount
unfolding pick month_lengths leap is_month days_in is_date is_step next_answer
bad_count = refl

-- the largest count of all, and the first month that is too late
too_late : next_answer 2399 12 31 120 4294967295 ≡ Err TooLate
unfolding pick month_lengths leap is_month days_in is_date is_step next_answer
too_late = refl

just_too_late : next_answer 2399 12 1 1 1 ≡ Err TooLate
unfolding pick month_lengths leap is_month days_in is_date is_step next_answer
just_too_late = refl
