-- Dates of the years 2000 to 2399 and their day numbers: which dates exist, the number of a date, and the date of a number.
-- Assumes nothing.
use Rattle.std.specs.Prelude.{ℕ, zero, suc, ◌+◌, ◌-◌, ◌*◌, Bool, ◌&&◌, leb, Result, Ok, Err}
use Rattle.loops.specs.Loops.{pick}
use Rattle.paper.specs.Calls.{last_day}
use Rattle.months.specs.Months.{first_year, last_year, days_in, year_of, month_of, start}
use Rattle.calendar.specs.declared.answers.Date.{Date}
use Rattle.calendar.specs.declared.answers.DateRefusal.{DateRefusal}
use Rattle.calendar.specs.declared.answers.DateRefusal.TheVariants.{BadDate, BadStep, BadCount, TooLate}
use Rattle.calendar.specs.declared.answers.Dated.{Dated}

-- the refusals and their numbers, in the order in which they are looked for
--   1 the anchor is no date · 2 the step is not 1 to 120 months · 3 the count is 0 · 4 the result lies after 2399
-- A day number past the last day is a result after 2399 too, and is refused by 4.
abbrev pub refusal_number : DateRefusal → ℕ
refusal_number BadDate = 1
refusal_number BadStep = 2
refusal_number BadCount = 3
refusal_number TooLate = 4

-- the date exists: a year from 2000 to 2399, and a day that the month has. What is no month has no days.
unfoldable pub is_date : ℕ → ℕ → ℕ → Bool
is_date year month day = leb first_year year && (leb year last_year && (leb 1 day && leb day (days_in year month)))

-- months are counted from January 2000, which is month 0
abbrev pub month_index : ℕ → ℕ → ℕ
month_index year month = (year - first_year) * 12 + (month - 1)

-- the day d of month m
abbrev pub date_in : ℕ → ℕ → Date
date_in m d = record { year = year_of m; month = month_of m; day = d }

-- a date's day number: the days of the months before, and the days before it in its month
unfoldable pub day_number : ℕ → ℕ → ℕ → ℕ
day_number year month day = start (month_index year month) + (day - 1)

abbrev pub day_number_of : Date → ℕ
day_number_of d = day_number d.year d.month d.day

-- the last of the months 0 to n that starts by day k
unfoldable pub month_by : ℕ → ℕ → ℕ
month_by zero k = 0
month_by (suc n) k = pick (leb (start (suc n)) k) (suc n) (month_by n k)

-- the month that day k lies in
unfoldable pub month_on : ℕ → ℕ
month_on k = month_by 4799 k

-- the date of day k: the month that it lies in, and how far into that month it is
unfoldable pub date_of : ℕ → Date
date_of k = date_in (month_on k) (k - start (month_on k) + 1)

-- what is answered: a date with its day number, or why there is none
abbrev pub DateAnswer : Type 0
DateAnswer = Result Dated DateRefusal

-- the answer that is the date d with the day number k
abbrev pub on : Date → ℕ → DateAnswer
on d k = Ok (record { date = d; number = k })

-- the answer to a date whose day number is asked for
unfoldable pub day_number_answer : ℕ → ℕ → ℕ → DateAnswer
day_number_answer year month day = pick (is_date year month day) (on (record { year = year; month = month; day = day }) (day_number year month day)) (Err BadDate)

-- the answer to a day number whose date is asked for
unfoldable pub date_answer : ℕ → DateAnswer
date_answer k = pick (leb k last_day) (on (date_of k) k) (Err TooLate)
