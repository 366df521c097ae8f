-- The dates that follow an anchor in steps of months. Each is counted from the anchor, and never from a date that was shortened.
-- Assumes nothing.
use Rattle.std.specs.Prelude.{ℕ, ◌+◌, ◌*◌, min, Bool, ◌&&◌, not, leb, eqb, Err}
use Rattle.loops.specs.Loops.{pick}
use Rattle.months.specs.Months.{months, days_of}
use Rattle.calendar.specs.Dates.{is_date, month_index, date_in, day_number_of, DateAnswer, on}
use Rattle.calendar.specs.declared.answers.Date.{Date}
use Rattle.calendar.specs.declared.answers.DateRefusal.TheVariants.{BadDate, BadStep, BadCount, TooLate}

-- a step is 1 to 120 months
unfoldable pub is_step : ℕ → Bool
is_step step = leb 1 step && leb step 120

-- the month of the n-th next date
abbrev pub next_month : ℕ → ℕ → ℕ → ℕ → ℕ
next_month year month step n = month_index year month + step * n

-- the day in month m of an anchor's day: the same, or the month's last day where that month is shorter
abbrev pub day_within : ℕ → ℕ → ℕ
day_within m day = min day (days_of m)

-- the n-th next date
unfoldable pub next_date : ℕ → ℕ → ℕ → ℕ → ℕ → Date
next_date year month day step n = date_in (next_month year month step n) (day_within (next_month year month step n) day)

-- a date with its day number
unfoldable pub numbered : Date → DateAnswer
numbered d = on d (day_number_of d)

-- the answer to an anchor, a step and a count: the first refusal that fits, or the date with its day number
unfoldable pub next_answer : ℕ → ℕ → ℕ → ℕ → ℕ → DateAnswer
next_answer year month day step n =
    pick (not (is_date year month day)) (Err BadDate)
    (pick (not (is_step step)) (Err BadStep)
    (pick (eqb n 0) (Err BadCount)
    (pick (leb months (next_month year month step n)) (Err TooLate) (numbered (next_date year month day step n)))))
