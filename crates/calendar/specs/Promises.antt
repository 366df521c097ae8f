-- What the theorems say of the answers: that a date exists and has its own number, and why an answer is given.
-- Assumes nothing.
use Rattle.std.specs.Prelude.{ℕ, ◌≤◌, ◌<◌, ◌≡◌, true, false, Err}
use Rattle.months.specs.Months.{months}
use Rattle.calendar.specs.Dates.{is_date, day_number_of, DateAnswer, on}
use Rattle.calendar.specs.Next.{is_step, next_month, next_date}
use Rattle.calendar.specs.declared.answers.Date.{Date}
use Rattle.calendar.specs.declared.answers.DateRefusal.TheVariants.{BadDate, BadStep, BadCount, TooLate}

-- the date e exists, and k is its day number
pub record Good (e : Date) (k : ℕ) : Type 0 where
  pub exists : is_date e.year e.month e.day ≡ true
  pub number : k ≡ day_number_of e

-- there is an n-th next date
pub record Accepted (y m d s n : ℕ) : Type 0 where
  pub anchor : is_date y m d ≡ true
  pub step : is_step s ≡ true
  pub count : n ≡ 0 → ⊥
  pub in_time : next_month y m s n < months

-- an answer with its reason: what is wrong, with nothing wrong that is looked for before it, or nothing at all
pub data Reason (y m d s n : ℕ) : DateAnswer → Type 0 where
  bad_date : is_date y m d ≡ false → Reason y m d s n (Err BadDate)
  bad_step : is_date y m d ≡ true → is_step s ≡ false → Reason y m d s n (Err BadStep)
  bad_count : is_date y m d ≡ true → is_step s ≡ true → n ≡ 0 → Reason y m d s n (Err BadCount)
  too_late : is_date y m d ≡ true → is_step s ≡ true → (n ≡ 0 → ⊥) → months ≤ next_month y m s n → Reason y m d s n (Err TooLate)
  good : Accepted y m d s n → Reason y m d s n (on (next_date y m d s n) (day_number_of (next_date y m d s n)))
