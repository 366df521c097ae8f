-- The months of the years 2000 to 2399: how many days each has, and the day on which it starts. Day 0 is 1 January 2000, and month 0 is
-- January 2000.
-- Assumes nothing.
use Rattle.std.specs.Prelude.{ℕ, zero, suc, ◌+◌, ◌-◌, ◌/◌, ◌%◌, ◌<◌, ◌≡◌, List, [], ◌∷◌, Bool, ◌&&◌, ◌||◌, not, leb, eqb, length, get_or}
use Rattle.loops.specs.Loops.{pick}

abbrev pub first_year : ℕ
first_year = 2000

abbrev pub last_year : ℕ
last_year = 2399

-- how many months these years have
abbrev pub months : ℕ
months = 4800

-- the days of January, February and so on to December
unfoldable pub month_lengths : List ℕ
month_lengths = 31 ∷ 28 ∷ 31 ∷ 30 ∷ 31 ∷ 30 ∷ 31 ∷ 31 ∷ 30 ∷ 31 ∷ 30 ∷ 31 ∷ []

-- every fourth year is a leap year; of the full hundreds only every fourth is one
unfoldable pub leap : ℕ → Bool
leap year = eqb (year % 4) 0 && (not (eqb (year % 100) 0) || eqb (year % 400) 0)

-- the months are numbered from 1 to 12
unfoldable pub is_month : ℕ → Bool
is_month month = leb 1 month && leb month 12

-- the days of a month: 29 for the February of a leap year, else as listed; what is no month has none
unfoldable pub days_in : ℕ → ℕ → ℕ
days_in year month = pick (is_month month) (pick (eqb month 2 && leap year) 29 (get_or month_lengths (month - 1) 0)) 0

-- the year that month m lies in, and its number there
abbrev pub year_of : ℕ → ℕ
year_of m = first_year + m / 12

abbrev pub month_of : ℕ → ℕ
month_of m = m % 12 + 1

-- the days of month m
unfoldable pub days_of : ℕ → ℕ
days_of m = days_in (year_of m) (month_of m)

-- the day on which month m starts: the days of all the months before it
unfoldable pub start : ℕ → ℕ
start zero = 0
start (suc m) = start m + days_of m

-- the list l has the starts of all the months
pub record Starts (l : List ℕ) : Type 0 where
  pub size : length l ≡ months
  pub entry : (m : ℕ) → m < months → get_or l m 0 ≡ start m
