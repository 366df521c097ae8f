-- The number of each answer of the calendar, and what it leaves in a caller's buffer.
-- Assumes nothing.
use Rattle.std.specs.Prelude.{ℕ, List, [], ◌∷◌, Ok, Err}
use Rattle.std.proofs.lemmas.List.Edits.{sets}
use Rattle.calendar.specs.Dates.{refusal_number, DateAnswer}

-- the words that a day number, a date and a next date take
abbrev pub number_words : ℕ
number_words = 1

abbrev pub date_words : ℕ
date_words = 3

abbrev pub next_words : ℕ
next_words = 4

-- the number of an answer: 0 for a date, else the refusal's
abbrev pub date_number : DateAnswer → ℕ
date_number (Err r) = refusal_number r
date_number (Ok d) = 0

-- what the question for a day number leaves in `out`: the number; nothing if refused
abbrev pub number_out : DateAnswer → List ℕ → List ℕ
number_out (Err r) o = o
number_out (Ok d) o = sets o 0 (d.number ∷ [])

-- what the question for a day's date leaves in `out`: year, month and day; nothing if refused
abbrev pub date_out : DateAnswer → List ℕ → List ℕ
date_out (Err r) o = o
date_out (Ok d) o = sets o 0 (d.date.year ∷ d.date.month ∷ d.date.day ∷ [])

-- what the question for a next date leaves in `out`: year, month, day and day number; nothing if refused
abbrev pub next_out : DateAnswer → List ℕ → List ℕ
next_out (Err r) o = o
next_out (Ok d) o = sets o 0 (d.date.year ∷ d.date.month ∷ d.date.day ∷ d.number ∷ [])
