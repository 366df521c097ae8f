-- The cases of the calendar's answers: which refusal comes first, and what is answered when none comes.
-- Assumes nothing.
use Prim.Native.Nat.{ℕ, ◌≤◌, ◌<◌, min}
use native.Mathlib.Omega.{arith}
use mathlib.Core.Path.{◌≡◌, ap}
use mathlib.Core.Bool.{true, false}
use Rattle.std.specs.Prelude.{Err}
use borrow.Author.Tests.{le-leb, lt-leb, eq-eqb, ne_eqb}
use Rattle.loops.specs.Loops.{pick}
use Rattle.loops.proofs.BoolLaws.{pick_true, pick_false}
use Rattle.months.specs.Months.{start}
use Rattle.calendar.specs.Dates.{is_date, day_number, date_of, on, day_number_answer, date_answer}
use Rattle.calendar.specs.Next.{is_step, next_month, next_date, numbered, next_answer}
use Rattle.calendar.specs.declared.answers.Date.{Date}
use Rattle.calendar.specs.declared.answers.Dated.{Dated}
use Rattle.calendar.specs.declared.answers.DateRefusal.TheVariants.{BadDate, BadStep, BadCount, TooLate}

-- a month that is in the table, or the one after it, is not cut off
pub start_uncut : (m : ℕ) → m ≤ 4800 → start (min m 4800) ≡ start m
start_uncut m h = ap start (omega arith)

-- an answer settles the date and its day number
pub on_parts : {d e : Date} {j k : ℕ} → on d j ≡ on e k → (d ≡ e) × (j ≡ k)
on_parts {d} {e} {j} {k} p =
    let r : ◌≡◌ {A = Dated} (record { date = d; number = j }) (record { date = e; number = k }) = cc in
    (ap (λ (x : Dated). x.date) r, ap (λ (x : Dated). x.number) r)

-- the day number of a date
pub number_refused : (y m d : ℕ) → is_date y m d ≡ false → day_number_answer y m d ≡ Err BadDate
unfolding day_number_answer
number_refused y m d e = pick_false _ _ e

pub number_given : (y m d : ℕ) → is_date y m d ≡ true → day_number_answer y m d ≡ on (record { year = y; month = m; day = d }) (day_number y m d)
unfolding day_number_answer
number_given y m d e = pick_true _ _ e

-- the date of a day number
pub date_refused : (k : ℕ) → 146096 < k → date_answer k ≡ Err TooLate
unfolding date_answer
date_refused k h = pick_false _ _ (lt-leb k 146096 h)

pub date_given : (k : ℕ) → k ≤ 146096 → date_answer k ≡ on (date_of k) k
unfolding date_answer
date_given k h = pick_true _ _ (le-leb k 146096 h)

-- the n-th next date: the four refusals in their order, then the date
module _ (y m d s n : ℕ) where
  pub next_bad_date : is_date y m d ≡ false → next_answer y m d s n ≡ Err BadDate
  unfolding next_answer pick
  next_bad_date e = rw e

  pub next_bad_step : is_date y m d ≡ true → is_step s ≡ false → next_answer y m d s n ≡ Err BadStep
  unfolding next_answer pick
  next_bad_step e f = rw (e, f)

  pub next_bad_count : is_date y m d ≡ true → is_step s ≡ true → n ≡ 0 → next_answer y m d s n ≡ Err BadCount
  unfolding next_answer pick
  next_bad_count e f z = rw (e, f, eq-eqb n 0 z)

  pub next_too_late : is_date y m d ≡ true → is_step s ≡ true → (n ≡ 0 → ⊥) → 4800 ≤ next_month y m s n → next_answer y m d s n ≡ Err TooLate
  unfolding next_answer pick
  next_too_late e f z l = rw (e, f, ne_eqb n 0 z, le-leb 4800 (next_month y m s n) l)

  pub next_given : is_date y m d ≡ true → is_step s ≡ true → (n ≡ 0 → ⊥) → next_month y m s n < 4800 → next_answer y m d s n ≡ numbered (next_date y m d s n)
  unfolding next_answer pick
  next_given e f z l = rw (e, f, ne_eqb n 0 z, lt-leb 4800 (next_month y m s n) l)
