-- The n-th next dates: each lies in its own month, and the months rise with n, so each is later than the one before.
-- Assumes nothing.
use Prim.Native.Nat.{ℕ, suc, ◌+◌, ◌-◌, ◌≤◌, ◌<◌}
use native.Mathlib.Nat.{mul-suc, mul-zero}
use native.Mathlib.Omega.{arith}
use mathlib.Core.Path.{◌≡◌, sym, ◌∙◌, subst}
use mathlib.Core.Logic.{⊎_elim}
use mathlib.Core.Bool.{true, false}
use lib.Dec.{leb}
use borrow.Author.Tests.{leb-true}
use Rattle.loops.proofs.BoolLaws.{and_left, and_right, decided, eq_or_ne, le_or_lt}
use Rattle.months.specs.Months.{days_of, start}
use Rattle.calendar.specs.Dates.{is_date, month_index, day_number, day_number_of, DateAnswer, on}
use Rattle.calendar.specs.Next.{is_step, next_month, day_within, next_date, numbered, next_answer}
use Rattle.calendar.specs.Promises.{Accepted, Reason, bad_date, bad_step, bad_count, too_late, good}
use Rattle.calendar.specs.declared.answers.Date.{Date}
use Rattle.months.proofs.MonthLaws.{days_of_bounds}
use Rattle.months.proofs.StartLaws.{start_after}
use Rattle.calendar.proofs.DateLaws.{date_real, date_in_real, index_days, number_in}
use Rattle.calendar.proofs.AnswerLaws.{on_parts, next_bad_date, next_bad_step, next_bad_count, next_too_late, next_given}

-- what is answered when there is one
pub given : (y m d s n : ℕ) → Accepted y m d s n → next_answer y m d s n ≡ on (next_date y m d s n) (day_number_of (next_date y m d s n))
unfolding numbered
given y m d s n w = next_given y m d s n w.anchor w.step w.count w.in_time

-- every answer has its reason, so a refusal is given exactly when its reason holds
pub reason : (y m d s n : ℕ) {a : DateAnswer} → next_answer y m d s n ≡ a → Reason y m d s n a
reason y m d s n p =
    ⊎_elim
    (λ (f : is_date y m d ≡ true).
    ⊎_elim
    (λ (g : is_step s ≡ true).
    ⊎_elim
    (λ (z : n ≡ 0). subst (Reason y m d s n) (sym (next_bad_count y m d s n f g z) ∙ p) (bad_count f g z))
    (λ (z : n ≡ 0 → ⊥).
    ⊎_elim
    (λ (l : 4800 ≤ next_month y m s n). subst (Reason y m d s n) (sym (next_too_late y m d s n f g z l) ∙ p) (too_late f g z l))
    (λ (l : next_month y m s n < 4800).
    let w : Accepted y m d s n = record { anchor = f; step = g; count = z; in_time = l } in
    subst (Reason y m d s n) (sym (given y m d s n w) ∙ p) (good w))
    (le_or_lt 4800 (next_month y m s n)))
    (eq_or_ne n 0))
    (λ (g : is_step s ≡ false). subst (Reason y m d s n) (sym (next_bad_step y m d s n f g) ∙ p) (bad_step f g))
    (decided (is_step s)))
    (λ (f : is_date y m d ≡ false). subst (Reason y m d s n) (sym (next_bad_date y m d s n f) ∙ p) (bad_date f))
    (decided (is_date y m d))

pub accepted : (y m d s n : ℕ) {e : Date} {k : ℕ} → next_answer y m d s n ≡ on e k → Accepted y m d s n
accepted y m d s n p = of (reason y m d s n p)
  where
    of : {e : Date} {k : ℕ} → Reason y m d s n (on e k) → Accepted y m d s n
    of (good w) = w

-- the number of the n-th next date, from its month's start
next_number : ℕ → ℕ → ℕ → ℕ → ℕ → ℕ
next_number y m d s n = start (next_month y m s n) + (day_within (next_month y m s n) d - 1)

next_number_law : (y m d s n : ℕ) → day_number_of (next_date y m d s n) ≡ next_number y m d s n
unfolding next_date next_number
next_number_law y m d s n = number_in (next_month y m s n) (day_within (next_month y m s n) d)

pub step_least : (s : ℕ) → is_step s ≡ true → 1 ≤ s
unfolding is_step
step_least s e = leb-true 1 s (and_left _ _ e)

pub step_most : (s : ℕ) → is_step s ≡ true → s ≤ 120
unfolding is_step
step_most s e = leb-true s 120 (and_right (leb 1 s) (leb s 120) e)

-- the months rise by the step
pub month_rises : (y m s n : ℕ) → next_month y m s (suc n) ≡ next_month y m s n + s
month_rises y m s n = omega (arith, mul-suc s n)

-- a day of a month has a smaller number than any day of a later month
between : (i j a b : ℕ) → i < j → a ≤ days_of i → 1 ≤ a → start i + (a - 1) < start j + (b - 1)
between i j a b h k l = omega (arith, start_after i j h)

rises : (y m d s n : ℕ) → 1 ≤ d → 1 ≤ s → next_number y m d s n < next_number y m d s (suc n)
unfolding next_number
rises y m d s n h k =
    between (next_month y m s n) (next_month y m s (suc n)) (day_within (next_month y m s n) d) (day_within (next_month y m s (suc n)) d)
    (omega (arith, month_rises y m s n)) (omega arith) (omega (arith, days_of_bounds (next_month y m s n)))

from_anchor : (y m d s : ℕ) → is_date y m d ≡ true → next_number y m d s 0 ≡ day_number y m d
unfolding next_number day_number
from_anchor y m d s e =
    let w = date_real y m d e in
    let z : next_month y m s 0 ≡ month_index y m = omega (arith, mul-zero s) in
    rw z (omega (arith, index_days y m w.year_least w.month_least w.month_most, w.day_most))

-- the next one is later
pub number_rises : (y m d s n : ℕ) → 1 ≤ d → 1 ≤ s → day_number_of (next_date y m d s n) < day_number_of (next_date y m d s (suc n))
number_rises y m d s n h k = rw (next_number_law y m d s n, next_number_law y m d s (suc n)) (rises y m d s n h k)

-- with no step at all it is the anchor
pub number_anchor : (y m d s : ℕ) → is_date y m d ≡ true → day_number_of (next_date y m d s 0) ≡ day_number y m d
number_anchor y m d s e = next_number_law y m d s 0 ∙ from_anchor y m d s e

-- an answer that is a date is the n-th next date and its number
pub answered : (y m d s n : ℕ) {e : Date} {k : ℕ} → next_answer y m d s n ≡ on e k → (next_date y m d s n ≡ e) × (day_number_of (next_date y m d s n) ≡ k)
answered y m d s n p = on_parts (sym (given y m d s n (accepted y m d s n p)) ∙ p)

-- it exists
pub next_exists : (y m d s n : ℕ) → Accepted y m d s n → is_date (next_date y m d s n).year (next_date y m d s n).month (next_date y m d s n).day ≡ true
unfolding next_date
next_exists y m d s n w =
    let anchor = date_real y m d w.anchor in
    date_in_real (next_month y m s n) (day_within (next_month y m s n) d) w.in_time
    (omega (arith, anchor.day_least, days_of_bounds (next_month y m s n))) (omega arith)

-- where there is a next one, there is the one before it
pub accepted_before : (y m d s n : ℕ) → Accepted y m d s (suc (suc n)) → Accepted y m d s (suc n)
accepted_before y m d s n w =
    record { anchor = w.anchor; step = w.step; count = λ z. omega arith; in_time = omega (arith, w.in_time, month_rises y m s (suc n)) }
