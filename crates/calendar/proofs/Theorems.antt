-- What the calendar promises beyond each single answer. The answers are those of the definitions, which the functions are proved to give.
-- Assumes nothing.
use Prim.Native.Nat.{ℕ, suc, ◌+◌, ◌≤◌, ◌<◌}
use native.Mathlib.Omega.{arith}
use mathlib.Core.Path.{◌≡◌, refl, sym, ◌∙◌, ap, subst}
use mathlib.Core.List.{◌∷◌}
use mathlib.Core.Bool.{true, false}
use mathlib.Core.Logic.{⊎_elim}
use lib.ListN.{length, get_or}
use Rattle.loops.proofs.BoolLaws.{decided}
use Rattle.months.specs.Months.{days_of}
use Rattle.calendar.specs.Dates.{is_date, day_number, day_number_of, date_of, on, day_number_answer, date_answer}
use Rattle.calendar.specs.Next.{next_date, next_answer}
use Rattle.calendar.specs.Promises.{Good}
use Rattle.calendar.specs.declared.answers.Date.{Date}
use Rattle.months.proofs.StartTable.{first, later}
use Rattle.months.proofs.StartLaws.{start_suc, table_length, table_start, last_start}
use Rattle.calendar.proofs.DateLaws.{date_real}
use Rattle.calendar.proofs.AnswerLaws.{on_parts, number_refused, number_given, date_given}
use Rattle.calendar.proofs.Bijection.{number_small, date_of_number, date_of_real, number_of_date}
use Rattle.calendar.proofs.NextLaws.{accepted, given, step_least, number_rises, number_anchor, answered, next_exists, accepted_before}

-- there and back: a date's number, asked for its date, gives that date
pub there_and_back : (y m d : ℕ) {e : Date} {k : ℕ} → day_number_answer y m d ≡ on e k → date_answer k ≡ on (record { year = y; month = m; day = d }) k
there_and_back y m d {k} p =
    ⊎_elim
    (λ (a : is_date y m d ≡ true).
    let f = (on_parts (sym (number_given y m d a) ∙ p)).1 in
    rw (← f) (date_given (day_number y m d) (number_small y m d a) ∙ ap (λ (x : Date). on x (day_number y m d)) (date_of_number y m d a)))
    (λ (a : is_date y m d ≡ false). let q = sym (number_refused y m d a) ∙ p in let z : ◌≡◌ {A = ℕ} 0 1 = cc in absurd (omega arith))
    (decided (is_date y m d))

-- back and there: a day's date, asked for its number, gives that day
pub back_and_there : (k : ℕ) → k ≤ 146096 → day_number_answer (date_of k).year (date_of k).month (date_of k).day ≡ on (date_of k) k
back_and_there k h =
    number_given (date_of k).year (date_of k).month (date_of k).day (date_of_real k h) ∙ ap (on (date_of k)) (number_of_date k h)

-- every day number up to the last is a date's, and that is all of them
pub date_answered : (k : ℕ) → k ≤ 146096 → (date_answer k ≡ on (date_of k) k) × Good (date_of k) k
date_answered k h = (date_given k h, record { exists = date_of_real k h; number = sym (number_of_date k h) })

module _ (y m d s : ℕ) where
  -- every accepted case is a date that exists, with its own number
  pub next_good : (n : ℕ) {e : Date} {k : ℕ} → next_answer y m d s n ≡ on e k → Good e k
  next_good n {e} {k} p =
      let said = answered y m d s n p in
      subst (λ (x : Date). Good x k) said.0
      (subst (λ (j : ℕ). Good (next_date y m d s n) j) said.1
      (record { exists = next_exists y m d s n (accepted y m d s n p); number = refl }))

  -- the first is later than the anchor
  pub next_first : {b : Date} {k : ℕ} → next_answer y m d s 1 ≡ on b k → day_number y m d < k
  next_first {k} q =
      let w = accepted y m d s 1 q in
      let anchor = date_real y m d w.anchor in
      omega (arith, number_anchor y m d s w.anchor, number_rises y m d s 0 anchor.day_least (step_least s w.step), (answered y m d s 1 q).1)

  -- each is later than the one before
  pub next_later : (n : ℕ) {a b : Date} {j k : ℕ} → next_answer y m d s n ≡ on a j → next_answer y m d s (suc n) ≡ on b k → j < k
  next_later n p q =
      let w = accepted y m d s n p in
      let anchor = date_real y m d w.anchor in
      omega (arith, number_rises y m d s n anchor.day_least (step_least s w.step), (answered y m d s n p).1, (answered y m d s (suc n) q).1)

  -- and there is one before each but the first
  pub next_before : (n : ℕ) {b : Date} {k : ℕ} → next_answer y m d s (suc (suc n)) ≡ on b k
      → next_answer y m d s (suc n) ≡ on (next_date y m d s (suc n)) (day_number_of (next_date y m d s (suc n)))
  next_before n q = given y m d s (suc n) (accepted_before y m d s n (accepted y m d s (suc (suc n)) q))

-- the table: 4,800 entries, 0 first, each the one before plus that month's days, and they are the month starts; the year 2400 would start
-- 31 days after the last of them
pub table_entries : length (first ∷ later) ≡ 4800
table_entries = table_length

pub table_rule : (m : ℕ) → m < 4799 → get_or (first ∷ later) (suc m) 0 ≡ get_or (first ∷ later) m 0 + days_of m
table_rule m h = table_start (suc m) (omega arith) ∙ start_suc m ∙ ap (λ (i : ℕ). i + days_of m) (sym (table_start m (omega arith)))

pub table_first : get_or (first ∷ later) 0 0 ≡ 0
table_first = refl

pub table_last : get_or (first ∷ later) 4799 0 + 31 ≡ 146097
table_last = ap (λ (i : ℕ). i + 31) (table_start 4799 (omega arith) ∙ last_start)
