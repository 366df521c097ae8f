-- `calendar::dates::within` meets its contract: the smaller of the day and the month's last day lies in the month, so its number is a day's.
-- Assumes nothing.
use Prim.Native.Nat.{ℕ, ◌+◌, ◌-◌, ◌≤◌, ◌<◌, min}
use native.Mathlib.Omega.{arith}
use mathlib.Core.Path.{◌≡◌, sym, ◌∙◌, ap, ap₂}
use Rattle.months.specs.Months.{days_in, days_of, year_of, month_of, start}
use Rattle.calendar.specs.Dates.{date_in, on}
use Rattle.calendar.specs.Next.{day_within, numbered}
use Rattle.months.proofs.MonthLaws.{days_of_bounds}
use Rattle.calendar.proofs.DateLaws.{end_small, number_in}
use Rattle.calendar.proofs.AnswerLaws.{start_uncut}
use Rattle.calendar.proofs.dates.within.Goals as goal

-- what a code's three calls said, of a day of a month
record Said (m d t s : ℕ) : Type 0 where
  there : t ≡ day_within m d
  begun : s ≡ start m
  least : 1 ≤ t
  small : s + (t - 1) ≤ 146096

said : (m d : ℕ) {l t s : ℕ} → m < 4800 → 1 ≤ d → l ≡ days_in (year_of m) (month_of m) → t ≡ min d l → s ≡ start (min m 4800) → Said m d t s
unfolding days_of
said m d h k p q r =
    let e = q ∙ ap (min d) p in
    let f = r ∙ start_uncut m (omega arith) in
    let b = days_of_bounds m in
    record { there = e; begun = f; least = omega arith; small = omega (arith, end_small m h) }

pub overflow_sub-result : goal.overflow_sub-result
overflow_sub-result c =
    let w = said c.args.month c.args.day c.requires.0 c.requires.1 c.days_in_month-last.ensures
    c.min-there.ensures c.month_start.ensures in
    omega (arith, w.least)

pub overflow_add-result : goal.overflow_add-result
overflow_add-result c =
    let w = said c.args.month c.args.day c.requires.0 c.requires.1 c.days_in_month-last.ensures
    c.min-there.ensures c.month_start.ensures in
    omega (arith, w.small)

pub returns : goal.returns
unfolding numbered
returns c =
    let m = c.args.month in
    let w = said m c.args.day c.requires.0 c.requires.1 c.days_in_month-last.ensures
    c.min-there.ensures c.month_start.ensures in
    ap₂ on
    (c.date_in.ensures ∙ ap (λ (t : ℕ). date_in m t) w.there)
    (ap₂ (λ (s t : ℕ). s + (t - 1)) w.begun w.there ∙ sym (number_in m _))
