-- `calendar::dates::date_of` meets its contract: the month that the day lies in, and the days from that month's start.
-- Assumes nothing.
use Prim.Native.Nat.{ℕ, ◌+◌, ◌-◌, ◌≤◌}
use native.Mathlib.Omega.{arith}
use mathlib.Core.Path.{◌≡◌, sym, ◌∙◌, ap, ap₂}
use mathlib.Core.List.{List}
use lib.ListN.{get_or}
use Rattle.months.specs.Months.{start, Starts}
use Rattle.calendar.specs.Dates.{date_in, month_on, date_of, on}
use Rattle.calendar.specs.declared.answers.Date.{Date}
use Rattle.calendar.proofs.DateLaws.{month_on_inside}
use Rattle.calendar.proofs.AnswerLaws.{date_refused, date_given}
use Rattle.calendar.proofs.dates.date_of.Goals as goal

-- what the table says of the month that was found
found : (k : ℕ) {m : ℕ} → k ≤ 146096 → m ≡ month_on k → m ≤ 4799
found k h p = omega (arith, (month_on_inside k h).1)

said : (l : List ℕ) (k : ℕ) {m : ℕ} → Starts l → k ≤ 146096 → m ≡ month_on k → get_or l m 0 ≡ start (month_on k)
said l k {m} w h p = w.entry m (omega (arith, found k h p)) ∙ ap start p

begun : (l : List ℕ) (k : ℕ) {m : ℕ} → Starts l → k ≤ 146096 → m ≡ month_on k → get_or l m 0 ≤ k
begun l k w h p = rw (said l k w h p) (month_on_inside k h).0.begun

pub returns-then-day-gt-LAST_DAY : goal.returns-then-day-gt-LAST_DAY
returns-then-day-gt-LAST_DAY c = sym (date_refused _ c.if-day-gt-LAST_DAY.true)

pub month_on-month-requires : goal.month_on-month-requires
month_on-month-requires c = (c.month_starts-starts.ensures, c.if-day-gt-LAST_DAY.false)

pub offset_bounds-starts-month : goal.offset_bounds-starts-month
offset_bounds-starts-month c = let h = found _ c.if-day-gt-LAST_DAY.false c.month_on-month.ensures in omega arith

pub bounds-starts-month : goal.bounds-starts-month
bounds-starts-month c = let h = found _ c.if-day-gt-LAST_DAY.false c.month_on-month.ensures in omega arith

pub overflow_cast-month : goal.overflow_cast-month
overflow_cast-month c = let h = found _ c.if-day-gt-LAST_DAY.false c.month_on-month.ensures in omega arith

pub overflow_sub-day : goal.overflow_sub-day
overflow_sub-day c = begun _ _ c.month_starts-starts.ensures c.if-day-gt-LAST_DAY.false c.month_on-month.ensures

pub date_in-requires : goal.date_in-requires
date_in-requires c = let h = found _ c.if-day-gt-LAST_DAY.false c.month_on-month.ensures in omega arith

pub returns : goal.returns
unfolding date_of
returns c =
    let k = c.args.day in
    let h = c.if-day-gt-LAST_DAY.false in
    let e = c.month_on-month.ensures in
    ap (λ (d : Date). on d k)
    (c.date_in.ensures ∙ ap₂ (λ (m s : ℕ). date_in m (k - s + 1)) e (said _ k c.month_starts-starts.ensures h e))
    ∙ sym (date_given k h)
