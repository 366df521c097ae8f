-- `calendar::months::days_in_month` meets its contract: the cases of a month's days.
-- Assumes nothing.
use mathlib.Core.Path.{sym, ◌∙◌}
use borrow.Author.Rules.{rules}
use borrow.Author.Tests.{eq-eqb, ne_eqb}
use Rattle.loops.proofs.BoolLaws.{and_stop}
use Rattle.months.specs.Months.{month_lengths}
use Rattle.months.proofs.MonthLaws.{month_low, month_high, days_none, days_leap, days_listed}
use Rattle.months.proofs.days_in_month.Goals as goal
use Rattle.months.proofs.days_in_month.Goals.{then-month-eq2+else-is_leap, else-month-eq2}

pub returns-then-month-lt1 : goal.returns-then-month-lt1
returns-then-month-lt1 c = sym (days_none _ _ (month_low _ c.if-month-lt1.true))

pub returns-then-month-gt12 : goal.returns-then-month-gt12
returns-then-month-gt12 c = sym (days_none _ _ (month_high _ c.if-month-gt12.true))

pub returns-then-is_leap : goal.returns-then-is_leap
returns-then-is_leap c = sym (days_leap _ _ (search rules) (search rules) c.if-month-eq2.true (sym c.is_leap.ensures ∙ c.if-is_leap.true))

pub returns : goal.returns
unfolding month_lengths
returns c =
    sym
    (days_listed _ _ (search rules) (search rules)
    (elim c.if-month-eq2.branch [ then-month-eq2+else-is_leap w ↦ rw (eq-eqb _ _ w.if-month-eq2.true) (sym w.is_leap.ensures ∙ w.if-is_leap.false) | else-month-eq2 w ↦ and_stop _ (ne_eqb _ _ w.if-month-eq2.false) ]))
