-- `calendar::months::is_leap` meets its contract: the three cases of the leap rule.
-- Assumes nothing.
use mathlib.Core.Path.{sym}
use Rattle.months.proofs.MonthLaws.{leap_fourth, leap_hundred, leap_four_hundred}
use Rattle.months.proofs.is_leap.Goals as goal

pub returns-then-year-ne0 : goal.returns-then-year-ne0
returns-then-year-ne0 c = sym (leap_fourth _ c.if-year-ne0.true)

pub returns-then-year-ne0-2 : goal.returns-then-year-ne0-2
returns-then-year-ne0-2 c = sym (leap_hundred _ c.if-year-ne0.false c.if-year-ne0-2.true)

pub returns : goal.returns
returns c = sym (leap_four_hundred _ c.if-year-ne0.false c.if-year-ne0-2.false)
