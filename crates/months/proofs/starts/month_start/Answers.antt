-- `calendar::starts::month_start` meets its contract: the table has the month starts, and the year 2400 would start after the last of them.
-- Assumes nothing.
use native.Mathlib.Omega.{arith}
use mathlib.Core.Path.{sym, ◌∙◌, ap}
use borrow.Author.Rules.{rules}
use Rattle.months.specs.Months.{start}
use Rattle.months.proofs.StartLaws.{year_2400_start}
use Rattle.months.proofs.starts.month_start.Goals as goal

pub returns-then-month-ge-MONTHS : goal.returns-then-month-ge-MONTHS
returns-then-month-ge-MONTHS c = sym (ap start (omega arith) ∙ year_2400_start)

pub returns : goal.returns
returns c = c.month_starts-starts.ensures.entry c.args.month (search rules) ∙ ap start (omega arith)
