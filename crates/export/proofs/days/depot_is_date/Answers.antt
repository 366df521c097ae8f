-- `export::days::depot_is_date` meets its contract: 1 for a date, 0 for none.
-- Assumes nothing.
use mathlib.Core.Path.{sym, ◌∙◌}
use Rattle.loops.proofs.BoolLaws.{pick_true, pick_false}
use Rattle.export.proofs.days.depot_is_date.Goals as goal

pub returns-then-is_date : goal.returns-then-is_date
returns-then-is_date c = sym (pick_true _ _ (sym c.is_date.ensures ∙ c.if-is_date.true))

pub returns : goal.returns
returns c = sym (pick_false _ _ (sym c.is_date.ensures ∙ c.if-is_date.false))
