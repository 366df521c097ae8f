-- `export::depot_is_fit` meets its contract: 1 for fit, 0 for not.
-- Assumes nothing.
use mathlib.Core.Path.{sym, ◌∙◌}
use Rattle.loops.proofs.BoolLaws.{pick_true, pick_false}
use Rattle.export.proofs.depot_is_fit.Goals as goal

pub returns-then-is_fit : goal.returns-then-is_fit
returns-then-is_fit c = sym (pick_true _ _ (sym c.is_fit.ensures ∙ c.if-is_fit.true))

pub returns : goal.returns
returns c = sym (pick_false _ _ (sym c.is_fit.ensures ∙ c.if-is_fit.false))
