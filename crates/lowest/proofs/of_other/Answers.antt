-- `lowest::of_other` meets its contract: 0 past the last depot and for this one, else the stamp.
-- Assumes nothing.
use mathlib.Core.Path.{◌∙◌, sym}
use Rattle.lowest.proofs.LowestCode.{told_past, told_own, told_other}
use Rattle.lowest.proofs.of_other.Goals as goal

pub returns-then-n-x : goal.returns-then-n-x
returns-then-n-x c = told_past _ _ _ _ c.if-n-x.true

pub returns-then-x-index : goal.returns-then-x-index
returns-then-x-index c = told_own _ _ _ _ (c.if-x-index.true ∙ c.index.ensures)

pub returns : goal.returns
returns c = told_other _ _ _ _ c.if-n-x.false (λ e. c.if-x-index.false (e ∙ sym c.index.ensures))
