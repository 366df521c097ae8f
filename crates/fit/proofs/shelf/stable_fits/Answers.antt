-- `fit::shelf::stable_fits` meets its contract: the own entry, then the others.
-- Assumes nothing.
use native.Mathlib.Omega.{arith}
use Rattle.std.proofs.lemmas.Grind.{common_steps}
use mathlib.Core.Path.{◌∙◌, sym}
use borrow.Author.Tests.{eq-eqb}
use Rattle.loops.proofs.BoolLaws.{and_next}
use Rattle.fit.specs.Fit.{stable_fit}
use Rattle.fit.proofs.RangeLaws.{range_lent}
use Rattle.fit.proofs.shelf.stable_fits.Goals as goal

pub returns-then-book-at-eq0 : goal.returns-then-book-at-eq0
unfolding stable_fit
returns-then-book-at-eq0 c =
    c.others_in_range.ensures
    ∙ range_lent _ c.args.book.now c.requires.1 c.index-own.ensures c.stable_at-at.ensures
    ∙ sym (and_next _ (eq-eqb _ _ (rw (c.stable_at-at.ensures, c.index-own.ensures) at c.if-book-at-eq0.true)))

pub returns-else-book-at-eq0 : goal.returns-else-book-at-eq0
unfolding stable_fit
returns-else-book-at-eq0 c = grind (arith, common_steps)
