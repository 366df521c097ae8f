-- `whole::is_fit` meets its contract: the length, the counts, the parts.
-- Assumes nothing.
use native.Mathlib.Omega.{arith}
use mathlib.Core.Path.{◌∙◌, sym}
use Rattle.std.proofs.lemmas.Grind.{common_steps}
use Rattle.fit.specs.Fit.{fit}
use Rattle.fit.proofs.FitLaws.{counts_within}
use Rattle.whole.proofs.is_fit.Goals as goal

pub returns-then-book-ne-BOOK_WORDS : goal.returns-then-book-ne-BOOK_WORDS
unfolding fit
returns-then-book-ne-BOOK_WORDS c = grind (arith, common_steps)

pub parts_fit-requires : goal.parts_fit-requires
parts_fit-requires c = (c.if-book-ne-BOOK_WORDS.false, counts_within _ (sym c.counts_fit.ensures ∙ c.if-counts_fit.true))

pub returns-then-counts_fit : goal.returns-then-counts_fit
unfolding fit
returns-then-counts_fit c = grind (arith, common_steps)

pub returns-else-counts_fit : goal.returns-else-counts_fit
unfolding fit
returns-else-counts_fit c = grind (arith, common_steps)
