-- `named_call::base_fits` meets its contract: the length, the counts, the homes.
-- Assumes nothing.
use native.Mathlib.Omega.{arith}
use mathlib.Core.Path.{◌∙◌, sym}
use Rattle.std.proofs.lemmas.Grind.{common_steps}
use Rattle.named.specs.Named.{base_fit}
use Rattle.fit.proofs.FitLaws.{counts_within}
use Rattle.named_call.proofs.base_fits.Goals as goal

pub returns-then-book-ne-BOOK_WORDS : goal.returns-then-book-ne-BOOK_WORDS
unfolding base_fit
returns-then-book-ne-BOOK_WORDS c = grind (arith, common_steps)

pub homes_fit-requires : goal.homes_fit-requires
homes_fit-requires c = (c.if-book-ne-BOOK_WORDS.false, counts_within _ (sym c.counts_fit.ensures ∙ c.if-counts_fit.true))

pub returns-then-counts_fit : goal.returns-then-counts_fit
unfolding base_fit
returns-then-counts_fit c = grind (arith, common_steps)

pub returns-else-counts_fit : goal.returns-else-counts_fit
unfolding base_fit
returns-else-counts_fit c = grind (arith, common_steps)
