-- `fit::shelf::seen_fits` meets its contract: the part at its place, but for the own entry.
-- Assumes nothing.
use mathlib.Core.Path.{◌∙◌}
use Rattle.fit.specs.Fit.{seen_fit}
use Rattle.fit.proofs.RangeLaws.{range_lent}
use Rattle.fit.proofs.shelf.seen_fits.Goals as goal

pub returns : goal.returns
unfolding seen_fit
returns c =
    c.others_in_range.ensures ∙ range_lent _ c.args.book.now c.requires.1 c.index.ensures c.seen_at-at.ensures
