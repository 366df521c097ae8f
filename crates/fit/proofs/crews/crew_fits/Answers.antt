-- `fit::shelf::crew_fits` meets its contract: the part at the crew's place is its vector, and no entry is left out.
-- Assumes nothing.
use mathlib.Core.Path.{◌∙◌, refl}
use Rattle.fit.specs.Fit.{crew_fit}
use Rattle.fit.proofs.RangeLaws.{range_lent, range_all}
use Rattle.fit.proofs.crews.crew_fits.Goals as goal

pub returns : goal.returns
unfolding crew_fit
returns c =
    let at = c.crew_at-at in
    c.others_in_range.ensures ∙ range_lent _ c.args.book.now c.requires.1 refl at.ensures ∙ range_all _ _
