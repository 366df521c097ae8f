-- `fit::shelf::clock_fits` meets its contract: the word at its place.
-- Assumes nothing.
use Rattle.fit.specs.Fit.{clock_fit}
use Rattle.fit.proofs.shelf.clock_fits.Goals as goal

pub returns : goal.returns
unfolding clock_fit
returns c = rw c.clock_at.ensures
