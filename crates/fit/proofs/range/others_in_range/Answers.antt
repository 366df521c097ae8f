-- `fit::shelf::others_in_range` meets its contract: covered by the ends of all clocks.
-- Assumes nothing.
use mathlib.Core.Path.{◌∙◌}
use Rattle.fit.proofs.RangeLaws.{range_ends}
use Rattle.fit.proofs.range.others_in_range.Goals as goal

pub returns : goal.returns
returns c = c.is_covered.ensures ∙ range_ends _ _ _ c.requires.0
