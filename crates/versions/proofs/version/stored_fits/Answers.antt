-- `versions::version::stored_fits` meets its contract: the part at the stored version's place is the record.
-- Assumes nothing.
use mathlib.Core.Path.{◌∙◌, ap}
use Rattle.book.proofs.WordsLaws.{part_from}
use Rattle.fit.specs.Fit.{kept_fit, stored_fit}
use Rattle.versions.proofs.version.stored_fits.Goals as goal

pub returns : goal.returns
unfolding stored_fit
returns c =
    let args = c.args in
    c.kept_fits.ensures ∙ ap (kept_fit args.n args.k.0) (part_from args.book.now 9 c.stored_at-at.ensures)
