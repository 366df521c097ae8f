-- `history::stream::finish` meets its contract. A last line counts if not empty.
-- Assumes nothing.
use mathlib.Core.Path.{◌∙◌}
use Rattle.history.proofs.StreamLaws.{finished_empty, finished_last}
use Rattle.history.proofs.stream.finish.Goals as goal

pub returns-then-kept-eq0 : goal.returns-then-kept-eq0
returns-then-kept-eq0 c =
    let told = finished_empty _ _ _ _ c.requires c.if-kept-eq0.true in
    record { fits = told.0; result_after = told.1 }

pub returns : goal.returns
returns c = record {
  fits = c.end_line-place.ensures.fits;
  result_after = c.end_line-place.ensures.kept_value.1 ∙ finished_last _ _ _ _
      c.requires c.if-kept-eq0.false;
}
