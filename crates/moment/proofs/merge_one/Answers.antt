-- `moment::merge_one` meets its contract: the record's vector is copied out, then merged.
-- Assumes nothing.
use Rattle.moment.proofs.MomentLaws.{merged_found}
use Rattle.moment.proofs.merge_one.Goals as goal

pub returns : goal.returns
returns c =
    merged_found _ _ _ _ c.args.book.now c.requires.1 c.stored_at-at.ensures
    c.cut_vector-found.ensures c.crew_at.ensures c.merge.ensures
