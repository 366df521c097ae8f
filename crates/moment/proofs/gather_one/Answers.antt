-- `moment::gather_one` meets its contract: the maximum with the part that is the stable vector.
-- Assumes nothing.
use Rattle.moment.proofs.MomentLaws.{merged_part}
use Rattle.moment.proofs.gather_one.Goals as goal

pub returns : goal.returns
returns c =
    merged_part _ c.args.book.now _ c.requires.1 c.index.ensures c.stable_at-at.ensures
    c.merge.ensures
