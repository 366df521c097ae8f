-- `taking::stamp_of` meets its contract: the word that holds the stamp, by the kind.
-- Assumes nothing.
use Rattle.taking.proofs.TakeCode.{beat_stamp, copy_stamp}
use Rattle.taking.proofs.stamp_of.Goals as goal

pub returns-then-is_beat : goal.returns-then-is_beat
returns-then-is_beat c = beat_stamp _ _ _ _ c.slot_at-at.ensures c.is_beat.ensures c.if-is_beat.true

pub returns : goal.returns
returns c = copy_stamp _ _ _ c.requires.3 c.slot_at-at.ensures
    c.index.ensures c.is_beat.ensures c.if-is_beat.false
