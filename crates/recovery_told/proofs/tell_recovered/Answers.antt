-- `recovery_told::tell_recovered` meets its contract: without room nothing is done; with it recovery's promise, and two counts.
-- Assumes nothing.
use mathlib.Core.Path.{refl}
use Rattle.book.specs.Words.{put}
use Rattle.room.proofs.RoomLaws.{no_room_law}
use Rattle.recovery_told.specs.Told.{left_by}
use Rattle.recovery_told.proofs.ToldLaws.{recovered_left}
use Rattle.recovery_told.proofs.tell_recovered.Goals as goal

pub returns-then-out-lt-RECOVERED_COUNTS : goal.returns-then-out-lt-RECOVERED_COUNTS
unfolding left_by
returns-then-out-lt-RECOVERED_COUNTS c = no_room_law _ _ _ _ c.if-out-lt-RECOVERED_COUNTS.true

pub returns : goal.returns
unfolding put
returns c = recovered_left _ c.if-out-lt-RECOVERED_COUNTS.false c.recover-told.ensures refl
