-- `telling::tell_read` meets its contract: without room nothing is done; with it the promise of the read, and what is told of its answer.
-- Assumes nothing.
use mathlib.Core.Path.{◌∙◌}
use Rattle.upkeep.specs.Requests.{did_read}
use Rattle.room.proofs.RoomLaws.{with_room, no_room_law}
use Rattle.telling.proofs.CallLaws.{by_call, told_by}
use Rattle.telling.proofs.tell_read.Goals as goal

pub returns-then-out-lt-READ_WORDS : goal.returns-then-out-lt-READ_WORDS
returns-then-out-lt-READ_WORDS c =
    let short = c.if-out-lt-READ_WORDS.true in
    record { value = no_room_law _ _ _ _ short; book_after = no_room_law _ _ _ _ short; out_after = no_room_law _ _ _ _ short }

pub returns : goal.returns
returns c =
    let wide = c.if-out-lt-READ_WORDS.false in
    let promise = did_read c.read.ensures in
    let said = by_call promise c.tell_found.ensures.value in
    let told = told_by _ promise c.tell_found.ensures.out_after in
    record { value = said.0 ∙ with_room _ _ _ _ wide; book_after = said.1 ∙ with_room _ _ _ _ wide; out_after = told ∙ with_room _ _ _ _ wide }
