-- `recorder_told::tell_recorded` meets its contract: the words to tell in, the kind, its numbers; then the call.
-- Assumes nothing.
use mathlib.Core.Path.{◌∙◌}
use Rattle.loops.proofs.BoolLaws.{test_passed, test_failed}
use Rattle.recorder_told.specs.Told.{left_by}
use Rattle.room.proofs.RoomLaws.{with_room, no_room_law}
use Rattle.recorder_told.proofs.ToldLaws.{kind_own, no_kind, no_numbers, the_request}
use Rattle.recorder_told.proofs.tell_recorded.Goals as goal

pub returns-then-out-lt-RECORDED_WORDS : goal.returns-then-out-lt-RECORDED_WORDS
unfolding left_by
returns-then-out-lt-RECORDED_WORDS c = no_room_law _ _ _ _ c.if-out-lt-RECORDED_WORDS.true

pub returns-in_default : goal.returns-in_default
unfolding left_by
returns-in_default c = no_kind _ _ _ _ _ c.kind_of.ensures c.in_default.is ∙ with_room _ _ _ _ c.if-out-lt-RECORDED_WORDS.false

pub returns-then-not-has_numbers : goal.returns-then-not-has_numbers
unfolding left_by
returns-then-not-has_numbers c =
    no_numbers _ _ _ _ _ c.kind_of.ensures c.in-Some.is (test_failed c.has_numbers.ensures c.if-not-has_numbers.true-raw)
    ∙ with_room _ _ _ _ c.if-out-lt-RECORDED_WORDS.false

pub tell_call-requires : goal.tell_call-requires
tell_call-requires c = (kind_own _ _ (test_passed c.has_numbers.ensures c.if-not-has_numbers.false-raw), c.if-out-lt-RECORDED_WORDS.false)

pub returns : goal.returns
unfolding left_by
returns c =
    c.tell_call.ensures ∙ the_request _ _ _ _ _ c.kind_of.ensures c.in-Some.is (test_passed c.has_numbers.ensures c.if-not-has_numbers.false-raw) ∙ with_room _ _ _ _ c.if-out-lt-RECORDED_WORDS.false
