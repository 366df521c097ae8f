-- The room that is asked for is enough: what a read tells has at most eight words, what a write tells two, so that with room all of it is written.
-- Assumes nothing.
use Prim.Native.Nat.{ℕ, ◌≤◌}
use native.Mathlib.Nat.{le_trans}
use native.Mathlib.Omega.{arith}
use mathlib.Core.Path.{◌≡◌}
use mathlib.Core.Bool.{Bool, true, false}
use mathlib.Core.List.{List}
use lib.Dec.{eqb}
use lib.ListN.{length}
use lib.Seq.{sets}
use Rattle.loops.specs.Loops.{pick}
use Rattle.paper.specs.declared.answer.Payload.{Payload}
use Rattle.paper.specs.Calls.{Answer, refused, reads, Told, read_value, read_unwritten, read, write, answer_by}
use Rattle.paper.specs.Answers.{padded}
use Rattle.register.specs.Answers.{written}
use Rattle.upkeep.specs.Requests.{call, reply_to, done_answer, number_at}
use Rattle.room.specs.Room.{filled}
use Rattle.room.proofs.RoomLaws.{filled_whole}
use Rattle.telling.specs.Told.{words_of, read_words, write_words}

-- a refusal tells no words
or_refused : (t : Bool) (n m : ℕ) (a : Answer) → length (words_of a) ≤ m → length (words_of (pick t a (refused n))) ≤ m
unfolding pick words_of
or_refused true n m a h = h
or_refused false n m a h = omega arith

told_room_law : (t : Told) → length (words_of (reads t)) ≤ read_words
unfolding words_of padded
told_room_law (read_value p u) = omega arith
told_room_law (read_unwritten u) = omega arith

written_room : (stamp : ℕ) (t : Bool) → length (words_of (written stamp t)) ≤ write_words
unfolding words_of written pick
written_room stamp true = omega arith
written_room stamp false = omega arith

pub read_whole : (l : List ℕ) (c k : ℕ) (o : List ℕ) → read_words ≤ length o
    → filled (words_of (reply_to l (call (read c k)))) o ≡ sets o 0 (words_of (reply_to l (call (read c k))))
unfolding reply_to done_answer answer_by
read_whole l c k o h = filled_whole _ _ (le_trans (or_refused (eqb (number_at l (call (read c k))) 0) (number_at l (call (read c k))) read_words _ (told_room_law _)) h)

pub write_whole : (l : List ℕ) (c k : ℕ) (payload : Payload) (o : List ℕ) → write_words ≤ length o
    → filled (words_of (reply_to l (call (write c k payload)))) o ≡ sets o 0 (words_of (reply_to l (call (write c k payload))))
unfolding reply_to done_answer answer_by
write_whole l c k payload o h =
    filled_whole _ _ (le_trans (or_refused (eqb (number_at l (call (write c k payload))) 0) (number_at l (call (write c k payload))) write_words _ (written_room _ _)) h)
