-- `events::answer::say_line` meets its contract: the reader says which event, and with which numbers.
-- Assumes nothing.
use native.Mathlib.Omega.{arith}
use mathlib.Core.Path.{refl}
use Rattle.paper.specs.Calls.{refused}
use Rattle.paper.specs.Answers.{entries_in, tellings}
use Rattle.journal.specs.Journal.{journal}
use Rattle.line.proofs.PrintLaws.{wrote_nothing}
use Rattle.line.proofs.Theorems.{says_read}
use Rattle.reply.specs.Printed.{printed}
use Rattle.reply.proofs.RoomLaws.{no_list, printed_room}
use Rattle.events.specs.Answering.{reading_book, reading_says, reading_done}
use Rattle.events.proofs.SayLaws.{told_bad, told_event, told_count, told_part, kept_reading}
use Rattle.events.proofs.answer.say_line.Goals as goal

pub answer_number-requires : goal.answer_number-requires
unfolding printed entries_in tellings
answer_number-requires c = printed_room (refused 13) (no_list _ (omega arith) refl) c.requires.0

pub shared_ref_as_front-run_event : goal.shared_ref_as_front-run_event
shared_ref_as_front-run_event c = told_count _ c.read_line.ensures c.in-Some.is

pub slice_bounds-run_event-end : goal.slice_bounds-run_event-end
slice_bounds-run_event-end c = told_part _ c.read_line.ensures c.in-Some.is

pub returns-in-None : goal.returns-in-None
unfolding reading_book reading_says reading_done journal
returns-in-None c =
    let told = kept_reading _ (told_bad _ c.read_line.ensures c.in-None.is) (refl, (c.answer_number.ensures, wrote_nothing _ _)) in
    record { book_after = told.0; wrote = told.1.0; wrote_2 = told.1.1 }

pub returns-in-Some : goal.returns-in-Some
unfolding reading_book reading_says reading_done
returns-in-Some c =
    let ran = c.run_event.ensures in
    let told = kept_reading _ (says_read _ _ _ (told_event _ c.read_line.ensures c.in-Some.is)) (ran.book_after, (ran.wrote, ran.wrote_2)) in
    record { book_after = told.0; wrote = told.1.0; wrote_2 = told.1.1 }
