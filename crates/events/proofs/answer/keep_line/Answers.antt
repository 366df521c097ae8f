-- `events::answer::keep_line` meets its contract: the answer, the line feed after it, and the record beside it.
-- Assumes nothing.
use native.Mathlib.Omega.{arith}
use Rattle.line.specs.Reading.{reading}
use Rattle.line.proofs.PrintLaws.{wrote_byte, wrote_then, wrote_length}
use Rattle.events.specs.Answering.{book_after_line, answer_to, record_to, done_by}
use Rattle.events.proofs.SayLaws.{reading_length}
use Rattle.events.proofs.answer.keep_line.Goals as goal

pub bounds-out-last : goal.bounds-out-last
bounds-out-last c =
    let w = c.say_line-end.ensures.wrote in
    let h = reading_length c.args.book.now (reading c.args.line.now) in
    let k = wrote_length w in
    omega (arith, w.after, c.requires.0)

pub overflow_add-result : goal.overflow_add-result
overflow_add-result c =
    let w = c.say_line-end.ensures.wrote in
    let h = reading_length c.args.book.now (reading c.args.line.now) in
    let k = wrote_length w in
    omega (arith, w.after, c.requires.0)

pub returns : goal.returns
unfolding book_after_line answer_to record_to done_by
returns c =
    let said = c.say_line-end.ensures in
    record { book_after = said.book_after; wrote = wrote_then said.wrote (wrote_byte _ _ 10); wrote_2 = said.wrote_2 }
