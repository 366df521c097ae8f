-- `reply::say_reading` meets its contract: what was found is printed with its entries.
-- Assumes nothing.
use native.Mathlib.Omega.{arith}
use mathlib.Core.Path.{refl, sym, ap}
use lib.ListN.{take}
use Rattle.std.specs.Prelude.{Option}
use Rattle.paper.specs.declared.answer.Payload.{Payload}
use Rattle.paper.specs.Calls.{reads, read_value, read_unwritten}
use Rattle.paper.specs.Answers.{paper_found, paper_read, entries_in, tellings}
use Rattle.line.proofs.PrintLaws.{wrote_same}
use Rattle.reply.specs.Printed.{told_bytes, printed}
use Rattle.reply.proofs.RoomLaws.{no_list, printed_room, holds_few}
use Rattle.reply.proofs.say_reading.Goals as goal

pub answer_value-requires : goal.answer_value-requires
unfolding printed told_bytes entries_in tellings
answer_value-requires c =
    let few = holds_few _ c.requires.0 in
    (omega (arith, few.vector, few.counted), printed_room (reads (read_value _ _)) (no_list _ few.entries refl) c.requires.1)

pub answer_unwritten-requires : goal.answer_unwritten-requires
unfolding printed told_bytes entries_in tellings
answer_unwritten-requires c =
    let few = holds_few _ c.requires.0 in
    (omega (arith, few.vector, few.counted), printed_room (reads (read_unwritten _)) (no_list _ few.entries refl) c.requires.1)

pub returns-in-Some : goal.returns-in-Some
unfolding printed told_bytes paper_found paper_read
returns-in-Some c =
    let a = c.args.reading in
    wrote_same (sym (ap (λ (f : Option Payload). printed (paper_found f (take a.depots a.vector))) c.in-Some.is)) c.answer_value.ensures

pub returns-in-None : goal.returns-in-None
unfolding printed told_bytes paper_found paper_read
returns-in-None c =
    let a = c.args.reading in
    wrote_same (sym (ap (λ (f : Option Payload). printed (paper_found f (take a.depots a.vector))) c.in-None.is)) c.answer_unwritten.ensures
