-- `reply::say_written` meets its contract: the stamp, and how the version stands.
-- Assumes nothing.
use native.Mathlib.Omega.{arith}
use mathlib.Core.Path.{refl, sym, ap}
use Rattle.std.specs.Prelude.{Ok}
use Rattle.paper.specs.declared.answer.Written.{Written}
use Rattle.paper.specs.Calls.{current, superseded}
use Rattle.paper.specs.Answers.{paper_write, entries_in, tellings}
use Rattle.line.proofs.PrintLaws.{wrote_same}
use Rattle.reply.specs.Printed.{printed}
use Rattle.reply.proofs.RoomLaws.{no_list, printed_room}
use Rattle.reply.proofs.say_written.Goals as goal

pub answer_stamp-requires : goal.answer_stamp-requires
unfolding printed entries_in tellings
answer_stamp-requires c = printed_room (current _) (no_list _ (omega arith) refl) c.requires

pub answer_stamp-requires-in-Superseded : goal.answer_stamp-requires-in-Superseded
unfolding printed entries_in tellings
answer_stamp-requires-in-Superseded c = printed_room (superseded _) (no_list _ (omega arith) refl) c.requires

pub returns-in-Current : goal.returns-in-Current
unfolding printed paper_write
returns-in-Current c = wrote_same (sym (ap (λ (x : Written). printed (paper_write (Ok x))) c.in-Current.is)) c.answer_stamp.ensures

pub returns-in-Superseded : goal.returns-in-Superseded
unfolding printed paper_write
returns-in-Superseded c = wrote_same (sym (ap (λ (x : Written). printed (paper_write (Ok x))) c.in-Superseded.is)) c.answer_stamp-in-Superseded.ensures
