-- `telling::tell_written` meets its contract: the words of what the write tells, or the number of the refusal.
-- Assumes nothing.
use mathlib.Core.Path.{refl, sym, ap}
use Rattle.paper.specs.Calls.{number_in}
use Rattle.paper.specs.Answers.{paper_write}
use Rattle.room.proofs.RoomLaws.{filled_none}
use Rattle.telling.specs.Told.{words_of}
use Rattle.telling.proofs.ToldLaws.{told_as, written_number}
use Rattle.telling.proofs.tell_written.Goals as goal

pub returns-in-Ok : goal.returns-in-Ok
returns-in-Ok c =
    let told = told_as _ (sym (ap paper_write c.in-Ok.is)) (written_number c.in-Ok.written) c.written_words.ensures c.fill.ensures in
    record { value = told.0; out_after = told.1 }

pub returns-in-Err : goal.returns-in-Err
unfolding number_in words_of paper_write
returns-in-Err c =
    let told = told_as _ (sym (ap paper_write c.in-Err.is)) c.number_of.ensures refl (filled_none _) in
    record { value = told.0; out_after = told.1 }
