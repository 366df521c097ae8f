-- `telling::tell_found` meets its contract: the words of what the read tells, or the number of the refusal.
-- Assumes nothing.
use mathlib.Core.Path.{refl, sym, ap, subst}
use Rattle.std.specs.Prelude.{Result, IfOk}
use Rattle.paper.specs.declared.answer.Reading.{Reading}
use Rattle.paper.specs.declared.answer.Refusal.{Refusal}
use Rattle.paper.specs.Calls.{number_in}
use Rattle.paper.specs.Answers.{paper_read, Holds}
use Rattle.room.proofs.RoomLaws.{filled_none}
use Rattle.telling.specs.Told.{words_of}
use Rattle.telling.proofs.ToldLaws.{told_as, read_number}
use Rattle.telling.proofs.tell_found.Goals as goal

pub returns-in-Ok : goal.returns-in-Ok
returns-in-Ok c =
    let holds = subst (λ (x : Result Reading Refusal). IfOk x (λ a. Holds (paper_read x) a.vector a.depots)) c.in-Ok.is c.requires in
    let told = told_as _ (sym (ap paper_read c.in-Ok.is)) (read_number c.in-Ok.reading) (c.reading_words.ensures.words holds) c.fill.ensures in
    record { value = told.0; out_after = told.1 }

pub returns-in-Err : goal.returns-in-Err
unfolding number_in words_of paper_read
returns-in-Err c =
    let told = told_as _ (sym (ap paper_read c.in-Err.is)) c.number_of.ensures refl (filled_none _) in
    record { value = told.0; out_after = told.1 }
