-- `recorder::record_at` meets its contract: the call, and if it is done its record.
-- Assumes nothing.
use mathlib.Core.Path.{sym, ◌∙◌}
use Rattle.calls.specs.Performed.{asked}
use Rattle.recorder.proofs.RecorderLaws.{told_number_law, appended_none, appended_done, record_asks}
use Rattle.recorder.proofs.record_at.Goals as goal

pub returns-then-number-ne0 : goal.returns-then-number-ne0
returns-then-number-ne0 c =
    let call = c.perform-reply.ensures in
    appended_none _ _ call (told_number_law call c.number_in-number.ensures) c.if-number-ne0.true

pub write_record-requires : goal.write_record-requires
write_record-requires c =
    let call = c.perform-reply.ensures in
    let done = sym (told_number_law call c.number_in-number.ensures) ∙ c.if-number-ne0.false in
    record_asks c.args.book.now (asked c.args.request c.args.beside.now) _ _ done c.requires

pub returns : goal.returns
returns c =
    let call = c.perform-reply.ensures in
    let done = sym (told_number_law call c.number_in-number.ensures) ∙ c.if-number-ne0.false in
    appended_done _ _ call done c.size_of-size.ensures c.write_record.ensures
