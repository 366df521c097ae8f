-- `export::depot_line` meets its contract: with room the answer of the line, without room nothing.
-- Assumes nothing.
use native.Mathlib.Nat.{zero-add}
use mathlib.Core.Path.{sym, ◌∙◌}
use borrow.Author.Tests.{le-leb, lt-leb}
use Rattle.loops.proofs.BoolLaws.{pick_true, pick_false}
use Rattle.export.proofs.depot_line.Goals as goal

pub returns-then-out-lt-ANSWER_ROOM : goal.returns-then-out-lt-ANSWER_ROOM
returns-then-out-lt-ANSWER_ROOM c =
    let short = lt-leb _ _ c.if-out-lt-ANSWER_ROOM.true in
    record { value = sym (pick_false _ _ short); book_after = sym (pick_false _ _ short); out_after = sym (pick_false _ _ short) }

pub returns : goal.returns
returns c =
    let answered = c.answer_line.ensures in
    let wide = le-leb _ _ c.if-out-lt-ANSWER_ROOM.false in
    let said = answered.wrote in
    record { value = said.after ∙ zero-add _ ∙ sym (pick_true _ _ wide); book_after = answered.book_after ∙ sym (pick_true _ _ wide); out_after = said.stored ∙ sym (pick_true _ _ wide) }
