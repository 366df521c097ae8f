-- `script::is_answered` meets its contract: an answer has at most its room, and it is the one that was compared.
-- Assumes nothing.
use mathlib.Core.Path.{sym, ◌∙◌}
use lib.Pointwise.{bytes_decides}
use lib.Seq.{length-take-le}
use Rattle.line.proofs.PrintLaws.{wrote_start}
use Rattle.events.proofs.SayLaws.{answer_room_law}
use Rattle.script.proofs.is_answered.Goals as goal

pub slice_bounds-said-end : goal.slice_bounds-said-end
slice_bounds-said-end c =
    answer_room_law _ _ c.answer_line-n.ensures.wrote c.requires

pub slice_bounds-said-end-2 : goal.slice_bounds-said-end-2
slice_bounds-said-end-2 c = sym (length-take-le _ _ (answer_room_law _ _ c.answer_line-n.ensures.wrote c.requires))

pub returns : goal.returns
returns c =
    let told = bytes_decides _ c.args.expected.now in
    let call = c.answer_line-n.ensures in
    let said = wrote_start call.wrote (answer_room_law _ _ c.answer_line-n.ensures.wrote c.requires) in
    record { book_after = call.book_after; exactly = (λ e. sym (told.0 (sym c.eq.ensures ∙ e)) ∙ said, λ e. c.eq.ensures ∙ told.1 (said ∙ sym e)) }
