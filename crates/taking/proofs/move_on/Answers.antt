-- `taking::move_on` meets its contract: the two cases.
-- Assumes nothing.
use mathlib.Core.Path.{◌∙◌, sym}
use lib.ListN.{set}
use Rattle.loops.proofs.BoolLaws.{pick_true, pick_false}
use Rattle.taking.proofs.move_on.Goals as goal

pub returns-then-beat : goal.returns-then-beat
returns-then-beat c =
    (λ z. set (c.close_up.ensures z) (c.held_at.ensures z) (c.word.ensures z)) ∙ sym (pick_true _ _ c.if-beat.true)

pub returns : goal.returns
returns c =
    let book = c.args.book.now in
    (λ z. set book (c.taken_at.ensures z) (c.word-2.ensures z)) ∙ sym (pick_false _ _ c.if-beat.false)
