-- `order::record::exceeds` meets its contract: a record of the wrong length is unwritten, so it is above nothing and below whatever is written.
-- Assumes nothing.
use mathlib.Core.Path.{◌∙◌, sym, ap, ap₂}
use mathlib.Core.Bool.{not}
use borrow.Author.Rules.{rules}
use Rattle.order.specs.Order.{Rank, above}
use Rattle.order.specs.Record.{rank_in}
use Rattle.order.specs.Vector.{zeros}
use Rattle.order.proofs.OrderLaws.{above_unwritten, above_nothing}
use Rattle.order.proofs.RecordLaws.{rank_right, zeros_wrong, zeros_part}
use Rattle.order.proofs.record.exceeds.Goals as goal

pub returns-then-b-ne-RECORD_WORDS : goal.returns-then-b-ne-RECORD_WORDS
returns-then-b-ne-RECORD_WORDS c = sym (above_unwritten _ _ _ (zeros_wrong _ _ c.if-b-ne-RECORD_WORDS.true))

pub returns-then-a-ne-RECORD_WORDS : goal.returns-then-a-ne-RECORD_WORDS
returns-then-a-ne-RECORD_WORDS c =
    let args = c.args in
    ap not
    (c.is_zero.ensures
    ∙ zeros_part args.n args.b.now (search rules)
    ∙ ap (λ (r : Rank). zeros args.n r.vector) (sym (rank_right args.b.now c.if-b-ne-RECORD_WORDS.false)))
    ∙ sym (above_nothing args.n (rank_in args.b.now) (rank_in args.a.now) (zeros_wrong args.n args.a.now c.if-a-ne-RECORD_WORDS.true))

pub returns : goal.returns
returns c =
    let args = c.args in
    c.is_above.ensures ∙ ap₂ (above args.n) (sym (rank_right _ c.if-b-ne-RECORD_WORDS.false)) (sym (rank_right _ c.if-a-ne-RECORD_WORDS.false))
