-- `card::word_of` meets its contract: a NaN, and nothing else, differs from itself.
-- Assumes nothing.
use mathlib.Core.Path.{sym, ◌∙◌}
use Rattle.loops.proofs.BoolLaws.{pick_true, pick_false}
use Rattle.card.specs.Card.{word_of}
use Rattle.card.proofs.CardLaws.{differs_is}
use Rattle.card.proofs.word_of.Goals as goal

pub returns-then-x : goal.returns-then-x
unfolding word_of
returns-then-x c = sym (pick_true _ _ (sym (differs_is _) ∙ c.if-x.true))

pub float_to_bits-result : goal.float_to_bits-result
float_to_bits-result c = rw (sym (differs_is _) ∙ c.if-x.false) tt

pub returns : goal.returns
unfolding word_of
returns c = sym (pick_false _ _ (sym (differs_is _) ∙ c.if-x.false))
