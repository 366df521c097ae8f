-- `card::card_fits` meets its contract: one length after the other.
-- Assumes nothing.
use mathlib.Core.Path.{sym, ◌∙◌}
use Rattle.loops.proofs.BoolLaws.{and_next, and_stop, test_passed, test_failed}
use Rattle.card.specs.Card.{card_fit}
use Rattle.card.proofs.card_fits.Goals as goal

pub returns-then-not-length_fits : goal.returns-then-not-length_fits
unfolding card_fit
returns-then-not-length_fits c = sym (and_stop _ (test_failed c.length_fits.ensures c.if-not-length_fits.true-raw))

pub returns : goal.returns
unfolding card_fit
returns c = c.length_fits-2.ensures ∙ sym (and_next _ (test_passed c.length_fits.ensures c.if-not-length_fits.false-raw))
