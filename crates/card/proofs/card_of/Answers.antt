-- `card::card_of` meets its contract: the words of a card are no NaN's.
-- Assumes nothing.
use mathlib.Core.Path.{◌≡◌, sym}
use mathlib.Core.Bool.{true}
use Rattle.loops.proofs.BoolLaws.{pick_true, pick_false, test_passed, test_failed}
use Rattle.card.specs.Card.{card_fit, card_answer}
use Rattle.card.proofs.CardLaws.{fit_diameter, fit_width, word_number}
use Rattle.card.proofs.card_of.Goals as goal
use Rattle.card.proofs.card_of.Lts as lts
use Rattle.card.proofs.card_of.Tie as tie
use Rattle.card.proofs.card_of.Reads as reads

-- what is known at a place, for the lemmas below
abbrev Else-not-card_fits : Type 0
Else-not-card_fits = lts.Else1 tie.the-claims reads.Pre reads.Post

fit : (c : Else-not-card_fits) → card_fit c.args.diameter c.args.width ≡ true
fit c = test_passed c.card_fits.ensures c.if-not-card_fits.false-raw

pub returns-then-not-card_fits : goal.returns-then-not-card_fits
unfolding card_answer
returns-then-not-card_fits c = sym (pick_false _ _ (test_failed c.card_fits.ensures c.if-not-card_fits.true-raw))

pub float_from_bits-result : goal.float_from_bits-result
float_from_bits-result c = word_number _ (fit_diameter _ _ (fit c))

pub float_from_bits-result-2 : goal.float_from_bits-result-2
float_from_bits-result-2 c = word_number _ (fit_width _ _ (fit c))

pub returns : goal.returns
unfolding card_answer
returns c = sym (pick_true _ _ (fit c))
