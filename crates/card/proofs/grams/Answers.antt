-- `card::grams` meets its contract: the words of a card are no NaN's, its lengths are 64-bit floats too, and their grams are a number.
-- Assumes nothing.
use mathlib.Core.Path.{◌≡◌, sym}
use mathlib.Core.Bool.{true}
use Rattle.loops.proofs.BoolLaws.{pick_true, pick_false, test_passed, test_failed}
use Rattle.card.specs.Card.{card_fit, grams_of, grams_answer}
use Rattle.card.proofs.CardLaws.{fit_diameter, fit_width, word_number, length_widens, weight_is, weight_number}
use Rattle.card.proofs.grams.Goals as goal
use Rattle.card.proofs.grams.Lts as lts
use Rattle.card.proofs.grams.Tie as tie
use Rattle.card.proofs.grams.Reads as reads

-- what is known at a place, for the lemmas below
abbrev Else-not-card_fits : Type 0
Else-not-card_fits = lts.Else1 tie.the-claims reads.Pre reads.Post

fit : (c : Else-not-card_fits) → card_fit c.args.diameter c.args.width ≡ true
fit c = test_passed c.card_fits.ensures c.if-not-card_fits.false-raw

pub returns-then-not-card_fits : goal.returns-then-not-card_fits
unfolding grams_answer
returns-then-not-card_fits c = sym (pick_false _ _ (test_failed c.card_fits.ensures c.if-not-card_fits.true-raw))

pub float_from_bits-d : goal.float_from_bits-d
float_from_bits-d c = word_number _ (fit_diameter _ _ (fit c))

pub float_to_float-d : goal.float_to_float-d
float_to_float-d c = length_widens _ (fit_diameter _ _ (fit c.before))

pub float_from_bits-w : goal.float_from_bits-w
float_from_bits-w c = word_number _ (fit_width _ _ (fit c.before))

pub float_to_float-w : goal.float_to_float-w
float_to_float-w c = length_widens _ (fit_width _ _ (fit c.before.before))

pub float_to_bits-result : goal.float_to_bits-result
float_to_bits-result c = rw (weight_is _ _) (weight_number _ _ (fit c.before.before))

pub returns : goal.returns
unfolding grams_answer grams_of
returns c = rw (weight_is _ _) (sym (pick_true _ _ (fit c.before.before)))
