-- Which words are cards, by whole numbers; and words and cards are one to one: a card has the words it was made of, and of the words of a card that
-- card is made.
-- Assumes nothing.
use Prim.Native.Nat.{ℕ}
use mathlib.Core.Path.{◌≡◌, refl, ap, ◌∙◌}
use mathlib.Core.Bool.{Bool, true, false, ◌&&◌}
use lib.Dec.{T, leb, ltb}
use lib.Ieee.{Float, nan, inf, fin, binary32, is_nan, fits}
use lib.Ieee.Bits.{of_bits-to_bits}
use Rattle.std.specs.Prelude.{Option, Some, None}
use Rattle.loops.specs.Loops.{pick}
use Rattle.loops.proofs.BoolLaws.{pick_false}
use Rattle.card.specs.declared.Card.{Card}
use Rattle.card.specs.Card.{float_of, length_fit, card_fit, card_of, card_answer, word_of, grams_of, grams_answer, grams_number}
use Rattle.card.proofs.LengthLaws.{length_zero, length_is}
use Rattle.card.proofs.CardLaws.{fit_diameter, fit_width, length_number, word_back}

-- ---- which words are cards

-- both are from 1 to the word of 2,000
pub card_is : (d w : ℕ) → card_fit d w ≡ (ltb 0 d && leb d 0x44FA_0000) && (ltb 0 w && leb w 0x44FA_0000)
unfolding card_fit
card_is d w = rw (length_is d, length_is w)

-- what the answer tells
pub good_tells : (d w : ℕ) (c : Card) → card_answer d w ≡ Some c → (card_fit d w ≡ true) × (c ≡ card_of d w)
unfolding card_answer pick
good_tells d w c = go (card_fit d w)
  where
    go : (t : Bool) → pick t (Some (card_of d w)) None ≡ Some c → (t ≡ true) × (c ≡ card_of d w)
    go true e = (refl, cc)
    go false e = (cc, cc)

pub bad_tells : (d w : ℕ) → card_answer d w ≡ None → card_fit d w ≡ false
unfolding card_answer pick
bad_tells d w = go (card_fit d w)
  where
    go : (t : Bool) → pick t (Some (card_of d w)) None ≡ None → t ≡ false
    go true e = cc
    go false e = refl

-- ---- from words to a card and back

pub words_back : (d w : ℕ) (c : Card) → card_answer d w ≡ Some c → (word_of c.diameter ≡ d) × (word_of c.width ≡ w)
words_back d w c e =
    let h = good_tells d w c e in
    rw h.1 (word_back d (fit_diameter d w h.0), word_back w (fit_width d w h.0))

-- ---- from a card to words and back

-- the float of a 32-bit float's word is that float, unless it is a NaN; a NaN's word is no length's
float_back : (x : Float) → T (fits binary32 x) → is_nan x ≡ false → float_of (word_of x) ≡ x
unfolding word_of
float_back x h e = ap float_of (pick_false _ _ e) ∙ of_bits-to_bits binary32 x h

word_fit : (x : Float) → T (fits binary32 x) → length_fit (float_of (word_of x)) ≡ length_fit x
unfolding is_nan
word_fit nan h = unfold length_fit word_of pick in length_zero
word_fit (inf s) h = ap length_fit (float_back (inf s) h refl)
word_fit (fin s m e) h = ap length_fit (float_back (fin s m e) h refl)

picked : (a b : Bool) (x y : Option Card) → (a ≡ true → b ≡ true → x ≡ y) → pick (a && b) x None ≡ pick (a && b) y None
unfolding pick
picked true true x y f = f refl refl
picked true false x y f = refl
picked false b x y f = refl

pub card_back : (c : Card) → T (fits binary32 c.diameter) → T (fits binary32 c.width)
    → card_answer (word_of c.diameter) (word_of c.width) ≡ pick (length_fit c.diameter && length_fit c.width) (Some c) None
unfolding card_answer card_fit
card_back c f g = rw (word_fit c.diameter f, word_fit c.width g) (picked _ _ _ _ same)
  where
    same : length_fit c.diameter ≡ true → length_fit c.width ≡ true → Some (card_of (word_of c.diameter) (word_of c.width)) ≡ Some c
    same d w = rw (float_back c.diameter f (length_number _ d), float_back c.width g (length_number _ w))

-- ---- the grams are refused, BAD CARD, exactly where the words are no card

pub grams_refused : (d w : ℕ) → grams_number (grams_answer d w) ≡ pick (card_fit d w) 0 14
unfolding grams_answer grams_number pick
grams_refused d w = elim (card_fit d w) as (λ t. grams_number (pick t (Some (grams_of d w)) None) ≡ pick t 0 14) [ true ↦ refl | false ↦ refl ]
