-- A length is a number, and so are the grams of a card: they lie between those of the least lengths and those of the longest, for a product grows with
-- each factor.
-- Assumes nothing.
use Prim.Native.Nat.{ℕ, ◌^◌, ◌<◌}
use native.Mathlib.Nat.{lt_of_le_of_lt, lt_of_lt_of_le, mul-le-mul_right}
use mathlib.Core.Path.{◌≡◌, refl, sym, ap, ◌∙◌}
use mathlib.Core.Bool.{Bool, true, false, not, ◌&&◌, false≢true}
use borrow.Author.Tests.{ltb-true, leb-true}
use lib.Dec.{T, leb, ltb, lit<, lit≤}
use lib.IntN.{negsuc}
use lib.Pow.{pow_pos}
use lib.Ieee.{Float, nan, inf, fin, binary32, binary64, is_nan, nan_bits, fits, of_bits, mul, round, le, ne}
use lib.Ieee.Bits.{nan_bits_is, of_bits-fits, to_bits-of_bits}
use lib.Ieee.Compare.{differs_from_itself, nan_differs}
use lib.Ieee.Fits.{and_i, fits_widens}
use lib.Ieee.Order.{le_of_values}
use lib.Ieee.Positive.{positive, positive_of_value, between, mul_mono, le_trans_positive}
use Rattle.loops.proofs.BoolLaws.{and_left, and_right, pick_false, failed}
use Rattle.card.specs.Card.{float_of, whole, length_fit, card_fit, word_of, density, weight}
use Rattle.card.proofs.LengthLaws.{units, units_value, units_pos, positive_fit, length_is}

-- ---- a length

holds : {b : Bool} → b ≡ true → T b
holds {b = true} h = tt
holds {b = false} h = absurd (false≢true h)

pub length_number : (x : Float) → length_fit x ≡ true → is_nan x ≡ false
unfolding length_fit is_nan
length_number nan h = absurd (false≢true h)
length_number (inf s) h = refl
length_number (fin s m e) h = refl

positive_number : (x : Float) → T (positive x) → is_nan x ≡ false
unfolding is_nan
positive_number nan p = absurd p
positive_number (inf s) p = refl
positive_number (fin s m e) p = refl

-- a NaN, and nothing else, differs from itself
pub differs_is : (x : Float) → ne x x ≡ is_nan x
unfolding is_nan
differs_is nan = nan_differs
differs_is (inf s) = failed _ (λ e. false≢true (ap is_nan (differs_from_itself (inf s) (holds e))))
differs_is (fin s m e) = failed _ (λ d. false≢true (ap is_nan (differs_from_itself (fin s m e) (holds d))))

-- the least float above 0
abbrev least : Float
least = fin false 1 (negsuc 148)

-- what lies between two numbers above 0
record Between (lo hi x : Float) : Type 0 where
  from : T (positive lo)
  to : T (positive hi)
  above : T (positive x)
  low : T (le lo x)
  high : T (le x hi)

module _ (b : ℕ) (h : length_fit (float_of b) ≡ true) where
  word_low : 0 < b
  word_low = ltb-true 0 b (and_left _ (leb b 0x44FA_0000) (sym (length_is b) ∙ h))

  word_high : b < 0x7F80_0000
  word_high = lt_of_le_of_lt (leb-true b 0x44FA_0000 (and_right (ltb 0 b) _ (sym (length_is b) ∙ h))) (lit< tt)

  length : Between least (whole 2000) (float_of b)
  length =
      let value = units_value b word_high in
      let counts = units_pos b word_low in
      let above = positive_of_value (float_of b) (units b) (2 ^ 149) value counts in
      record {
        from = tt;
        to = tt;
        above = above;
        low = le_of_values least (float_of b) 1 (2 ^ 149) (units b) (2 ^ 149) (pow_pos 149) (pow_pos 149) (refl, refl) value (mul-le-mul_right (2 ^ 149) counts);
        high = holds (sym (positive_fit (float_of b) above) ∙ h);
      }

  no_nan : is_nan (float_of b) ≡ false
  no_nan = length_number (float_of b) h

  -- what the code's steps ask: the word is no NaN's, and its float is a 64-bit one too
  pub word_number : T (not (nan_bits binary32 b))
  word_number = rw (nan_bits_is binary32 b, no_nan) tt

  pub length_widens : T (fits binary64 (float_of b) && not (is_nan (float_of b)))
  length_widens = and_i (fits binary64 (float_of b)) (not (is_nan (float_of b))) (fits_widens (float_of b) (of_bits-fits binary32 b)) (rw no_nan tt)

  -- the word of a length's float is the word
  pub word_back : word_of (float_of b) ≡ b
  unfolding word_of
  word_back = pick_false _ _ no_nan ∙ to_bits-of_bits binary32 b (lt_of_lt_of_le word_high (lit≤ tt)) (rw no_nan tt)

pub fit_diameter : (d w : ℕ) → card_fit d w ≡ true → length_fit (float_of d) ≡ true
unfolding card_fit
fit_diameter d w h = and_left _ (length_fit (float_of w)) h

pub fit_width : (d w : ℕ) → card_fit d w ≡ true → length_fit (float_of w) ≡ true
unfolding card_fit
fit_width d w h = and_right (length_fit (float_of d)) _ h

-- ---- the grams of a card

-- with 0.005 by its bits, as the code has it
pub weight_is : (x y : Float) → mul binary64 (mul binary64 x y) (of_bits binary64 0x3F74_7AE1_47AE_147B) ≡ weight x y
unfolding weight
weight_is x y = ap (mul binary64 (mul binary64 x y)) (unfold round of_bits in refl)

product : (lo hi x lo' hi' y : Float) → Between lo hi x → Between lo' hi' y → T (positive (mul binary64 lo lo')) → T (positive (mul binary64 hi hi'))
    → Between (mul binary64 lo lo') (mul binary64 hi hi') (mul binary64 x y)
product lo hi x lo' hi' y X Y p q =
    let l = mul_mono binary64 lo x lo' y X.from X.above Y.from Y.above X.low Y.low in
    let h = mul_mono binary64 x hi y hi' X.above X.to Y.above Y.to X.high Y.high in
    record { from = p; to = q; above = between _ _ _ p q l h; low = l; high = h }

weight_between : (d w : ℕ) → card_fit d w ≡ true → Between (weight least least) (weight (whole 2000) (whole 2000)) (weight (float_of d) (float_of w))
unfolding weight mul le
weight_between d w h =
    let lengths = product least (whole 2000) (float_of d) least (whole 2000) (float_of w) (length d (fit_diameter d w h)) (length w (fit_width d w h)) tt tt in
    product _ _ _ density density density lengths (record { from = tt; to = tt; above = tt; low = tt; high = tt }) tt tt

pub weight_number : (d w : ℕ) → card_fit d w ≡ true → T (not (is_nan (weight (float_of d) (float_of w))))
weight_number d w h = rw (positive_number _ (weight_between d w h).above) tt

-- the grams of a card are finite, above 0 and at most 20,000
pub weight_within : (d w : ℕ) → card_fit d w ≡ true → T (positive (weight (float_of d) (float_of w))) × T (le (weight (float_of d) (float_of w)) (whole 20000))
unfolding weight mul le
weight_within d w h =
    let g = weight_between d w h in
    (g.above, le_trans_positive (weight (float_of d) (float_of w)) (weight (whole 2000) (whole 2000)) (whole 20000) g.above tt tt g.high tt)
