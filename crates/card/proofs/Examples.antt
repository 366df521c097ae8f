-- Worked values: words that are lengths and words that are none, and grams that catch another order of the steps. All are computed.
-- Assumes nothing.
use mathlib.Core.Path.{◌≡◌, refl}
use mathlib.Core.Bool.{true, false}
use mathlib.Core.List.{[], ◌∷◌, map}
use lib.Ieee.{of_bits, to_bits, lt, le, mul, round}
use Rattle.card.specs.Card.{float_of, length_fit, card_fit, weight, grams_of}

-- the least above 0, the least with all its digits, 0.1, 1, 2,000
pub lengths : map (λ b. length_fit (float_of b)) (1 ∷ 0x80_0000 ∷ 0x3DCC_CCCD ∷ 0x3F80_0000 ∷ 0x44FA_0000 ∷ []) ≡ true ∷ true ∷ true ∷ true ∷ true ∷ []
unfolding length_fit lt le of_bits
lengths = refl

-- 0, the one after 2,000, the largest, infinity, two NaNs
pub no_lengths : map (λ b. length_fit (float_of b)) (0 ∷ 0x44FA_0001 ∷ 0x7F7F_FFFF ∷ 0x7F80_0000 ∷ 0x7F80_0001 ∷ 0x7FC0_0000 ∷ [])
    ≡ false ∷ false ∷ false ∷ false ∷ false ∷ false ∷ []
unfolding length_fit lt le of_bits
no_lengths = refl

-- with a sign: 0, the least, 1, infinity, a NaN
pub no_lengths_signed : map (λ b. length_fit (float_of b)) (0x8000_0000 ∷ 0x8000_0001 ∷ 0xBF80_0000 ∷ 0xFF80_0000 ∷ 0xFFFF_FFFF ∷ [])
    ≡ false ∷ false ∷ false ∷ false ∷ false ∷ []
unfolding length_fit lt le of_bits
no_lengths_signed = refl

-- the card of the listing: 1 by 1
pub one_by_one : card_fit 1065353216 1065353216 ≡ true
unfolding card_fit length_fit lt le of_bits
one_by_one = refl

-- 52 by 15 is 3.9
pub grams_52_15 : grams_of 0x4250_0000 0x4170_0000 ≡ 0x400F_3333_3333_3333
unfolding grams_of weight mul round of_bits to_bits
grams_52_15 = refl

-- 47 by 14: the width times 0.005 first gives another
pub grams_47_14 : grams_of 0x423C_0000 0x4160_0000 ≡ 0x400A_51EB_851E_B852
unfolding grams_of weight mul round of_bits to_bits
grams_47_14 = refl

-- 19.05 by 6.35: so does that, and a product of 32-bit floats
pub grams_inches : grams_of 0x4198_6666 0x40CB_3333 ≡ 0x3FE3_5AD4_1A5A_EE67
unfolding grams_of weight mul round of_bits to_bits
grams_inches = refl
