-- Of floats that are not negative the greater one has the greater bits, so a length is told by its word: it is one from 1 to the word of 2,000.
-- Assumes nothing.
use Prim.Native.Nat.{ℕ, zero, suc, ◌+◌, ◌*◌, ◌/◌, ◌%◌, ◌^◌, ◌≤◌, ◌<◌}
use native.Mathlib.Nat.{le_trans, le_of_eq, lt_of_lt_of_le, mod-eq_of_lt, zero-mul, mul-one, mul_assoc, mul-pos}
use native.Mathlib.Nat.{mul-le-mul_right, mul-le-mul_left, pow-succ'}
use native.Mathlib.Omega.{arith}
use mathlib.Core.Path.{◌≡◌, refl, sym, ap, ◌∙◌, subst}
use mathlib.Core.Logic.{⊎_elim}
use mathlib.Core.Bool.{Bool, true, false, ◌&&◌, cond}
use borrow.Author.Tests.{leb-true, le-leb, lt-leb, lt-ltb, ne_eqb}
use lib.Dec.{T, leb, ltb, eqb, ltb→lt, lit≤, lit<}
use lib.Pow.{pow_pos, pow_mono}
use lib.Ieee.{Float, nan, inf, fin, binary32, up, odd, of_fields, of_bits, lt, le}
use lib.Ieee.Bits.{is_true}
use lib.Ieee.Fits.{up_pos}
use lib.Ieee.Exact.{HasValue, odd_sign}
use lib.Ieee.Order.{le_of_values}
use lib.Ieee.Positive.{positive, positive_of_value, values_of_le}
use Rattle.loops.proofs.BoolLaws.{together, and_next, le_or_lt}
use Rattle.card.specs.Card.{float_of, whole, length_fit}

-- ---- the number of a word, counted in the least float above 0, which is 2 ^ -149

-- with the exponent's field x and the digits t
abbrev counted : ℕ → ℕ → ℕ
counted zero t = t * 1
counted (suc x) t = (0x80_0000 + t) * 2 ^ x

abbrev pub units : ℕ → ℕ
units b = counted (b / 0x80_0000) (b % 0x80_0000)

counted_digits : (x t u : ℕ) → t ≤ u → counted x t ≤ counted x u
counted_digits zero t u h = mul-le-mul_right 1 h
counted_digits (suc x) t u h = mul-le-mul_right (2 ^ x) (omega arith)

-- less than all with the next field
counted_under : (x t : ℕ) → t < 0x80_0000 → counted x t ≤ 0x80_0000 * 2 ^ x
counted_under zero t h = omega arith
counted_under (suc x) t h =
    let twice : 0x80_0000 + t ≤ 0x80_0000 * 2 = omega arith in
    le_trans (mul-le-mul_right (2 ^ x) twice) (le_of_eq (mul_assoc 0x80_0000 2 (2 ^ x) ∙ ap (λ (n : ℕ). 0x80_0000 * n) (sym (pow-succ' 2 x))))

counted_field : (x y t u : ℕ) → x < y → t < 0x80_0000 → counted x t ≤ counted y u
counted_field x zero t u l h = omega arith
counted_field x (suc y) t u l h =
    let first : 0x80_0000 ≤ 0x80_0000 + u = omega arith in
    let low : x ≤ y = omega arith in
    le_trans (counted_under x t h) (le_trans (mul-le-mul_left 0x80_0000 (pow_mono low)) (mul-le-mul_right (2 ^ y) first))

-- a greater word counts more
units_mono : (b c : ℕ) → b ≤ c → units b ≤ units c
units_mono b c h = ⊎_elim same (λ l. counted_field _ (c / 0x80_0000) _ _ l (omega arith)) (le_or_lt (c / 0x80_0000) (b / 0x80_0000))
  where
    same : c / 0x80_0000 ≤ b / 0x80_0000 → units b ≤ units c
    same l =
        let fields : b / 0x80_0000 ≡ c / 0x80_0000 = omega arith in
        let digits : b % 0x80_0000 ≤ c % 0x80_0000 = omega arith in
        subst (λ (x : ℕ). units b ≤ counted x (c % 0x80_0000)) fields (counted_digits (b / 0x80_0000) _ _ digits)

-- ---- the float of a word

-- no sign, and the field is not the highest: the number that was counted
counted_value : (x t : ℕ) → x < 255 → HasValue (of_fields binary32 false x t) false (counted x t) (2 ^ 149)
unfolding of_fields
counted_value zero t h = odd_sign 24 false t 0 149
counted_value (suc x) t h = rw (ne_eqb (suc x) 255 (omega arith)) (odd_sign 24 false (0x80_0000 + t) x 149)

fields_are : (b : ℕ) → float_of b ≡ of_fields binary32 (leb 0x8000_0000 b) (b % 0x8000_0000 / 0x80_0000) (b % 0x80_0000)
unfolding of_bits
fields_are b = refl

no_sign : (b : ℕ) → b < 0x8000_0000 → float_of b ≡ of_fields binary32 false (b / 0x80_0000) (b % 0x80_0000)
no_sign b h = rw (fields_are b, lt-leb 0x8000_0000 b h, mod-eq_of_lt h)

pub units_value : (b : ℕ) → b < 0x7F80_0000 → HasValue (float_of b) false (units b) (2 ^ 149)
units_value b h = rw (no_sign b (omega arith)) (counted_value (b / 0x80_0000) (b % 0x80_0000) (omega arith))

-- a sign, an infinity, a NaN: no length
odd_negative : (q k : ℕ) → length_fit (odd 24 true q k 149) ≡ false
unfolding odd length_fit lt
odd_negative zero k = refl
odd_negative (suc q) k = refl

no_number : (a b s : Bool) (x : Float) → length_fit x ≡ false → length_fit (cond a (cond b (inf s) nan) x) ≡ false
unfolding length_fit
no_number true true s x h = refl
no_number true false s x h = refl
no_number false b s x h = h

negative : (x t : ℕ) → length_fit (of_fields binary32 true x t) ≡ false
unfolding of_fields
negative zero t = odd_negative t 0
negative (suc x) t = no_number (eqb (suc x) 255) (eqb t 0) true _ (odd_negative (0x80_0000 + t) x)

top_field : (t : ℕ) → length_fit (of_fields binary32 false 255 t) ≡ false
unfolding of_fields length_fit
top_field t = no_number true (eqb t 0) false nan refl

unfit_high : (b : ℕ) → 0x7F80_0000 ≤ b → length_fit (float_of b) ≡ false
unfit_high b h = ⊎_elim signed unsigned (le_or_lt 0x8000_0000 b)
  where
    signed : 0x8000_0000 ≤ b → length_fit (float_of b) ≡ false
    signed k = rw (fields_are b, le-leb 0x8000_0000 b k) (negative _ _)

    unsigned : b < 0x8000_0000 → length_fit (float_of b) ≡ false
    unsigned k = let top : b / 0x80_0000 ≡ 255 = omega arith in rw (no_sign b k, top) (top_field _)

-- ---- the law

-- above 0, a length is what counts at most 2,000
pub positive_fit : (x : Float) → T (positive x) → length_fit x ≡ le x (whole 2000)
unfolding length_fit lt
positive_fit nan p = absurd p
positive_fit (inf s) p = absurd p
positive_fit (fin true m e) p = absurd p
positive_fit (fin false m e) p = simp (zero-mul, mul-one, lt-ltb 0 (m * up e) (mul-pos (ltb→lt 0 m p) (up_pos e)))

counts_fit_law : (x : Float) (v : ℕ) → HasValue x false v (2 ^ 149) → 0 < v → length_fit x ≡ leb v (2000 * 2 ^ 149)
counts_fit_law x v h k = positive_fit x p ∙ together (le x (whole 2000)) (leb v (2000 * 2 ^ 149)) at_most fits
  where
    p : T (positive x)
    p = positive_of_value x v (2 ^ 149) h k

    at_most : le x (whole 2000) ≡ true → leb v (2000 * 2 ^ 149) ≡ true
    at_most e = le-leb _ _ (rw mul-one at (values_of_le x (whole 2000) v (2 ^ 149) 2000 1 p tt h (refl, refl) (subst T (sym e) tt)))

    fits : leb v (2000 * 2 ^ 149) ≡ true → le x (whole 2000) ≡ true
    fits e = is_true _ (le_of_values x (whole 2000) v (2 ^ 149) 2000 1 (pow_pos 149) (pow_pos 0) h (refl, refl) (rw mul-one (leb-true _ _ e)))

limit_is : (b : ℕ) → leb (units b) (2000 * 2 ^ 149) ≡ leb b 0x44FA_0000
limit_is b =
    ⊎_elim
    (λ h. le-leb _ _ (le_trans (units_mono b 0x44FA_0000 h) (lit≤ tt)) ∙ sym (le-leb _ _ h))
    (λ h. lt-leb _ _ (lt_of_lt_of_le (lit< tt) (units_mono 0x44FA_0001 b h)) ∙ sym (lt-leb _ _ h))
    (le_or_lt b 0x44FA_0000)

pub units_pos : (b : ℕ) → 0 < b → 0 < units b
units_pos b h = lt_of_lt_of_le (lit< tt) (units_mono 1 b h)

-- a word is a length exactly from 1 to the word of 2,000
pub length_zero : length_fit (float_of 0) ≡ false
unfolding length_fit lt of_bits
length_zero = refl

pub length_above : (b : ℕ) → 0 < b → length_fit (float_of b) ≡ leb b 0x44FA_0000
length_above b p =
    ⊎_elim
    (λ (h : 0x7F80_0000 ≤ b). unfit_high b h ∙ sym (lt-leb b 0x44FA_0000 (omega arith)))
    (λ h. counts_fit_law (float_of b) (units b) (units_value b h) (units_pos b p) ∙ limit_is b)
    (le_or_lt 0x7F80_0000 b)

pub length_is : (b : ℕ) → length_fit (float_of b) ≡ (ltb 0 b && leb b 0x44FA_0000)
length_is zero = length_zero
length_is (suc b) = length_above (suc b) (omega arith) ∙ sym (and_next _ (lt-ltb 0 (suc b) (omega arith)))
