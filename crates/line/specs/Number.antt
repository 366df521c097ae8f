-- Decimal numbers to the byte: how a number is spelled, and what the digits at the beginning of a text say.
-- Assumes nothing.
use Rattle.std.specs.Prelude.{ℕ, zero, suc, ◌+◌, ◌*◌, ◌-◌, ◌/◌, ◌%◌, ◌≡◌, List, [], ◌∷◌, ◌++◌, Bool, true, ◌&&◌, not, leb, ltb, eqb, length, get_or, drop, Option, None, Some}
use Rattle.loops.specs.Loops.{pick}
use Rattle.line.specs.declared.digits.Number.{Number}

-- the byte of the digit 0, from which the others go on
abbrev pub zero_byte : ℕ
zero_byte = 48

-- a number has 1 to 10 digits
abbrev pub most_digits : ℕ
most_digits = 10

-- and no number is larger
abbrev pub most_number : ℕ
most_number = 4_294_967_295

-- n in at most k digits, with no spare zero: one digit, or the spelling of n / 10 and the last digit
unfoldable pub spelled : ℕ → ℕ → List ℕ
spelled zero n = []
spelled (suc k) n = pick (ltb n 10) ((zero_byte + n) ∷ []) (spelled k (n / 10) ++ ((zero_byte + n % 10) ∷ []))

-- n in decimal, of a number that has at most 10 digits
unfoldable pub decimal : ℕ → List ℕ
decimal n = spelled most_digits n

-- the bytes 0 to 9
unfoldable pub is_digit : ℕ → Bool
is_digit b = leb zero_byte b && leb b 57

-- how many digits a text begins with
unfoldable pub digit_run : List ℕ → ℕ
digit_run [] = 0
digit_run (b ∷ l) = pick (is_digit b) (suc (digit_run l)) 0

-- the number that the digits at the beginning of a text spell, after digits that spell v
unfoldable pub value_from : ℕ → List ℕ → ℕ
value_from v [] = v
value_from v (b ∷ l) = pick (is_digit b) (value_from (v * 10 + (b - zero_byte)) l) v

-- more than one digit, and the first is 0
unfoldable pub spare_zero : List ℕ → Bool
spare_zero l = ltb 1 (digit_run l) && eqb (get_or l 0 0) zero_byte

-- the digits that a text begins with are a number: 1 to 10 digits, no spare leading zero, at most 4,294,967,295
unfoldable pub is_number : List ℕ → Bool
is_number l = leb 1 (digit_run l) && (leb (digit_run l) most_digits && (not (spare_zero l) && leb (value_from 0 l) most_number))

-- what stands in the text s at the place at: a number, with the place after it, or none
unfoldable pub number_from : List ℕ → ℕ → Option Number
number_from s at = pick (is_number (drop at s)) (Some (record { value = value_from 0 (drop at s); next = at + digit_run (drop at s) })) None

-- the text ds is a spelling of n: nothing but digits, which are a number and say n
pub record Spells (ds : List ℕ) (n : ℕ) : Type 0 where
  pub all_digits : digit_run ds ≡ length ds
  pub number : is_number ds ≡ true
  pub value : value_from 0 ds ≡ n
