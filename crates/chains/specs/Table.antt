-- A table of 256 rows of 256 bits, in words of 64, and what setting bits adds to it.
-- Assumes nothing.
use Rattle.std.specs.Prelude.{ℕ, ◌+◌, ◌*◌, ◌/◌, ◌%◌, ◌^◌, ◌<◌, ◌≡◌, Bool, ◌&&◌, ◌||◌, List, eqb, length, get_or}
use Rattle.chains.specs.Chain.{Grid, some}

abbrev pub most_rows : ℕ
most_rows = 256

abbrev pub row_words : ℕ
row_words = 4

abbrev pub table_words : ℕ
table_words = 1024

-- the word of bit j of row i
abbrev pub place : ℕ → ℕ → ℕ
place i j = i * row_words + j / 64

-- bit x of the word w is set
unfoldable pub bit_of : ℕ → ℕ → Bool
bit_of w x = eqb (w / 2 ^ x % 2) 1

-- bit j of row i is set
unfoldable pub bit : List ℕ → Grid
bit m i j = bit_of (get_or m (place i j) 0) (j % 64)

-- the table m has become l: the bits of P are set besides its own
pub record Adds (m : List ℕ) (P : Grid) (l : List ℕ) : Type 0 where
  pub sized : length l ≡ table_words
  pub bits : (a b : ℕ) → a < most_rows → b < most_rows → bit l a b ≡ bit m a b || P a b

-- the bit j of row i alone
unfoldable pub one : ℕ → ℕ → Grid
one i j a b = eqb a i && eqb b j

-- that bit, if R leads from i to j
unfoldable pub direct : Grid → ℕ → ℕ → Grid
direct R i j a b = R i j && one i j a b

-- in the word p, the bits of row k, if the row of p has bit k
unfoldable pub joins : Grid → ℕ → ℕ → Grid
joins G k p a b = eqb (place a b) p && (G a k && G k b)

-- the bits of n turns, the turn x adding those of P x
unfoldable pub turns : ℕ → (ℕ → Grid) → Grid
turns n P a b = some n (λ x. P x a b)
