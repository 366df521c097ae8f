-- Bytes: words of 32 bits as four of them, halves of 16 bits as two, the lowest first; and runs of bytes or words one after the other.
-- Assumes nothing.
use Rattle.std.specs.Prelude.{ℕ, zero, suc, ◌+◌, ◌*◌, ◌/◌, ◌%◌, ◌<◌, List, [], ◌∷◌, ◌++◌, get_or}

abbrev pub byte_limit : ℕ
byte_limit = 256

abbrev pub half_limit : ℕ
half_limit = 65536

abbrev pub word_limit : ℕ
word_limit = 4294967296

-- the two bytes of a half
unfoldable pub half_bytes : ℕ → List ℕ
half_bytes w = w % 256 ∷ w / 256 % 256 ∷ []

-- the half that the two bytes from the place at on are
unfoldable pub half_at : List ℕ → ℕ → ℕ
half_at f at = get_or f at 0 + 256 * get_or f (at + 1) 0

-- the four bytes of a word
unfoldable pub word_bytes : ℕ → List ℕ
word_bytes w = w % 256 ∷ w / 256 % 256 ∷ w / 256 / 256 % 256 ∷ w / 256 / 256 / 256 % 256 ∷ []

-- the word that four bytes are
unfoldable pub word_of : ℕ → ℕ → ℕ → ℕ → ℕ
word_of a b c d = a + 256 * b + 65536 * c + 16777216 * d

-- the word that the four bytes from the place at on are
unfoldable pub word_at : List ℕ → ℕ → ℕ
word_at f at = word_of (get_or f at 0) (get_or f (at + 1) 0) (get_or f (at + 2) 0) (get_or f (at + 3) 0)

-- n runs, one after the other: g 0, then g 1, and so on up to g (n - 1)
unfoldable pub joined : ℕ → (ℕ → List ℕ) → List ℕ
joined zero g = []
joined (suc n) g = joined n g ++ g n

-- every number of a list is below a limit
pub record Below (limit : ℕ) (l : List ℕ) : Type 0 where
  pub at : (i : ℕ) → get_or l i 0 < limit
