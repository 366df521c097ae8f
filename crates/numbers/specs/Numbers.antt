-- Lists of numbers as bytes: four of them for each number, the lowest first, one number after the other.
-- Assumes nothing.
use Rattle.std.specs.Prelude.{ℕ, zero, suc, ◌+◌, List, [], ◌∷◌, ◌++◌}
use Rattle.wire.specs.Wire.{word_bytes, word_at}

-- the bytes of numbers
unfoldable pub bytes_of : List ℕ → List ℕ
bytes_of [] = []
bytes_of (w ∷ ws) = word_bytes w ++ bytes_of ws

-- the n numbers that the bytes from the place at on are
unfoldable pub words_at : List ℕ → ℕ → ℕ → List ℕ
words_at f at zero = []
words_at f at (suc n) = word_at f at ∷ words_at f (at + 4) n
