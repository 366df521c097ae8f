-- The number of each answer of `who_has`, and what it leaves in a caller's buffer.
-- Assumes nothing.
use Rattle.std.specs.Prelude.{ℕ, List, [], ◌∷◌}
use Rattle.std.proofs.lemmas.List.Edits.{sets}
use Rattle.who.specs.Who.{Told, refused, has}

-- the words that an answer takes
abbrev pub who_words : ℕ
who_words = 2

-- the number of an answer: 0 for a mask, else the refusal's
unfoldable pub told_number : Told → ℕ
told_number (refused n) = n
told_number (has mask count) = 0

-- what it leaves in `out`: the mask and the count; nothing if refused
unfoldable pub told_out : Told → List ℕ → List ℕ
told_out (refused n) o = o
told_out (has mask count) o = sets o 0 (mask ∷ count ∷ [])
