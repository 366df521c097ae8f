-- What the answer of a list leaves in a caller's buffer takes 64 words: eight for each of eight bearings.
-- Assumes nothing.
use Rattle.std.specs.Prelude.{ℕ}

abbrev pub list_words : ℕ
list_words = 64
