-- What a reply, and the grams, leave in a caller's buffer.
-- Assumes nothing.
use Rattle.std.specs.Prelude.{ℕ, ◌/◌, ◌%◌, List, [], ◌∷◌, Option, Some, None}
use Rattle.paper.specs.Calls.{Answer, refused, done, reads, read_value, read_unwritten, current, superseded, listed}
use Rattle.paper.specs.Answers.{padded, page_words}

-- the words that the answer of a read, of a write and of the grams takes
abbrev pub read_words : ℕ
read_words = 8

abbrev pub write_words : ℕ
write_words = 2

abbrev pub grams_words : ℕ
grams_words = 2

-- what a reply leaves in `out`: a read 1, the value and the card's two words, or four times 0 for unwritten, and the vector's entries in four words; a write the stamp, and 1 for
-- current or 0 for superseded; a list eight words for each bearing as a read leaves them, in room for eight; nothing else leaves anything
unfoldable pub words_of : Answer → List ℕ
words_of (refused n) = []
words_of done = []
words_of (reads (read_value p u)) = 1 ∷ p.value ∷ p.diameter ∷ p.width ∷ padded u
words_of (reads (read_unwritten u)) = 0 ∷ 0 ∷ 0 ∷ 0 ∷ padded u
words_of (current stamp) = stamp ∷ 1 ∷ []
words_of (superseded stamp) = stamp ∷ 0 ∷ []
words_of (listed ts) = page_words 8 ts

-- the grams leave their 64 bits as two words, the low one first; no card leaves nothing
unfoldable pub grams_out : Option ℕ → List ℕ
grams_out (Some bits) = bits % 4294967296 ∷ bits / 4294967296 ∷ []
grams_out None = []
