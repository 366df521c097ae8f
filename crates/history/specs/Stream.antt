-- The lines of a whole input, and how they are read byte by byte.
-- Assumes nothing.
use Rattle.std.specs.Prelude.{ℕ, ◌+◌, ◌*◌, ◌≤◌, ◌≡◌, List, [], ◌∷◌, ◌++◌, ltb, eqb, length, take, replicate}
use Rattle.std.proofs.lemmas.List.Edits.{sets}
use Rattle.loops.specs.Loops.{pick}
use Rattle.entries.specs.Entries.{entry_words, most_entries}
use Rattle.history.specs.Entry.{entry_in, stored}

-- the byte that ends a line
abbrev pub line_feed : ℕ
line_feed = 10

-- ---- a whole input

-- the lines of a text whose first line begins with p; a last line without its line feed counts if not empty
unfoldable pub lines_from : List ℕ → List ℕ → List (List ℕ)
lines_from p [] = pick (eqb (length p) 0) [] (p ∷ [])
lines_from p (b ∷ t) = pick (eqb b line_feed) (p ∷ lines_from [] t) (lines_from (p ++ (b ∷ [])) t)

unfoldable pub lines_of : List ℕ → List (List ℕ)
lines_of t = lines_from [] t

-- the words of the entries that lines say
unfoldable pub words_of : List (List ℕ) → List ℕ
words_of [] = []
words_of (s ∷ ss) = stored (entry_in s) ++ words_of ss

-- ---- byte by byte

abbrev pub history_words : ℕ
history_words = 2816

-- of a long line 112 bytes are kept: enough to refuse it
abbrev pub kept_bytes : ℕ
kept_bytes = 112

-- what has been read: the words of the lines that have ended, with room for those of 256; how many these are, 257 standing for more; the line so far
pub record Read : Type 0 where
  pub words : List ℕ
  pub lines : ℕ
  pub line : List ℕ

-- the same as it stands in the buffers that are lent
abbrev pub state : List ℕ → List ℕ → ℕ → ℕ → Read
state words line kept lines = record { words = words; lines = lines; line = take kept line }

pub record Fits (words line : List ℕ) (kept lines : ℕ) : Type 0 where
  pub room : length words ≡ history_words
  pub bytes : length line ≡ kept_bytes
  pub kept_few : kept ≤ kept_bytes
  pub lines_few : lines ≤ most_entries + 1

-- nothing has been read
abbrev pub start : Read
start = record { words = replicate history_words 0; lines = 0; line = [] }

-- the line so far has ended
unfoldable pub ended : Read → Read
ended r =
    pick (ltb r.lines most_entries)
    (record { words = sets r.words (r.lines * entry_words) (stored (entry_in r.line)); lines = r.lines + 1; line = [] })
    (record { words = r.words; lines = most_entries + 1; line = [] })

-- a byte of the line so far
unfoldable pub grown : Read → ℕ → Read
grown r b = record { words = r.words; lines = r.lines; line = pick (ltb (length r.line) kept_bytes) (r.line ++ (b ∷ [])) r.line }

unfoldable pub fed : Read → ℕ → Read
fed r b = pick (eqb b line_feed) (ended r) (grown r b)

-- all the bytes of a text
unfoldable pub through : Read → List ℕ → Read
through r [] = r
through r (b ∷ t) = through (fed r b) t

-- the end of the input
unfoldable pub finished : Read → Read
finished r = pick (eqb (length r.line) 0) r (ended r)

-- what stands in the buffers was read since nothing had been read: these bytes
pub record Seen (words line : List ℕ) (kept lines : ℕ) : Type 0 where
  pub fits : Fits words line kept lines
  pub bytes : List ℕ
  pub after : state words line kept lines ≡ through start bytes
