-- The grammar of a line, to the byte. A line is the letter of its event and then decimal numbers, each after exactly one space.
-- Assumes nothing.
use Rattle.std.specs.Prelude.{ℕ, ◌≤◌, ◌≡◌, List, [], ◌∷◌, ◌++◌, Bool, true, ◌&&◌, leb, length}
use Rattle.line.specs.Number.{decimal, most_number}
use Rattle.request.specs.declared.ask.Event.{Event}
use Rattle.request.specs.declared.ask.Event.TheVariants as event

-- the letter of an event: S R W K T F L
abbrev pub letter : Event → ℕ
letter event.Setup = 83
letter event.Read = 82
letter event.Write = 87
letter event.Tick = 75
letter event.Take = 84
letter event.Refresh = 70
letter event.List = 76

-- how many numbers an event takes, at least. In their order they are
--   S the four counts, then the homes · R crew, bearing · W crew, bearing, value, bits of diameter, bits of width
--   K depot, shelf · T at depot, shelf, from depot · F depot, shelf · L crew, then the bearings
abbrev pub least : Event → ℕ
least event.Setup = 4
least event.Read = 2
least event.Write = 5
least event.Tick = 2
least event.Take = 3
least event.Refresh = 2
least event.List = 1

-- a line has at most 120 bytes, its line feed not counted
abbrev pub most_bytes : ℕ
most_bytes = 120

-- no line has more numbers: each number takes two bytes at least, after the letter's one
abbrev pub most_numbers : ℕ
most_numbers = 59

-- and at most: S 4 to 20, L as many as a line has, the others one count each
abbrev pub most : Event → ℕ
most event.Setup = 20
most event.Read = 2
most event.Write = 5
most event.Tick = 2
most event.Take = 3
most event.Refresh = 2
most event.List = most_numbers

-- the byte that stands before each number
abbrev pub space_byte : ℕ
space_byte = 32

-- the numbers ns, each after one space
unfoldable pub spaced : List ℕ → List ℕ
spaced [] = []
spaced (n ∷ ns) = space_byte ∷ (decimal n ++ spaced ns)

-- the bytes of the line for the event e and the numbers ns
unfoldable pub line_for : Event → List ℕ → List ℕ
line_for e ns = letter e ∷ spaced ns

-- each number is at most 4,294,967,295
unfoldable pub word_sized : List ℕ → Bool
word_sized [] = true
word_sized (n ∷ ns) = leb n most_number && word_sized ns

-- the line s is in the grammar and says the event e with the numbers ns
pub record InGrammar (s : List ℕ) (e : Event) (ns : List ℕ) : Type 0 where
  pub bytes : s ≡ line_for e ns
  pub enough : least e ≤ length ns
  pub not_over : length ns ≤ most e
  pub in_range : word_sized ns ≡ true
  pub short : length s ≤ most_bytes
