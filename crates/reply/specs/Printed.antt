-- The bytes of each answer on paper, without the line feed.
-- Assumes nothing.
use Rattle.std.specs.Prelude.{ℕ, List, [], ◌∷◌, ◌++◌, true, false}
use Rattle.paper.specs.Calls.{Told, Answer, refused, done, reads, read_value, read_unwritten, current, superseded, listed}
use Rattle.line.specs.Number.{zero_byte}
use Rattle.line.specs.Answers.{number_answer, value_told, unwritten_told, stamp_answer}

-- what a read prints after its 0, of what it is told: the value and the card's two words, or -, then the entries
unfoldable pub told_bytes : Told → List ℕ
told_bytes (read_value p entries) = value_told p entries
told_bytes (read_unwritten entries) = unwritten_told entries

-- what a list prints after its 0: the same of each bearing, in list order
unfoldable pub page_bytes : List Told → List ℕ
page_bytes [] = []
page_bytes (t ∷ ts) = told_bytes t ++ page_bytes ts

-- its number; after the 0 of a read and of a list what is told; after a write's 0 the stamp, then C or S
unfoldable pub printed : Answer → List ℕ
printed (refused n) = number_answer n
printed done = number_answer 0
printed (reads told) = zero_byte ∷ told_bytes told
printed (current stamp) = stamp_answer stamp true
printed (superseded stamp) = stamp_answer stamp false
printed (listed ts) = zero_byte ∷ page_bytes ts

-- what is told of a bearing is no longer: a value, two lengths and four entries, each a space and ten digits
abbrev pub told_room : ℕ
told_room = 77

-- no answer to a line is longer, its line feed counted: the 0, what is told of eight bearings, the line feed
abbrev pub answer_room : ℕ
answer_room = 618
