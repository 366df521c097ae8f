-- What a caller gets who recovers a journal and is answered with numbers: how it ended, the book, and in two counts how many records were done and how many bytes they have. NO ROOM
-- before all where the counts have no room; then nothing is done.
-- Assumes nothing.
use Rattle.std.specs.Prelude.{ℕ, List, [], ◌∷◌}
use Rattle.book.specs.Words.{put}
use Rattle.journal.specs.Journal.{Recovered, start, replay, end_of}
use Rattle.room.specs.Room.{no_room, in_room}

-- the counts that are told
abbrev pub recovered_counts : ℕ
recovered_counts = 2

-- what is left: the number; the book and the counts, all of each
pub record Left : Type 0 where
  pub number : ℕ
  pub book : List ℕ
  pub counts : List ℕ

abbrev pub left : ℕ → List ℕ → List ℕ → Left
left number l o = record { number = number; book = l; counts = o }

-- of the state in which recovery stands behind the last byte
abbrev pub left_in : Recovered → List ℕ → Left
left_in s o = left (end_of s) s.book (put o 0 (s.done ∷ s.bytes ∷ []))

-- of the bytes f, from the book l and the counts o
unfoldable pub left_by : List ℕ → List ℕ → List ℕ → Left
left_by f l o = in_room recovered_counts o (left_in (replay (start l) f) o) (left no_room l o)
