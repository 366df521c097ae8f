-- A call made together with its record, into a buffer that is lent: its number, the book and the buffer after it, and how many bytes the record has.
-- Assumes nothing.
use Rattle.std.specs.Prelude.{ℕ, List, eqb, ltb, length}
use Rattle.loops.specs.Loops.{pick}
use Rattle.book.specs.Words.{put}
use Rattle.upkeep.specs.Requests.{Request, number_at, book_after}
use Rattle.journal.specs.Record.{record_bytes}

-- no room for the record is NO ROOM, before the book is looked at; else the request's own number
unfoldable pub recorded_number : List ℕ → Request → ℕ → ℕ
recorded_number l r room = pick (ltb room (length (record_bytes r))) 100 (number_at l r)

-- without room nothing is done
unfoldable pub recorded_book : List ℕ → Request → ℕ → List ℕ
recorded_book l r room = pick (ltb room (length (record_bytes r))) l (book_after l r)

-- done, the record stands first in the buffer o; else the buffer is as it was
unfoldable pub recorded_in : List ℕ → Request → List ℕ → List ℕ
recorded_in l r o = pick (eqb (recorded_number l r (length o)) 0) (put o 0 (record_bytes r)) o

-- and this is how many bytes are told
unfoldable pub recorded_size : List ℕ → Request → ℕ → ℕ
recorded_size l r room = pick (eqb (recorded_number l r room) 0) (length (record_bytes r)) 0
