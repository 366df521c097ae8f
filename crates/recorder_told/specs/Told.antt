-- What a caller gets who makes a call together with its record and is answered with numbers: the number, the book, the record's bytes, and the words that are told. Checked in this
-- order: NO ROOM without words to tell in; BAD RECORD; NO ROOM for the record; what the call checks.
-- Assumes nothing.
use Rattle.std.specs.Prelude.{ℕ, Bool, List, ◌∷◌, eqb, leb, length, replicate}
use Rattle.std.proofs.Math.Option.{Option, none, some}
use Rattle.loops.specs.Loops.{pick}
use Rattle.paper.specs.Calls.{Answer}
use Rattle.book.specs.Words.{put}
use Rattle.upkeep.specs.Requests.{Request, reply_to}
use Rattle.journal.specs.declared.record.Kind.{Kind}
use Rattle.journal.specs.Record.{kind_of, Form, plain, counted, form_of, record_bytes, request_by}
use Rattle.journal.specs.Recording.{recorded_number, recorded_book, recorded_in}
use Rattle.room.specs.Room.{no_room, in_room, filled}
use Rattle.telling.specs.Told.{words_of}

-- ---- what is asked

-- so many numbers are those of a kind of this form: where a byte counts, there may be more
unfoldable pub fits : Form → ℕ → Bool
fits (plain n) count = eqb count n
fits (counted n) count = leb n count

-- what a kind with these numbers asks, if it has so many
unfoldable pub asks_by : Option Kind → List ℕ → Option Request
asks_by none ns = none
asks_by (some k) ns = pick (fits (form_of k) (length ns)) (some (request_by k ns)) none

unfoldable pub asks : ℕ → List ℕ → Option Request
asks kind ns = asks_by (kind_of kind) ns

-- ---- what is told

-- an answer in 64 words: what a read, a write or a list leaves in 64 words of 0; of any other call these
unfoldable pub answer_words : Answer → List ℕ
answer_words a = filled (words_of a) (replicate 64 0)

-- with how many bytes the record has before them
abbrev pub recorded_words : ℕ
recorded_words = 65

-- ---- what is left

-- the number; the book, the buffer for the record and the words, all of each
pub record Left : Type 0 where
  pub number : ℕ
  pub book : List ℕ
  pub bytes : List ℕ
  pub words : List ℕ

abbrev pub left : ℕ → List ℕ → List ℕ → List ℕ → Left
left number l b o = record { number = number; book = l; bytes = b; words = o }

-- a request is made together with its record; if it is done, it is told
unfoldable pub made : Request → List ℕ → List ℕ → List ℕ → Left
made r l b o = record {
  number = recorded_number l r (length b);
  book = recorded_book l r (length b);
  bytes = recorded_in l r b;
  words = pick (eqb (recorded_number l r (length b)) 0) (put o 0 (length (record_bytes r) ∷ answer_words (reply_to l r))) o;
}

-- what is asked, if anything is; else BAD RECORD, and nothing is done
unfoldable pub made_by : Option Request → List ℕ → List ℕ → List ℕ → Left
made_by none l b o = left 110 l b o
made_by (some r) l b o = made r l b o

-- this kind with these numbers, from the book l, the buffer b and the words o
unfoldable pub left_by : ℕ → List ℕ → List ℕ → List ℕ → List ℕ → Left
left_by kind ns l b o = in_room recorded_words o (made_by (asks kind ns) l b o) (left no_room l b o)
