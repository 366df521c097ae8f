-- What is promised of a call that is made together with its record: the number, the reply, and every word of the book and byte of the buffer after it.
-- Assumes nothing.
use Rattle.std.specs.Prelude.{ℕ, ◌≡◌, List, [], eqb, ltb, length}
use Rattle.loops.specs.Loops.{pick}
use Rattle.paper.specs.Calls.{Answer, refused}
use Rattle.request.specs.Replies.{on_paper, Carries}
use Rattle.book.specs.Words.{put}
use Rattle.upkeep.specs.Requests.{Request, number_at, reply_to}
use Rattle.journal.specs.Record.{record_bytes}
use Rattle.journal.specs.Recording.{recorded_number, recorded_book, recorded_in, recorded_size}
use Rattle.calls.specs.Performed.{Performed}
use Rattle.recorder.specs.declared.answer.Recorded.{Recorded}

-- ---- where there is room

-- the record of a request to the book l: of a refused one none
unfoldable pub record_of : List ℕ → Request → List ℕ
record_of l r = pick (eqb (number_at l r) 0) (record_bytes r) []

-- the request r to the book l is performed, and its record stands in the buffer o from the place at on
pub record Appended (l : List ℕ) (r : Request) (o : List ℕ) (at : ℕ) (a : Recorded) (l' o' : List ℕ) : Type 0 where
  pub number : a.number ≡ number_at l r
  pub performed : Performed l r a.reply l'
  pub size : a.size ≡ length (record_of l r)
  pub buffer : o' ≡ put o at (record_of l r)

-- ---- any buffer

-- the reply on paper: without room a refusal
unfoldable pub recorded_reply : List ℕ → Request → ℕ → Answer
recorded_reply l r room = pick (ltb room (length (record_bytes r))) (refused 1) (reply_to l r)

pub record Recording (l : List ℕ) (r : Request) (o : List ℕ) (a : Recorded) (l' o' : List ℕ) : Type 0 where
  pub number : a.number ≡ recorded_number l r (length o)
  pub reply : on_paper a.reply ≡ recorded_reply l r (length o)
  pub holds : Carries (on_paper a.reply) a.reply
  pub size : a.size ≡ recorded_size l r (length o)
  pub book : l' ≡ recorded_book l r (length o)
  pub buffer : o' ≡ recorded_in l r o
