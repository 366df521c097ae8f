-- The desk: what it says to a line, what a line does to the book, and the record of it. Any bytes are a line.
-- Assumes nothing.
use Rattle.std.specs.Prelude.{ℕ, List, [], ◌∷◌, ◌++◌, eqb}
use Rattle.loops.specs.Loops.{pick}
use Rattle.request.specs.declared.ask.Event.{Event}
use Rattle.upkeep.specs.Requests as requests
use Rattle.upkeep.specs.Requests.{Request, number_at, reply_to}
use Rattle.journal.specs.Journal.{journal}
use Rattle.calls.specs.Performed.{request_of}
use Rattle.line.specs.Reading.{Reading, bad, good, reading}
use Rattle.line.specs.Answers.{number_answer}
use Rattle.reply.specs.Printed.{printed}

-- the number of a line that is not in the grammar: BAD LINE
abbrev pub bad_line_number : ℕ
bad_line_number = 13

-- the byte that ends a line
abbrev pub line_feed : ℕ
line_feed = 10

-- what is said to an event and its numbers, and the book after it: those of the request
unfoldable pub event_says : List ℕ → Event → List ℕ → List ℕ
event_says l e ns = printed (reply_to l (request_of e ns))

unfoldable pub event_book : List ℕ → Event → List ℕ → List ℕ
event_book l e ns = requests.book_after l (request_of e ns)

-- the same of what a line says; a bad line leaves the book alone
unfoldable pub reading_says : List ℕ → Reading → List ℕ
reading_says l bad = number_answer bad_line_number
reading_says l (good e ns) = event_says l e ns

unfoldable pub reading_book : List ℕ → Reading → List ℕ
reading_book l bad = l
reading_book l (good e ns) = event_book l e ns

-- what the desk writes for the line s, with its line feed
unfoldable pub answer_to : List ℕ → List ℕ → List ℕ
answer_to l s = reading_says l (reading s) ++ (line_feed ∷ [])

-- the book after the line s
unfoldable pub book_after_line : List ℕ → List ℕ → List ℕ
book_after_line l s = reading_book l (reading s)

-- ---- the record

-- what an event and its numbers got done: the request, if its number is 0
unfoldable pub event_done : List ℕ → Event → List ℕ → List Request
event_done l e ns = pick (eqb (number_at l (request_of e ns)) 0) (request_of e ns ∷ []) []

-- the same of what a line says; a bad line gets nothing done
unfoldable pub reading_done : List ℕ → Reading → List Request
reading_done l bad = []
reading_done l (good e ns) = event_done l e ns

-- what the line s got done
unfoldable pub done_by : List ℕ → List ℕ → List Request
done_by l s = reading_done l (reading s)

-- and its record: nothing where the line is bad or refused
unfoldable pub record_to : List ℕ → List ℕ → List ℕ
record_to l s = journal (done_by l s)

-- no record of a request that is done is longer
abbrev pub record_room : ℕ
record_room = 82

-- what a line gives, as an answer, a record or what it got done: a list that follows from the book before it and the line
abbrev pub Giving : Type 0 → Type 0
Giving A = List ℕ → List ℕ → List A
