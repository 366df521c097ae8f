-- The demands, of a book that was set up with the counts n and the homes, over every history of calls from there.
-- Assumes nothing.
use Rattle.std.specs.Prelude.{ℕ, ◌≤◌, ◌<◌, ◌≡◌, ◌⊎◌, true, List, [], ◌∷◌, ◌++◌}
use Rattle.order.specs.Vector.{zeros}
use Rattle.order.specs.Record.{value_of, vector_of}
use Rattle.book.specs.declared.parts.Counts.{Counts}
use Rattle.book.specs.Layout.{counts_of, home, link_of, held, taken, stored}
use Rattle.fit.specs.Fit.{fit}
use Rattle.register.specs.Answers.{told}
use Rattle.paper.specs.Calls.{Call, read, move, Answer, reads}
use Rattle.request.specs.declared.ask.Event.{Event}
use Rattle.line.specs.Reading.{good, reading}
use Rattle.events.specs.Answering as events
use Rattle.calls.specs.Performed.{request_of}
use Rattle.reply.specs.Printed.{printed}
use Rattle.events.specs.Answering.{line_feed, answer_to}
use Rattle.calendar.specs.Dates.{on, date_answer}
use Rattle.calendar.specs.Promises.{Good}
use Rattle.calendar.specs.declared.answers.Date.{Date}
use Rattle.model.specs.Calls.{refusal, step}
use Rattle.model.specs.System.{after, of_model}
use Rattle.model.specs.Demands as demands
use Rattle.model.specs.Moves as moves
use Rattle.model.specs.Page as page
use Rattle.model.specs.Links as links
use Rattle.bridge.specs.View.{to_model, view}
use Rattle.upkeep.specs.Requests.{Request, call, Called, number_at, reply_to, book_after}
use Rattle.bridge.specs.Systems.{of_books}

-- the day number k has a date: one that exists and has the number k, and it is what the calendar answers
pub record HasDate (k : ℕ) : Type 0 where
  pub date : Date
  pub answer : date_answer k ≡ on date k
  pub good : Good date k

module _ (n : Counts) (homes : List ℕ) where
  -- the book after history h, newest call first
  abbrev pub book_of : List Call → List ℕ
  book_of h = after (of_books n homes) h

  pub record Demand1 : Type 0 where
    -- after every history the book is fit, with the counts of its setup
    pub fits : (h : List Call) → fit (book_of h) ≡ true
    pub counts : (h : List Call) → counts_of (book_of h) ≡ n
    -- each home is a depot, and by no call but its crew's move does it become another
    pub homed : (h : List Call) (c : ℕ) → c < n.crews → home (book_of h) c < n.depots
    pub home_stays : (h : List Call) (q : Call) (c : ℕ) → c < n.crews → ((d : ℕ) → q ≡ move c d → ⊥) → home (book_of (q ∷ h)) c ≡ home (book_of h) c
    -- no more messages of a link are taken than it holds
    pub taken_held : (h : List Call) (s o d : ℕ) → s < n.shelves → o < n.depots → d < n.depots → (o ≡ d → ⊥)
        → taken (book_of h) (link_of s o d) ≤ held (book_of h) (link_of s o d)
    -- so no request is answered BAD BOOK
    pub never_bad : (h : List Call) (r : Request) → number_at (book_of h) r ≡ 1 → ⊥
    -- what a promise leaves open is one reply and one book
    pub settled : (h : List Call) (r : Request) (a : Answer) (l : List ℕ) → Called (book_of h) l r a → (a ≡ reply_to (book_of h) r) × (l ≡ book_after (book_of h) r)
    -- a read that is done tells of the record that its home shelf then stores, word for word
    pub tells_stored : (h : List Call) (c k : ℕ) → number_at (book_of h) (call (read c k)) ≡ 0
        → reply_to (book_of h) (call (read c k)) ≡ reads (told n.depots (stored (book_of (read c k ∷ h)) (home (book_of h) c) k))
    -- a refused request moves not one word
    pub refused : (h : List Call) (r : Request) → (number_at (book_of h) r ≡ 0 → ⊥) → book_after (book_of h) r ≡ book_of h

  -- demand 2, its first sentence: each call answers as the model does, and leaves a book whose view is the state that the model is in
  pub record AsModel : Type 0 where
    pub numbers : (h : List Call) (q : Call) → number_at (book_of h) (call q) ≡ refusal (to_model n) (after (of_model (to_model n) homes) h) q
    pub answers : (h : List Call) (q : Call) → (of_books n homes).answer (book_of h) q ≡ (step (to_model n) (after (of_model (to_model n) homes) h) q).answer
    pub leaves : (h : List Call) → view (book_of h) ≡ after (of_model (to_model n) homes) h

  -- and the desk prints it: to a line that asks the call q it says what the model answers, and the book is that of the history with q
  pub record DeskAsModel : Type 0 where
    pub says : (h : List Call) (line : List ℕ) (e : Event) (numbers : List ℕ) (q : Call) → reading line ≡ good e numbers → request_of e numbers ≡ call q
        → answer_to (book_of h) line ≡ printed (step (to_model n) (after (of_model (to_model n) homes) h) q).answer ++ (line_feed ∷ [])
    pub leaves : (h : List Call) (line : List ℕ) (e : Event) (numbers : List ℕ) (q : Call) → reading line ≡ good e numbers → request_of e numbers ≡ call q
        → events.book_after_line (book_of h) line ≡ book_of (q ∷ h)

  -- every date that is stored exists: after every history a bearing is unwritten at a depot, or its value has a date and the calendar answers it
  pub record DatesExist : Type 0 where
    pub stored_dates : (h : List Call) (d k : ℕ) → d < n.depots → k < n.bearings
        → (zeros n.depots (vector_of (stored (book_of h) d k)) ≡ true) ⊎ HasDate (value_of (stored (book_of h) d k))

  pub record Demands : Type 0 where
    pub first : Demand1
    pub as_model : AsModel
    pub desk : DeskAsModel
    pub others : demands.Demands (to_model n) (of_books n homes)
    pub moves : moves.Moves (to_model n) (of_books n homes)
    -- lists: one page, one moment; and nothing is lost on a link
    pub page : page.OnePage (to_model n) (of_books n homes)
    pub links : links.NothingLost (to_model n) (of_books n homes)
    pub dates : DatesExist
