-- What the dispatcher promises: the reply, as it is on paper, and every word of the book after it.
-- Assumes nothing.
use Rattle.std.specs.Prelude.{ℕ, ◌≡◌, List, Result}
use Rattle.paper.specs.Calls.{read, write, tick, take, refresh, move, list}
use Rattle.paper.specs.declared.answer.Refusal.{Refusal}
use Rattle.request.specs.Requests.{request_in, beside_in}
use Rattle.request.specs.Replies.{on_paper, Carries}
use Rattle.request.specs.declared.ask.Event.{Event}
use Rattle.request.specs.declared.ask.Request as request
use Rattle.request.specs.declared.reply.Reply.{Reply}
use Rattle.upkeep.specs.Requests.{Request, setup, call, reply_to, book_after}

-- the request that is asked, with the numbers beside it: a setup's homes, a list's bearings
abbrev pub asked : request.Request → List ℕ → Request
asked (request.Request.Setup d p k c) beside = setup (record { depots = d; shelves = p; bearings = k; crews = c }) beside
asked (request.Request.Read c k) beside = call (read c k)
asked (request.Request.Write c k payload) beside = call (write c k payload)
asked (request.Request.Tick d s) beside = call (tick d s)
asked (request.Request.Take d s from) beside = call (take d s from)
asked (request.Request.Refresh d s) beside = call (refresh d s)
asked (request.Request.Move c d) beside = call (move c d)
asked (request.Request.List c) beside = call (list c beside)

-- and that an event with its numbers asks
unfoldable pub request_of : Event → List ℕ → Request
request_of e ns = asked (request_in e ns) (beside_in e ns)

-- the request r to the book l is replied to with a, and leaves the book l'
pub record Performed (l : List ℕ) (r : Request) (a : Result Reply Refusal) (l' : List ℕ) : Type 0 where
  pub answer : on_paper a ≡ reply_to l r
  pub holds : Carries (on_paper a) a
  pub book : l' ≡ book_after l r
