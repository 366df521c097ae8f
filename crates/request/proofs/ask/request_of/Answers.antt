-- `request::ask::request_of` meets its contract: each event's numbers in their order.
-- Assumes nothing.
use Prim.Native.Nat.{ℕ}
use mathlib.Core.Path.{◌≡◌, sym, ◌∙◌, ap}
use mathlib.Core.List.{List}
use Rattle.request.specs.declared.ask.Event.{Event}
use Rattle.request.specs.declared.ask.Request.{Request}
use Rattle.request.specs.declared.ask.Request.TheVariants as request
use Rattle.request.specs.Requests.{request_in}
use Rattle.request.proofs.ask.request_of.Goals as goal

-- an event, known by its case
by_event : (ns : List ℕ) {e e' : Event} {r : Request} → e ≡ e' → r ≡ request_in e' ns → r ≡ request_in e ns
by_event ns p h = h ∙ sym (ap (λ (x : Event). request_in x ns) p)

pub returns-in-Setup : goal.returns-in-Setup
unfolding request_in
returns-in-Setup c =
    by_event _ c.in-Setup.is (λ z. request.Setup (c.number_at-first.ensures z)
    (c.number_at-second.ensures z) (c.number_at-third.ensures z)
    (c.number_at-fourth.ensures z))

pub returns-in-Read : goal.returns-in-Read
unfolding request_in
returns-in-Read c =
    by_event _ c.in-Read.is (λ z. request.Read (c.number_at-first.ensures z)
    (c.number_at-second.ensures z))

pub returns-in-Write : goal.returns-in-Write
unfolding request_in
returns-in-Write c =
    by_event _ c.in-Write.is (λ z. request.Write (c.number_at-first.ensures z)
    (c.number_at-second.ensures z) (record {
      value = c.number_at-third.ensures z;
      diameter =
          c.number_at-fourth.ensures z;
      width = c.number_at-fifth.ensures z;
    }))

pub returns-in-Tick : goal.returns-in-Tick
unfolding request_in
returns-in-Tick c =
    by_event _ c.in-Tick.is (λ z. request.Tick (c.number_at-first.ensures z)
    (c.number_at-second.ensures z))

pub returns-in-Take : goal.returns-in-Take
unfolding request_in
returns-in-Take c =
    by_event _ c.in-Take.is (λ z. request.Take (c.number_at-first.ensures z)
    (c.number_at-second.ensures z) (c.number_at-third.ensures z))

pub returns-in-Refresh : goal.returns-in-Refresh
unfolding request_in
returns-in-Refresh c =
    by_event _ c.in-Refresh.is (λ z. request.Refresh (c.number_at-first.ensures z)
    (c.number_at-second.ensures z))

pub returns-in-List : goal.returns-in-List
unfolding request_in
returns-in-List c = by_event _ c.in-List.is (λ z. request.List (c.number_at-first.ensures z))
