-- What an event with its numbers asks. In their order they are
--   setup: depots, shelves, bearings, crews, then the homes · read: crew, bearing · write: crew, bearing, value, and the bits of diameter and width
--   tick: depot, shelf · take: at depot, shelf, from depot · refresh: depot, shelf · list: crew, then the bearings
-- Assumes nothing.
use Rattle.std.specs.Prelude.{ℕ, List, get_or, drop}
use Rattle.request.specs.declared.ask.Event.{Event}
use Rattle.request.specs.declared.ask.Event.TheVariants as event
use Rattle.request.specs.declared.ask.Request.{Request}
use Rattle.request.specs.declared.ask.Request.TheVariants as request

-- a number that is not there counts as 0
unfoldable pub request_in : Event → List ℕ → Request
request_in event.Setup ns = request.Setup (get_or ns 0 0) (get_or ns 1 0) (get_or ns 2 0) (get_or ns 3 0)
request_in event.Read ns = request.Read (get_or ns 0 0) (get_or ns 1 0)
request_in event.Write ns = request.Write (get_or ns 0 0) (get_or ns 1 0) (record { value = get_or ns 2 0; diameter = get_or ns 3 0; width = get_or ns 4 0 })
request_in event.Tick ns = request.Tick (get_or ns 0 0) (get_or ns 1 0)
request_in event.Take ns = request.Take (get_or ns 0 0) (get_or ns 1 0) (get_or ns 2 0)
request_in event.Refresh ns = request.Refresh (get_or ns 0 0) (get_or ns 1 0)
request_in event.List ns = request.List (get_or ns 0 0)

-- how many of the numbers are the request's own
unfoldable pub own_numbers : Event → ℕ
own_numbers event.Setup = 4
own_numbers event.Read = 2
own_numbers event.Write = 5
own_numbers event.Tick = 2
own_numbers event.Take = 3
own_numbers event.Refresh = 2
own_numbers event.List = 1

-- the numbers beside it, those that follow: the homes of a setup, the bearings of a list
unfoldable pub beside_in : Event → List ℕ → List ℕ
beside_in e ns = drop (own_numbers e) ns
