-- Each part of a book by itself: which parts its counts name, and when one is fit; and which fitness a request asks for before it does anything.
-- Assumes nothing.
use Rattle.std.specs.Prelude.{ℕ, ◌<◌, ◌≡◌, Bool, true, List, leb, eqb, length}
use Rattle.paper.specs.Calls.{read, write, tick, take, refresh, move, list}
use Rattle.book.specs.declared.parts.Counts.{Counts}
use Rattle.book.specs.Layout.{book_words, end, counts_of, seen, link_of}
use Rattle.fit.specs.Fit.{counts_fit, home_fit, crew_fit, clock_fit, stable_fit, head_fit, link_fit, stored_fit}
use Rattle.named.specs.Named.{waiting_fit, tick_fit, take_fit, refresh_fit, read_fit, write_fit, move_fit, list_fit}
use Rattle.upkeep.specs.Requests.{Request, setup, call}

-- the parts that are judged one by one
pub data Part : Type 0 where
  the_length the_counts : Part
  -- of a crew: its home, its vector
  a_home a_crew : ℕ → Part
  -- of a depot's shelf: the clock, the stable vector
  a_clock a_stable : ℕ → ℕ → Part
  -- at a depot's shelf: the last stamp seen from a depot
  a_stamp : ℕ → ℕ → ℕ → Part
  -- of a shelf's link from a depot to a depot: its head; head and untaken messages; and the whole of it, head and all messages
  a_head a_waiting a_link : ℕ → ℕ → ℕ → Part
  -- at a depot: the stored version of a bearing
  a_stored : ℕ → ℕ → Part

-- the counts name this part: every number is in range; a depot sees no stamp of its own and has no link to itself
abbrev pub Named : Counts → Part → Type 0
Named n the_length = Unit
Named n the_counts = Unit
Named n (a_home c) = c < n.crews
Named n (a_crew c) = c < n.crews
Named n (a_clock d s) = (d < n.depots) × (s < n.shelves)
Named n (a_stable d s) = (d < n.depots) × (s < n.shelves)
Named n (a_stamp d s from) = (d < n.depots) × (s < n.shelves) × (from < n.depots) × (from ≡ d → ⊥)
Named n (a_head s from to) = (s < n.shelves) × (from < n.depots) × (to < n.depots) × (from ≡ to → ⊥)
Named n (a_waiting s from to) = (s < n.shelves) × (from < n.depots) × (to < n.depots) × (from ≡ to → ⊥)
Named n (a_link s from to) = (s < n.shelves) × (from < n.depots) × (to < n.depots) × (from ≡ to → ⊥)
Named n (a_stored d k) = (d < n.depots) × (k < n.bearings)

-- the part is fit
unfoldable pub fit_part : Counts → List ℕ → Part → Bool
fit_part n l the_length = eqb (length l) book_words
fit_part n l the_counts = counts_fit n
fit_part n l (a_home c) = home_fit n l c
fit_part n l (a_crew c) = crew_fit n l c
fit_part n l (a_clock d s) = clock_fit l d s
fit_part n l (a_stable d s) = stable_fit n l d s
fit_part n l (a_stamp d s from) = leb (seen l d s from) end
fit_part n l (a_head s from to) = head_fit l (link_of s from to)
fit_part n l (a_waiting s from to) = waiting_fit n l s from (link_of s from to)
fit_part n l (a_link s from to) = link_fit n l s from (link_of s from to)
fit_part n l (a_stored d k) = stored_fit n l d k

-- in the book l this part is fit, if the book's counts name it
abbrev pub Fits : List ℕ → Part → Type 0
Fits l p = Named (counts_of l) p → fit_part (counts_of l) l p ≡ true

-- what a request asks of a book: a setup the length, a call the parts that it reads or writes
unfoldable pub fit_for : List ℕ → Request → Bool
fit_for l (setup n homes) = eqb (length l) book_words
fit_for l (call (read c k)) = read_fit l c k
fit_for l (call (write c k payload)) = write_fit l c k
fit_for l (call (tick d s)) = tick_fit l d s
fit_for l (call (take d s from)) = take_fit l d s from
fit_for l (call (refresh d s)) = refresh_fit l d s
fit_for l (call (move c d)) = move_fit l c d
fit_for l (call (list c ks)) = list_fit l c ks
