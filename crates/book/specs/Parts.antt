-- The parts of a book: what a writer writes and a reader reads, each at its place of the layout.
-- Assumes nothing.
use Rattle.std.specs.Prelude.{ℕ, ◌<◌, List}
use Rattle.order.specs.Record.{most_depots, record_words}
use Rattle.book.specs.Words.{part, put}
use Rattle.book.specs.Layout.{most_shelves, most_crews, bearing_room, link_room, links, slot_words}
use Rattle.book.specs.Layout.{home_at, crew_at, clock_at, stable_at, seen_at, held_at, slot_at, stored_at}

pub data Part : Type 0 where
  -- one of the four counts; the home of a crew; a crew's vector
  a_count a_home a_crew : ℕ → Part
  -- of a depot's shelf: the clock, the stable vector, the stamps seen
  a_clock a_stable a_seen : ℕ → ℕ → Part
  -- of a link: how many messages it holds and how many of them are taken; a slot
  a_head : ℕ → Part
  a_slot : ℕ → ℕ → Part
  -- the stored version of a bearing at a depot
  a_stored : ℕ → ℕ → Part

abbrev pub place_of : Part → ℕ
place_of (a_count i) = i
place_of (a_home c) = home_at c
place_of (a_crew c) = crew_at c
place_of (a_clock d s) = clock_at d s
place_of (a_stable d s) = stable_at d s
place_of (a_seen d s) = seen_at d s
place_of (a_head q) = held_at q
place_of (a_slot q i) = slot_at q i
place_of (a_stored d k) = stored_at d k

abbrev pub size_of : Part → ℕ
size_of (a_count i) = 1
size_of (a_home c) = 1
size_of (a_crew c) = 4
size_of (a_clock d s) = 1
size_of (a_stable d s) = 4
size_of (a_seen d s) = 4
size_of (a_head q) = 2
size_of (a_slot q i) = slot_words
size_of (a_stored d k) = record_words

-- the layout has this part
abbrev pub InBook : Part → Type 0
InBook (a_count i) = i < 4
InBook (a_home c) = c < most_crews
InBook (a_crew c) = c < most_crews
InBook (a_clock d s) = (d < most_depots) × (s < most_shelves)
InBook (a_stable d s) = (d < most_depots) × (s < most_shelves)
InBook (a_seen d s) = (d < most_depots) × (s < most_shelves)
InBook (a_head q) = q < links
InBook (a_slot q i) = (q < links) × (i < link_room)
InBook (a_stored d k) = (d < most_depots) × (k < bearing_room)

abbrev pub read_part : List ℕ → Part → List ℕ
read_part l p = part l (place_of p) (size_of p)

abbrev pub write_part : List ℕ → Part → List ℕ → List ℕ
write_part l p v = put l (place_of p) v
