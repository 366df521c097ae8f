-- The places of the book, as docs/LAYOUT.md has them: fixed offsets, fixed strides, whatever the counts are.
-- Assumes nothing.
use Rattle.std.specs.Prelude.{ℕ, ◌+◌, ◌*◌, List, get_or}
use Rattle.order.specs.Vector.{Vec, vector_at}
use Rattle.order.specs.Record.{record_words}
use Rattle.book.specs.Words.{part}
use Rattle.book.specs.declared.parts.Counts.{Counts}

abbrev pub book_words : ℕ
book_words = 16384

-- the end of every clock, stamp and vector entry
abbrev pub end : ℕ
end = 2147483647

-- ---- what the layout has room for; `most_depots` of crate order is 4

abbrev pub most_shelves : ℕ
most_shelves = 4

abbrev pub most_crews : ℕ
most_crews = 16

abbrev pub bearing_room : ℕ
bearing_room = 160

abbrev pub link_room : ℕ
link_room = 16

abbrev pub links : ℕ
links = 64

abbrev pub slot_words : ℕ
slot_words = 10

-- the words of a link's sixteen slots, and of a depot's stored versions
abbrev pub link_words : ℕ
link_words = 160

abbrev pub store_words : ℕ
store_words = 1440

-- ---- places

abbrev pub home_at : ℕ → ℕ
home_at c = 4 + c

abbrev pub crew_at : ℕ → ℕ
crew_at c = 20 + 4 * c

abbrev pub clock_at : ℕ → ℕ → ℕ
clock_at d s = 84 + 4 * d + s

abbrev pub stable_at : ℕ → ℕ → ℕ
stable_at d s = 100 + 16 * d + 4 * s

abbrev pub seen_at : ℕ → ℕ → ℕ
seen_at d s = 164 + 16 * d + 4 * s

-- the link that carries what shelf s of one depot sends to shelf s of another
abbrev pub link_of : ℕ → ℕ → ℕ → ℕ
link_of s from to = 16 * s + 4 * from + to

abbrev pub held_at : ℕ → ℕ
held_at q = 228 + 2 * q

abbrev pub taken_at : ℕ → ℕ
taken_at q = 229 + 2 * q

abbrev pub slot_at : ℕ → ℕ → ℕ
slot_at q i = 356 + link_words * q + slot_words * i

abbrev pub stored_at : ℕ → ℕ → ℕ
stored_at d k = 10596 + store_words * d + record_words * k

-- ---- what stands there, in a book l

-- the four counts
abbrev pub counts_of : List ℕ → Counts
counts_of l = record { depots = get_or l 0 0; shelves = get_or l 1 0; bearings = get_or l 2 0; crews = get_or l 3 0 }

abbrev pub home : List ℕ → ℕ → ℕ
home l c = get_or l (home_at c) 0

abbrev pub crew_vector : List ℕ → ℕ → Vec
crew_vector l c = vector_at l (crew_at c)

abbrev pub clock : List ℕ → ℕ → ℕ → ℕ
clock l d s = get_or l (clock_at d s) 0

abbrev pub stable : List ℕ → ℕ → ℕ → Vec
stable l d s = vector_at l (stable_at d s)

abbrev pub seen : List ℕ → ℕ → ℕ → Vec
seen l d s = vector_at l (seen_at d s)

abbrev pub held : List ℕ → ℕ → ℕ
held l q = get_or l (held_at q) 0

abbrev pub taken : List ℕ → ℕ → ℕ
taken l q = get_or l (taken_at q) 0

-- slot i of link q, ten words
abbrev pub slot : List ℕ → ℕ → ℕ → List ℕ
slot l q i = part l (slot_at q i) slot_words

-- the stored version of bearing k at depot d, a record of nine words
abbrev pub stored : List ℕ → ℕ → ℕ → List ℕ
stored l d k = part l (stored_at d k) record_words

-- ---- messages

-- the kinds of message
abbrev pub copy_kind : ℕ
copy_kind = 1

abbrev pub beat_kind : ℕ
beat_kind = 2

-- behind the kind stand a copy's record, and in it the vector, or a heartbeat's stamp
abbrev pub slot_record : ℕ
slot_record = 1

abbrev pub slot_vector : ℕ
slot_vector = 6

abbrev pub slot_stamp : ℕ
slot_stamp = 1

abbrev pub kind_of : List ℕ → ℕ
kind_of m = get_or m 0 0

-- a heartbeat's stamp
abbrev pub beat_of : List ℕ → ℕ
beat_of m = get_or m slot_stamp 0

-- a copy's version record
abbrev pub record_of : List ℕ → List ℕ
record_of m = part m slot_record record_words
