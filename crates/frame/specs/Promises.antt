-- The promises of the writer and the reader of frames: the number of the first check that fails, 0 where none does, and every byte or word of the buffer
-- after it. The book is only read.
-- Assumes nothing.
use Rattle.std.specs.Prelude.{ℕ, ◌+◌, ◌-◌, ◌*◌, ◌<◌, ◌≡◌, Bool, ◌&&◌, ◌||◌, not, List, [], ◌∷◌, eqb, ltb, leb, length, Result, Ok, Err}
use Rattle.loops.specs.Loops.{pick}
use Rattle.book.specs.Words.{put}
use Rattle.book.specs.Layout.{most_shelves, link_room, slot_words, counts_of, link_of, held, taken, slot}
use Rattle.fit.specs.Fit.{Within}
use Rattle.named.specs.Named.{waiting_fit, base_fit}
use Rattle.paper.specs.Calls.{first}
use Rattle.paper.specs.Answers.{number_of}
use Rattle.frame.specs.declared.FrameRefusal.{FrameRefusal}
use Rattle.frame.specs.declared.FrameRefusal.TheVariants.{Link, NoRoom, BadCount, BadFrame, Old, Gap}
use Rattle.frame.specs.declared.Route.{Route}
use Rattle.frame.specs.Frame.{encode_frame, frame_size, count_in, serial_in, formed, body_in, is_old, is_expected}

-- the number of a refusal: as a take's, or one of this part's own
unfoldable pub frame_number : FrameRefusal → ℕ
frame_number (Link r) = number_of r
frame_number NoRoom = 100
frame_number BadCount = 101
frame_number BadFrame = 102
frame_number Old = 103
frame_number Gap = 104

-- the answer by a number: done, with what is told, where it is 0; else the refusal that has it
unfoldable pub Tells : ℕ → ℕ → Result ℕ FrameRefusal → Type 0
Tells number told (Ok n) = (number ≡ 0) × (n ≡ told)
Tells number told (Err r) = number ≡ frame_number r

-- the answer a and the buffer o' after it: as it is made where the number is 0, else as it was
pub record Outcome (number told : ℕ) (made o : List ℕ) (a : Result ℕ FrameRefusal) (o' : List ℕ) : Type 0 where
  pub answer : Tells number told a
  pub buffer : o' ≡ pick (eqb number 0) made o

-- the link of shelf s from a depot to depot d, in the register of a book
abbrev pub route_in : List ℕ → ℕ → ℕ → ℕ → Route
route_in l d s from = record { counts = counts_of l; shelf = record { 0 = s }; from = record { 0 = from }; to = record { 0 = d } }

-- what the checks of its numbers give
pub record Ready (r : Route) : Type 0 where
  pub counts : Within r.counts
  pub shelf : r.shelf.0 < most_shelves
  pub from : r.from.0 < r.counts.depots
  pub to : r.to.0 < r.counts.depots

-- ---- the writer

-- its untaken message i, the oldest first
abbrev pub untaken : List ℕ → ℕ → ℕ → ℕ → ℕ → List ℕ
untaken l d s from i = slot l (link_of s from d) (taken l (link_of s from d) + i)

-- the parts that the writer reads: the length, the counts, the homes, and of the link the head and all that waits. A number out of range names no link, nor
-- does a depot with itself
unfoldable pub link_read : List ℕ → ℕ → ℕ → ℕ → Bool
link_read l d s from =
    base_fit l
    && (leb (counts_of l).depots d
    || (leb (counts_of l).depots from || (leb (counts_of l).shelves s || (eqb d from || waiting_fit (counts_of l) l s from (link_of s from d)))))

-- a count that is 0, over 16 or over what stands untaken
unfoldable pub bad_count : ℕ → ℕ → Bool
bad_count count waiting = eqb count 0 || (ltb link_room count || ltb waiting count)

unfoldable pub writer_number : List ℕ → ℕ → ℕ → ℕ → ℕ → ℕ → ℕ
writer_number l d s from count room = first
    ((not (link_read l d s from), 1)
    ∷ (leb (counts_of l).depots d || leb (counts_of l).depots from, 2)
    ∷ (leb (counts_of l).shelves s, 3)
    ∷ (eqb d from, 6)
    ∷ (leb (held l (link_of s from d)) (taken l (link_of s from d)), 7)
    ∷ (bad_count count (held l (link_of s from d) - taken l (link_of s from d)), 101)
    ∷ (ltb room (frame_size (route_in l d s from) count (untaken l d s from)), 100)
    ∷ [])

-- a book l, a link, a count and a serial; a buffer o before and o' after
abbrev pub Written : List ℕ → ℕ → ℕ → ℕ → ℕ → ℕ → List ℕ → Result ℕ FrameRefusal → List ℕ → Type 0
Written l d s from count serial o =
    Outcome
    (writer_number l d s from count (length o))
    (frame_size (route_in l d s from) count (untaken l d s from))
    (put o 0 (encode_frame (route_in l d s from) serial count (untaken l d s from)))
    o

-- ---- the reader

-- of the frame itself: its form, then its serial, then the room for its messages
unfoldable pub arrival_rows : Route → ℕ → List ℕ → ℕ → List (Bool × ℕ)
arrival_rows r expected f room =
    (not (formed r f), 102)
    ∷ (is_old expected (serial_in f), 103)
    ∷ (not (is_expected expected (serial_in f)), 104)
    ∷ (ltb room (slot_words * count_in f), 100)
    ∷ []

unfoldable pub reader_number : List ℕ → ℕ → ℕ → ℕ → ℕ → List ℕ → ℕ → ℕ
reader_number l d s from expected f room = first
    ((not (base_fit l), 1)
    ∷ (leb (counts_of l).depots d || leb (counts_of l).depots from, 2)
    ∷ (leb (counts_of l).shelves s, 3)
    ∷ (eqb d from, 6)
    ∷ arrival_rows (route_in l d s from) expected f room)

-- a book l, a link, the serial that is expected, and the bytes f; a buffer o before and o' after
abbrev pub WasRead : List ℕ → ℕ → ℕ → ℕ → ℕ → List ℕ → List ℕ → Result ℕ FrameRefusal → List ℕ → Type 0
WasRead l d s from expected f o = Outcome (reader_number l d s from expected f (length o)) (count_in f) (put o 0 (body_in (route_in l d s from) f)) o
