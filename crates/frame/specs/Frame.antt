-- Frames for the radio link, byte by byte, as docs/FRAMES.md has them: a header of four bytes, an offset of two bytes for each of one to sixteen messages,
-- the messages, and nothing else.
-- Assumes nothing.
use Rattle.std.specs.Prelude.{ℕ, zero, suc, ◌+◌, ◌-◌, ◌*◌, ◌%◌, Bool, ◌&&◌, List, [], ◌∷◌, ◌++◌, eqb, ltb, leb, length, get_or}
use Rattle.loops.specs.Loops.{every, pick}
use Rattle.book.specs.Words.{part}
use Rattle.book.specs.Layout.{link_room, slot_words, link_of, copy_kind, beat_kind, kind_of, beat_of}
use Rattle.fit.specs.Fit.{between, message_fit}
use Rattle.links.specs.Send.{beat}
use Rattle.wire.specs.Wire.{half_limit, half_bytes, half_at, word_bytes, word_at, joined}
use Rattle.frame.specs.declared.Route.{Route}

-- ---- places

-- where offset i stands
abbrev pub offset_at : ℕ → ℕ
offset_at i = 4 + 2 * i

-- where the first of so many messages begins
abbrev pub body_at : ℕ → ℕ
body_at count = 4 + 2 * count

-- how many bytes a message of this kind takes
unfoldable pub size_of : ℕ → ℕ → ℕ
size_of depots kind = pick (eqb kind beat_kind) 5 (pick (eqb kind copy_kind) (14 + 4 * depots) 0)

-- ---- what is written; a message is the ten words of a slot

-- word i of those of a copy that are sent as words: value, diameter, width, and the entries of its vector. Its origin, between them, is not sent
unfoldable pub sent_word : List ℕ → ℕ → ℕ
sent_word m i = get_or m (pick (ltb i 3) (2 + i) (3 + i)) 0

-- a heartbeat: its kind and its stamp
unfoldable pub beat_bytes : List ℕ → List ℕ
beat_bytes m = beat_kind ∷ word_bytes (beat_of m)

-- a copy: its kind, its bearing, and its words
unfoldable pub copy_bytes : ℕ → List ℕ → List ℕ
copy_bytes depots m = copy_kind ∷ get_or m 1 0 % 256 ∷ joined (3 + depots) (λ i. word_bytes (sent_word m i))

unfoldable pub message_bytes : ℕ → List ℕ → List ℕ
message_bytes depots m = pick (eqb (kind_of m) beat_kind) (beat_bytes m) (pick (eqb (kind_of m) copy_kind) (copy_bytes depots m) [])

-- the bytes of the first i messages, in all
unfoldable pub size_to : ℕ → (ℕ → List ℕ) → ℕ → ℕ
size_to depots g zero = 0
size_to depots g (suc i) = size_to depots g i + size_of depots (kind_of (g i))

-- where message i begins, of so many
unfoldable pub place_of : ℕ → ℕ → (ℕ → List ℕ) → ℕ → ℕ
place_of depots count g i = body_at count + size_to depots g i

-- for whom: the number of depots, and the link
unfoldable pub whom : Route → ℕ
whom r = 64 * (r.counts.depots - 1) + link_of r.shelf.0 r.from.0 r.to.0

unfoldable pub head_of : Route → ℕ → ℕ → List ℕ
head_of r serial count = whom r ∷ count ∷ half_bytes serial

unfoldable pub offsets_of : ℕ → ℕ → (ℕ → List ℕ) → List ℕ
offsets_of depots count g = joined count (λ i. half_bytes (place_of depots count g i))

unfoldable pub messages_of : ℕ → ℕ → (ℕ → List ℕ) → List ℕ
messages_of depots count g = joined count (λ i. message_bytes depots (g i))

-- the frame of the messages g 0, g 1, and so on, so many
unfoldable pub encode_frame : Route → ℕ → ℕ → (ℕ → List ℕ) → List ℕ
encode_frame r serial count g = head_of r serial count ++ offsets_of r.counts.depots count g ++ messages_of r.counts.depots count g

-- how many bytes it has
unfoldable pub frame_size : Route → ℕ → (ℕ → List ℕ) → ℕ
frame_size r count g = place_of r.counts.depots count g count

-- ---- what is read

abbrev pub count_in : List ℕ → ℕ
count_in f = get_or f 1 0

abbrev pub serial_in : List ℕ → ℕ
serial_in f = half_at f 2

-- message i begins where the one before it ends, the first behind the offsets
unfoldable pub start_in : ℕ → List ℕ → ℕ → ℕ
start_in depots f zero = body_at (count_in f)
start_in depots f (suc i) = start_in depots f i + size_of depots (get_or f (start_in depots f i) 0)

-- entry x of a copy's vector; past the depots it is 0
unfoldable pub entry_at : ℕ → List ℕ → ℕ → ℕ → ℕ
entry_at depots f at x = pick (ltb x depots) (word_at f (at + 14 + 4 * x)) 0

-- the ten words of the message that begins at a place
unfoldable pub copy_at : Route → List ℕ → ℕ → List ℕ
copy_at r f at =
    get_or f at 0
    ∷ get_or f (at + 1) 0
    ∷ word_at f (at + 2)
    ∷ word_at f (at + 6)
    ∷ word_at f (at + 10)
    ∷ r.from.0
    ∷ entry_at r.counts.depots f at 0
    ∷ entry_at r.counts.depots f at 1
    ∷ entry_at r.counts.depots f at 2
    ∷ entry_at r.counts.depots f at 3
    ∷ []

unfoldable pub message_at : Route → List ℕ → ℕ → List ℕ
message_at r f at = pick (eqb (get_or f at 0) beat_kind) (beat (word_at f (at + 1))) (copy_at r f at)

-- message i is right at a place: its offset says so, its bytes are there, and it is fit for the link
unfoldable pub message_right : Route → List ℕ → ℕ → ℕ → Bool
message_right r f i at =
    eqb (half_at f (offset_at i)) at
    && (ltb at (length f)
    && (leb (at + size_of r.counts.depots (get_or f at 0)) (length f) && message_fit r.counts r.shelf.0 r.from.0 (message_at r f at)))

-- the header is there and for this link
unfoldable pub head_right : Route → List ℕ → Bool
head_right r f =
    leb (body_at 0) (length f) && (eqb (get_or f 0 0) (whom r) && (between 1 (count_in f) link_room && leb (body_at (count_in f)) (length f)))

-- every message is right where the one before it ends
unfoldable pub messages_right : Route → List ℕ → Bool
messages_right r f = every (count_in f) (λ i. message_right r f i (start_in r.counts.depots f i))

-- a frame of this link: and it ends where the last message ends
unfoldable pub formed : Route → List ℕ → Bool
formed r f = head_right r f && (messages_right r f && eqb (start_in r.counts.depots f (count_in f)) (length f))

-- the words of its messages, ten for each
unfoldable pub body_in : Route → List ℕ → List ℕ
body_in r f = joined (count_in f) (λ i. message_at r f (start_in r.counts.depots f i))

-- ---- the serial

-- how far a serial is behind the expected one, around the wrap
unfoldable pub behind : ℕ → ℕ → ℕ
behind expected serial = (expected + half_limit - serial) % half_limit

unfoldable pub is_old : ℕ → ℕ → Bool
is_old expected serial = between 1 (behind expected serial) 32767

unfoldable pub is_expected : ℕ → ℕ → Bool
is_expected expected serial = eqb (behind expected serial) 0

-- ---- the whole

-- what the bytes are to a reader who expects a serial: no frame of the link, an old one, one that leaves a gap, or so many messages with their words
pub data Reading : Type 0 where
  bad old gap : Reading
  accepted : ℕ → List ℕ → Reading

unfoldable pub by_serial : ℕ → ℕ → ℕ → List ℕ → Reading
by_serial expected serial count body = pick (is_old expected serial) old (pick (is_expected expected serial) (accepted count body) gap)

unfoldable pub decode_frame : Route → ℕ → List ℕ → Reading
decode_frame r expected f = pick (formed r f) (by_serial expected (serial_in f) (count_in f) (body_in r f)) bad

-- ---- what a frame says of a message

-- the ten words of a message as a frame carries it: the words that mean something, the sender as the origin, and 0 for all others
unfoldable pub meant_entry : ℕ → List ℕ → ℕ → ℕ
meant_entry depots m x = pick (ltb x depots) (get_or m (6 + x) 0) 0

unfoldable pub meant_copy : Route → List ℕ → List ℕ
meant_copy r m =
    kind_of m
    ∷ get_or m 1 0
    ∷ get_or m 2 0
    ∷ get_or m 3 0
    ∷ get_or m 4 0
    ∷ r.from.0
    ∷ meant_entry r.counts.depots m 0
    ∷ meant_entry r.counts.depots m 1
    ∷ meant_entry r.counts.depots m 2
    ∷ meant_entry r.counts.depots m 3
    ∷ []

unfoldable pub meant : Route → List ℕ → List ℕ
meant r m = pick (eqb (kind_of m) beat_kind) (beat (beat_of m)) (meant_copy r m)

-- the words of so many of them, one after the other
unfoldable pub meant_body : Route → ℕ → (ℕ → List ℕ) → List ℕ
meant_body r count g = joined count (λ i. meant r (g i))

-- message i of a list of their words
abbrev pub message_in : List ℕ → ℕ → List ℕ
message_in body i = part body (slot_words * i) slot_words
