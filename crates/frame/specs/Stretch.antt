-- Frames that arrive: lost, repeated or shuffled, and what they hand out.
-- Assumes nothing.
use Rattle.std.specs.Prelude.{ℕ, zero, suc, ◌+◌, ◌%◌, ◌≤◌, ◌<◌, ◌≡◌, true, List, [], ◌∷◌, ◌++◌, eqb}
use Rattle.loops.specs.Loops.{pick}
use Rattle.book.specs.Layout.{link_room, bearing_room}
use Rattle.order.specs.Record.{most_depots}
use Rattle.fit.specs.Fit.{message_fit}
use Rattle.wire.specs.Wire.{half_limit, word_limit, Below}
use Rattle.frame.specs.declared.Route.{Route}
use Rattle.frame.specs.Frame.{Reading, bad, old, gap, accepted, encode_frame, decode_frame, meant_body}

-- the numbers of a link, in a register whose counts are in range
pub record Known (r : Route) : Type 0 where
  pub depot : 1 ≤ r.counts.depots
  pub depots : r.counts.depots ≤ most_depots
  pub bearings : r.counts.bearings ≤ bearing_room
  pub shelf : r.shelf.0 < 4
  pub from : r.from.0 < 4
  pub to : r.to.0 < 4

-- what may be sent in one frame: 1 to 16 messages of words that are fit for the link
pub record Sendable (r : Route) (count : ℕ) (g : ℕ → List ℕ) : Type 0 where
  pub some : 1 ≤ count
  pub few : count ≤ link_room
  pub fit : (i : ℕ) → i < count → message_fit r.counts r.shelf.0 r.from.0 (g i) ≡ true
  pub words : (i : ℕ) → i < count → Below word_limit (g i)

-- the frames of a link from some moment on: frame i has the i-th serial after the first, around the wrap, and so many messages
pub record Stream : Type 0 where
  pub first : ℕ
  pub count : ℕ → ℕ
  pub messages : ℕ → ℕ → List ℕ

abbrev pub serial_of : Stream → ℕ → ℕ
serial_of w i = (w.first + i) % half_limit

abbrev pub frame_of : Route → Stream → ℕ → List ℕ
frame_of r w i = encode_frame r (serial_of w i) (w.count i) (w.messages i)

-- the far box: the serial that it expects, and the words of all that it was handed
pub record Box : Type 0 where
  pub expected : ℕ
  pub handed : List ℕ

-- an accepted frame moves the expected serial on by one; any other hands out nothing
unfoldable pub received : Box → Reading → Box
received b bad = b
received b old = b
received b gap = b
received b (accepted count body) = record { expected = (b.expected + 1) % half_limit; handed = b.handed ++ body }

unfoldable pub receive : Route → Box → List ℕ → Box
receive r b f = received b (decode_frame r b.expected f)

unfoldable pub receive_all : Route → Box → List (List ℕ) → Box
receive_all r b [] = b
receive_all r b (f ∷ fs) = receive_all r (receive r b f) fs

-- the messages of the first n frames, in order and once each
unfoldable pub stretch : Route → Stream → ℕ → List ℕ
stretch r w zero = []
stretch r w (suc n) = stretch r w n ++ meant_body r (w.count n) (w.messages n)

-- how many frames were accepted, after k, of those that arrive: the frame expected is the one with that index
unfoldable pub reached : ℕ → List ℕ → ℕ
reached k [] = k
reached k (j ∷ js) = reached (pick (eqb j k) (k + 1) k) js

-- each frame that arrives was sent, and is at most 32,767 from the one that is then expected
pub data Near (total : ℕ) : ℕ → List ℕ → Type 0 where
  done : {k : ℕ} → Near total k []
  next : {k j : ℕ} {js : List ℕ} → j < total → j ≤ k + 32767 → k ≤ j + 32767 → Near total (pick (eqb j k) (k + 1) k) js → Near total k (j ∷ js)
