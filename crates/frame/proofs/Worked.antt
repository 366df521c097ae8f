-- The worked frames of docs/FRAMES.md, computed; and frames that arrive lost, repeated and shuffled.
-- Assumes nothing.
use Prim.Native.Nat.{ℕ, zero, suc, ◌≤◌}
use native.Mathlib.Omega.{arith}
use mathlib.Core.Path.{◌≡◌, refl}
use mathlib.Core.List.{List, [], ◌∷◌, ◌++◌}
use lib.Dec.{lit<, lit≤}
use lib.ListN.{get_or}
use lib.Ieee.{of_bits, lt, le}
use Rattle.loops.specs.Loops.{every, pick}
use Rattle.card.specs.Card.{card_fit, length_fit}
use Rattle.book.specs.Words.{part}
use Rattle.book.specs.declared.parts.Counts.{Counts}
use Rattle.fit.specs.Fit.{between, in_range, version_fit, carried_fit, copy_fit, beat_fit, message_fit}
use Rattle.links.specs.Send.{beat}
use Rattle.wire.specs.Wire.{half_bytes, half_at, word_bytes, word_of, word_at, joined}
use Rattle.frame.specs.declared.Route.{Route}
use Rattle.frame.specs.Frame.{size_of, sent_word, beat_bytes, copy_bytes, message_bytes, size_to, place_of, whom, head_of, offsets_of, messages_of, encode_frame}
use Rattle.frame.specs.Frame.{start_in, entry_at, copy_at, message_at, message_right, head_right, messages_right, formed, body_in, behind, is_old, is_expected, by_serial, decode_frame}
use Rattle.frame.specs.Frame.{Reading, bad, old, gap, accepted}
use Rattle.frame.specs.Stretch.{reached, Near, done, next}

-- two depots with two shelves each, four bearings, two crews: the link of a shelf from depot 0 to depot 1
pub two : ℕ → Route
two s = record { counts = record { depots = 2; shelves = 2; bearings = 4; crews = 2 }; shelf = record { 0 = s }; from = record { 0 = 0 }; to = record { 0 = 1 } }

-- a copy of bearing 0 and a heartbeat with stamp 2
pub waiting : ℕ → List ℕ
waiting zero = 1 ∷ 0 ∷ 20 ∷ 1065353216 ∷ 1065353216 ∷ 0 ∷ 1 ∷ 0 ∷ 0 ∷ 0 ∷ []
waiting (suc i) = beat 2

pub copy_frame : List ℕ
copy_frame = 65 ∷ 1 ∷ 0 ∷ 0 ∷ 6 ∷ 0 ∷ 1 ∷ 0 ∷ 20 ∷ 0 ∷ 0 ∷ 0 ∷ 0 ∷ 0 ∷ 128 ∷ 63 ∷ 0 ∷ 0 ∷ 128 ∷ 63 ∷ 1 ∷ 0 ∷ 0 ∷ 0 ∷ 0 ∷ 0 ∷ 0 ∷ 0 ∷ []

pub both_frame : List ℕ
both_frame =
    65 ∷ 2 ∷ 255 ∷ 255 ∷ 8 ∷ 0 ∷ 30 ∷ 0 ∷ 1 ∷ 0 ∷ 20 ∷ 0 ∷ 0 ∷ 0 ∷ 0 ∷ 0 ∷ 128 ∷ 63 ∷ 0 ∷ 0 ∷ 128 ∷ 63 ∷ 1 ∷ 0 ∷ 0 ∷ 0 ∷ 0 ∷ 0 ∷ 0 ∷ 0 ∷ 2 ∷ 2 ∷ 0 ∷ 0 ∷ 0 ∷ []

pub beat_frame : List ℕ
beat_frame = 81 ∷ 1 ∷ 2 ∷ 1 ∷ 6 ∷ 0 ∷ 2 ∷ 1 ∷ 0 ∷ 0 ∷ 0 ∷ []

-- the oldest message alone, and both
pub record Written : Type 0 where
  pub one : encode_frame (two 0) 0 1 waiting ≡ copy_frame
  pub both : encode_frame (two 0) 65535 2 waiting ≡ both_frame
  pub heartbeat : encode_frame (two 1) 258 1 (λ i. beat 1) ≡ beat_frame

pub written : Written
unfolding two waiting copy_frame both_frame beat_frame encode_frame head_of offsets_of messages_of whom place_of size_to size_of message_bytes beat_bytes copy_bytes sent_word half_bytes word_bytes joined pick
written = record { one = refl; both = refl; heartbeat = refl }

-- read where a serial is expected: OLD up to 32,767 behind, a GAP from there on; the wrap; a byte more, an offset that is not so, another shelf's bearing, a stamp of 0, a
-- diameter of 0
pub record Read : Type 0 where
  pub done : decode_frame (two 0) 0 copy_frame ≡ accepted 1 (waiting 0)
  pub both : decode_frame (two 0) 65535 both_frame ≡ accepted 2 (waiting 0 ++ beat 2)
  pub behind_1 : decode_frame (two 0) 1 copy_frame ≡ old
  pub behind_32767 : decode_frame (two 0) 32767 copy_frame ≡ old
  pub behind_32768 : decode_frame (two 0) 32768 copy_frame ≡ gap
  pub ahead : decode_frame (two 0) 65535 copy_frame ≡ gap
  pub wrapped : decode_frame (two 0) 0 both_frame ≡ old
  pub longer : decode_frame (two 0) 0 (copy_frame ++ (0 ∷ [])) ≡ bad
  pub offset : decode_frame (two 0) 0 (65 ∷ 1 ∷ 0 ∷ 0 ∷ 7 ∷ 0 ∷ 1 ∷ 0 ∷ 20 ∷ 0 ∷ 0 ∷ 0 ∷ 0 ∷ 0 ∷ 128 ∷ 63 ∷ 0 ∷ 0 ∷ 128 ∷ 63 ∷ 1 ∷ 0 ∷ 0 ∷ 0 ∷ 0 ∷ 0 ∷ 0 ∷ 0 ∷ []) ≡ bad
  pub bearing : decode_frame (two 0) 0 (65 ∷ 1 ∷ 0 ∷ 0 ∷ 6 ∷ 0 ∷ 1 ∷ 1 ∷ 20 ∷ 0 ∷ 0 ∷ 0 ∷ 0 ∷ 0 ∷ 128 ∷ 63 ∷ 0 ∷ 0 ∷ 128 ∷ 63 ∷ 1 ∷ 0 ∷ 0 ∷ 0 ∷ 0 ∷ 0 ∷ 0 ∷ 0 ∷ []) ≡ bad
  pub stamp : decode_frame (two 0) 0 (65 ∷ 1 ∷ 0 ∷ 0 ∷ 6 ∷ 0 ∷ 1 ∷ 0 ∷ 20 ∷ 0 ∷ 0 ∷ 0 ∷ 0 ∷ 0 ∷ 128 ∷ 63 ∷ 0 ∷ 0 ∷ 128 ∷ 63 ∷ 0 ∷ 0 ∷ 0 ∷ 0 ∷ 0 ∷ 0 ∷ 0 ∷ 0 ∷ []) ≡ bad
  pub card : decode_frame (two 0) 0 (65 ∷ 1 ∷ 0 ∷ 0 ∷ 6 ∷ 0 ∷ 1 ∷ 0 ∷ 20 ∷ 0 ∷ 0 ∷ 0 ∷ 0 ∷ 0 ∷ 0 ∷ 0 ∷ 0 ∷ 0 ∷ 128 ∷ 63 ∷ 1 ∷ 0 ∷ 0 ∷ 0 ∷ 0 ∷ 0 ∷ 0 ∷ 0 ∷ []) ≡ bad
  pub other_link : decode_frame (two 0) 258 beat_frame ≡ bad
  pub none : decode_frame (two 0) 0 [] ≡ bad

pub read : Read
unfolding two waiting copy_frame both_frame beat_frame decode_frame by_serial is_expected is_old behind formed head_right messages_right message_right message_at copy_at entry_at start_in body_in size_of whom
    half_at word_at word_of joined every pick between message_fit beat_fit copy_fit carried_fit version_fit in_range card_fit length_fit lt le of_bits part
read =
    record {
      done = refl;
      both = refl;
      behind_1 = refl;
      behind_32767 = refl;
      behind_32768 = refl;
      ahead = refl;
      wrapped = refl;
      longer = refl;
      offset = refl;
      bearing = refl;
      stamp = refl;
      card = refl;
      other_link = refl;
      none = refl;
    }

-- of three frames the first arrives, then the third, the second twice, and the third again: each is near, and all three are accepted
pub arrives : Near 3 0 (0 ∷ 2 ∷ 1 ∷ 1 ∷ 2 ∷ [])
unfolding pick
arrives =
    next (lit< tt) (lit≤ tt) (lit≤ tt)
    (next (lit< tt) (lit≤ tt) (lit≤ tt) (next (lit< tt) (lit≤ tt) (lit≤ tt) (next (lit< tt) (lit≤ tt) (lit≤ tt) (next (lit< tt) (lit≤ tt) (lit≤ tt) done))))

pub arrived : reached 0 (0 ∷ 2 ∷ 1 ∷ 1 ∷ 2 ∷ []) ≡ 3
unfolding reached pick
arrived = refl

-- a frame 32,768 ahead is not near, nor is one that was not sent
pub too_far : Near 40000 0 (32768 ∷ []) → ⊥
too_far (next s p q n) = omega (arith, p)

pub not_sent : Near 3 0 (3 ∷ []) → ⊥
not_sent (next s p q n) = omega (arith, s)
