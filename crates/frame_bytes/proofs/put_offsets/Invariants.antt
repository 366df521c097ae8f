-- What the loop keeps. Answers.antt has the idea.
-- Assumes nothing.
use Prim.Native.Nat.{◌+◌}
use mathlib.Core.Path.{◌≡◌}
use Rattle.book.specs.Words.{put}
use Rattle.book.specs.Layout.{slot}
use Rattle.wire.specs.Wire.{half_bytes, joined}
use Rattle.frame.specs.Frame.{place_of}
use Rattle.frame_bytes.proofs.put_offsets.Given as goal

abbrev pub invariant-loop-i : goal.invariant-loop-i
invariant-loop-i l =
    (l.at ≡ place_of l.depots l.count (λ j. slot l.book l.q.0 (l.taken + j)) l.i)
    × (l.out ≡ put l.initial.out 4 (joined l.i (λ k. half_bytes (place_of l.depots l.count (λ j. slot l.book l.q.0 (l.taken + j)) k))))
