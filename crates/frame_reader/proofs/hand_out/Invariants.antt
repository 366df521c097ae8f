-- What the loop keeps. Answers.antt has the idea.
-- Assumes nothing.
use Rattle.std.proofs.Common.{◌≡◌}
use Rattle.book.specs.Words.{put}
use Rattle.wire.specs.Wire.{joined}
use Rattle.frame.specs.Frame.{start_in, message_at}
use Rattle.frame_reader.proofs.hand_out.Given as goal

abbrev pub invariant-loop-i : goal.invariant-loop-i
invariant-loop-i l =
    (l.at ≡ start_in l.way.route.counts.depots l.f l.i)
    × (l.out ≡ put l.initial.out 0 (joined l.i (λ j. message_at l.way.route l.f (start_in l.way.route.counts.depots l.f j))))
