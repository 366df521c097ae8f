-- What the loop keeps. Answers.antt has the idea.
-- Assumes nothing.
use Prim.Native.Nat.{◌≤◌}
use mathlib.Core.Path.{◌≡◌}
use mathlib.Core.Bool.{true}
use lib.ListN.{length}
use Rattle.loops.specs.Loops.{every}
use Rattle.frame.specs.Frame.{start_in, message_right}
use Rattle.frame_form.proofs.messages_are_right.Given as goal

abbrev pub invariant-loop-i : goal.invariant-loop-i
invariant-loop-i l =
    (l.at ≡ start_in l.way.route.counts.depots l.f l.i) × (every l.i (λ j. message_right l.way.route l.f j (start_in l.way.route.counts.depots l.f j)) ≡ true) × (l.at ≤ length l.f)
