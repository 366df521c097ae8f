-- What the loop keeps. Answers.antt has the idea.
-- Assumes nothing.
use mathlib.Core.Path.{◌≡◌}
use Rattle.book.specs.Words.{put}
use Rattle.wire.specs.Wire.{word_bytes, joined}
use Rattle.frame.specs.Frame.{sent_word}
use Rattle.frame_bytes.proofs.put_words.Given as goal

abbrev pub invariant-loop-i : goal.invariant-loop-i
invariant-loop-i l = l.out ≡ put l.initial.out l.at (joined l.i (λ j. word_bytes (sent_word l.m j)))
