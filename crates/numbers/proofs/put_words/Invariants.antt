-- What the loop keeps. Answers.antt has the idea.
-- Assumes nothing.
use mathlib.Core.Path.{◌≡◌}
use lib.ListN.{take}
use Rattle.book.specs.Words.{put}
use Rattle.numbers.specs.Numbers.{bytes_of}
use Rattle.numbers.proofs.put_words.Given as goal

abbrev pub invariant-loop-i : goal.invariant-loop-i
invariant-loop-i l = l.out ≡ put l.initial.out l.at (bytes_of (take l.i l.words))
