-- What the loop keeps. Answers.antt has the idea.
-- Assumes nothing.
use mathlib.Core.Path.{◌≡◌}
use Rattle.book.specs.Words.{put}
use Rattle.numbers.specs.Numbers.{words_at}
use Rattle.numbers.proofs.read_words.Given as goal

abbrev pub invariant-loop-i : goal.invariant-loop-i
invariant-loop-i l = l.words ≡ put l.initial.words 0 (words_at l.bytes l.at l.i)
