-- What the loop keeps. Answers.antt has the idea.
-- Assumes nothing.
use mathlib.Core.Path.{◌≡◌}
use mathlib.Core.List.{map}
use lib.ListN.{take}
use Rattle.book.specs.Layout.{stored}
use Rattle.paper.specs.Answers.{page_words}
use Rattle.register.specs.Answers.{told}
use Rattle.moment.proofs.tell_all.Given as goal

abbrev pub invariant-loop-i : goal.invariant-loop-i
invariant-loop-i l = l.words ≡ page_words 8 (map (λ k. told l.n.depots (stored l.book l.d.0 k)) (take l.i l.bearings))
