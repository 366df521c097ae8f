-- What the loop keeps. Answers.antt has the idea.
-- Assumes nothing.
use Prim.Native.Nat.{ℕ}
use mathlib.Core.Path.{◌≡◌}
use mathlib.Core.List.{List}
use Rattle.loops.specs.Loops.{times}
use Rattle.order.specs.Vector.{merged_at}
use Rattle.book.specs.Layout.{stable}
use Rattle.moment.proofs.gather.Given as goal

abbrev pub turn : ℕ → ℕ → List ℕ → ℕ → List ℕ → List ℕ
turn n d l s u = merged_at n d (stable l d s) 0 u

abbrev pub invariant-loop-s : goal.invariant-loop-s
invariant-loop-s l = l.vector ≡ times l.s (turn l.n l.d.0 l.book) l.initial.vector
