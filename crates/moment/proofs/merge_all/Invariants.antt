-- What the loop keeps. Answers.antt has the idea.
-- Assumes nothing.
use Prim.Native.Nat.{ℕ}
use mathlib.Core.Path.{◌≡◌}
use mathlib.Core.List.{List}
use lib.ListN.{get_or}
use Rattle.loops.specs.Loops.{times}
use Rattle.order.specs.Vector.{merged_at}
use Rattle.order.specs.Record.{vector_of}
use Rattle.book.specs.Layout.{crew_at, stored}
use Rattle.moment.proofs.merge_all.Given as goal

-- one turn, with bearing k
abbrev pub turn : ℕ → ℕ → ℕ → ℕ → List ℕ → List ℕ
turn n c d k m = merged_at n n (vector_of (stored m d k)) (crew_at c) m

abbrev pub invariant-loop-i : goal.invariant-loop-i
invariant-loop-i l = l.book ≡ times l.i (λ j m. turn l.n.depots l.c.0 l.d.0 (get_or l.bearings j 0) m) l.initial.book
