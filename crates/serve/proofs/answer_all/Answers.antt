-- `serve::answer_all` meets its contract. The loop's invariant: the book and the line so far are those after the pieces.
-- Assumes nothing.
use native.Mathlib.Omega.{arith}
use Rattle.stream.proofs.Theorems.{served_more}
use Rattle.serve.proofs.answer_all.Goals as goal

pub turn-requires : goal.turn-requires
turn-requires g c = (c.pieces.invariant.holder, omega (arith, c.requires.1), omega (arith, c.requires.2))

pub pieces-preserved : goal.pieces-preserved
pieces-preserved g c = served_more _ c.pieces.invariant c.in_ok-told.ensures.book_after c.in_ok-told.ensures.holder

pub returns-then-not-told : goal.returns-then-not-told
returns-then-not-told g c = served_more _ c.pieces.invariant c.in_ok-told.ensures.book_after c.in_ok-told.ensures.holder
