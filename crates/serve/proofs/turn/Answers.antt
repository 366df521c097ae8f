-- `serve::turn` meets its contract: a piece's answers and records lie in the buffers that were lent for them.
-- Assumes nothing.
use mathlib.Core.Path.{sym}
use lib.Seq.{length-take-le}
use Rattle.serve.proofs.turn.Goals as goal

pub slice_bounds-keep_records-end-2 : goal.slice_bounds-keep_records-end-2
slice_bounds-keep_records-end-2 g c = sym (length-take-le _ _ c.keep_piece-at.ensures.out_in_bounds.1)

pub slice_bounds-write_answers-end-then-keep_records : goal.slice_bounds-write_answers-end-then-keep_records
slice_bounds-write_answers-end-then-keep_records g c = sym (length-take-le _ _ c.keep_piece-at.ensures.out_in_bounds.0)
