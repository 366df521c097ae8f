-- `frame_bytes::put_head` meets its contract.
-- Assumes nothing.
use native.Mathlib.Omega.{arith}
use mathlib.Core.Path.{◌∙◌, ap}
use lib.ListN.{length, length-set}
use Rattle.book.specs.Words.{put}
use Rattle.book.proofs.WordsLaws.{length_put}
use Rattle.wire.specs.Wire.{half_bytes}
use Rattle.frame.specs.Frame.{head_of}
use Rattle.frame_bytes.proofs.put_head.Goals as goal

pub bounds-out-1 : goal.bounds-out-1
bounds-out-1 c = simp length-set (omega arith)

pub shape_of-out : goal.shape_of-out
shape_of-out c = ap length c.put_half.ensures ∙ length_put _ _ _ ∙ simp length-set

pub returns : goal.returns
unfolding head_of put half_bytes
returns c = c.put_half.ensures ∙ rw c.whom_of.ensures
