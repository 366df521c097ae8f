-- `serve::serve_on` meets its contract: no line is begun, and each byte of a piece has room for an answer and for a record.
-- Assumes nothing.
use mathlib.Core.Path.{sym, subst}
use lib.ListN.{length-replicate}
use Prim.Native.Nat.{ℕ, ◌*◌, ◌≤◌}
use lib.Dec.{lit≤}
use Rattle.reply.specs.Printed.{answer_room}
use Rattle.events.specs.Answering.{record_room}
use Rattle.stream.proofs.Theorems.{served_start}
use Rattle.serve.proofs.serve_on.Goals as goal

pub answer_all-requires : goal.answer_all-requires
answer_all-requires g c = (
  served_start _,
  subst (λ (m : ℕ). answer_room * 4097 ≤ m) (sym (length-replicate {A = ℕ} (answer_room * 4097) 0)) (lit≤ tt),
  subst (λ (m : ℕ). record_room * 4097 ≤ m) (sym (length-replicate {A = ℕ} (record_room * 4097) 0)) (lit≤ tt),
)

pub slice_bounds-answer_all-end-3 : goal.slice_bounds-answer_all-end-3
slice_bounds-answer_all-end-3 g c = sym (length-replicate {A = ℕ} (answer_room * 4097) 0)
