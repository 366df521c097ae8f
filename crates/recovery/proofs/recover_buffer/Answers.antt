-- `recovery::recover_buffer` meets its contract: no more bytes count than are there, and those behind them are moved.
-- Assumes nothing.
use Prim.Native.Nat.{ℕ, ◌+◌, ◌≤◌}
use native.Mathlib.Omega.{arith}
use mathlib.Core.Path.{◌≡◌, ◌∙◌, sym, ap}
use mathlib.Core.List.{List, ◌++◌}
use lib.ListN.{length, take, drop}
use lib.Seq.{length-take-le, paste}
use Rattle.std.proofs.lemmas.List.Edits.{sets-eq}
use Rattle.book.specs.Words.{part, put}
use Rattle.book.proofs.WordsLaws.{length_part}
use Rattle.recovery.proofs.RecoveryLaws.{counted_in, behind_counted}
use Rattle.recovery.proofs.recover_buffer.Goals as goal

-- bytes that are copied to the front stand there
forward : (o : List ℕ) (m k : ℕ) → m + k ≤ length o → paste o 0 (drop m o) k ≡ put o 0 (part o m k)
unfolding put part
forward o m k h =
    let long : length (take k (drop m o)) ≡ k = length_part o m k h in
    sym (sets-eq (take k (drop m o)) o 0 (omega (arith, h, long)) ∙ ap (λ (n : ℕ). take 0 o ++ take k (drop m o) ++ drop (0 + n) o) long)

pub slice_bounds-recover-end-2 : goal.slice_bounds-recover-end-2
slice_bounds-recover-end-2 c = sym (length-take-le c.args.filled c.args.buffer.now c.requires)

pub copy_within-requires-clause-start_le_end : goal.copy_within-requires-clause-start_le_end
copy_within-requires-clause-start_le_end c = counted_in c.args.buffer.now c.args.filled c.recover-told.ensures c.requires

pub returns : goal.returns
returns c =
    let o = c.args.buffer.now in
    let told = c.recover-told.ensures in
    let within = counted_in o c.args.filled told c.requires in
    record { recovery = told; buffer_after = c.copy_within.ensures.after ∙ forward o _ _ (omega (arith, within, c.requires)) ∙ ap (put o 0) (behind_counted o c.args.filled told c.requires) }
