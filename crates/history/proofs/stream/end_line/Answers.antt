-- `history::stream::end_line` meets its contract. There is room for the line's words, or it is one too many.
-- Assumes nothing.
use native.Mathlib.Omega.{arith}
use mathlib.Core.Path.{refl, sym, ◌∙◌, ap}
use lib.ListN.{length}
use Prim.Native.Nat.{◌*◌, ◌+◌, ◌≤◌}
use mathlib.Core.List.{List}
use Prim.Native.Nat.{ℕ}
use Rattle.std.specs.Prelude.{Option, unwrap_or}
use Rattle.history.specs.Entry.{bad_words}
use lib.Seq.{length-take-le}
use Rattle.line.proofs.PrintLaws.{sets_copied}
use Rattle.history.proofs.Accepted.{stored_length}
use Rattle.history.proofs.StreamLaws.{ended_many, ended_few, stored_or}
use Rattle.history.proofs.stream.end_line.Goals as goal

pub returns-then-lines-ge-MOST_ENTRIES : goal.returns-then-lines-ge-MOST_ENTRIES
returns-then-lines-ge-MOST_ENTRIES c = let done = ended_many _ _ _ _ c.requires c.if-lines-ge-MOST_ENTRIES.true in record { fits = done.0; kept_value = (refl, done.1) }

pub slice_bounds-read_line-end : goal.slice_bounds-read_line-end
slice_bounds-read_line-end c = sym (length-take-le _ _ (omega (arith, c.requires.bytes, c.requires.kept_few)))

pub returns : goal.returns
returns c =
    let entry = c.unwrap_or-entry.ensures ∙ ap (λ (m : Option (List ℕ)). unwrap_or m bad_words) c.read_line.ensures ∙ stored_or _ in
    let size = ap length entry ∙ stored_length _ in
    let room : c.args.lines * 11 + 11 ≤ length c.args.words.now = omega (arith, c.requires.room, c.if-lines-ge-MOST_ENTRIES.false) in
    let done = ended_few _ _ _ _ c.requires c.if-lines-ge-MOST_ENTRIES.false _ entry (sets_copied _ (c.args.lines * 11) 11 c.copy_from_slice.ensures.after size room) in
    record { fits = done.0; kept_value = (refl, done.1) }
