-- `shelf::show::move_slot` meets its contract: ten words copied, or nothing to do.
-- Assumes nothing.
use mathlib.Core.Logic.{inl}
use mathlib.Core.Path.{◌∙◌, sym, ap, ap₂}
use Prim.Native.Nat.{ℕ, ◌+◌, ◌≤◌}
use Rattle.book.specs.Words.{part, put}
use Rattle.book.specs.Layout.{slot_at, slot}
use Rattle.book.proofs.WordsLaws.{put_itself}
use borrow.Author.Rules.{rules}
use Rattle.shelf.proofs.show.move_slot.Goals as goal

pub returns-then-to-i : goal.returns-then-to-i
returns-then-to-i c =
    let args = c.args in
    let room : slot_at args.q.0 args.i + 10 ≤ lib.ListN.length args.book.now = search rules in
    sym (ap (λ (x : ℕ). put args.book.now (slot_at args.q.0 x) (slot args.book.now args.q.0 args.i)) c.if-to-i.true ∙ put_itself _ _ _ room)

pub copy_words-requires : goal.copy_words-requires
copy_words-requires c = (search rules, search rules, inl (search rules))

pub returns : goal.returns
returns c =
    let book = c.args.book.now in
    c.copy_words.ensures
    ∙ ap₂ (λ (x y : ℕ). put book x (part book y 10)) c.slot_at-2.ensures c.slot_at.ensures
