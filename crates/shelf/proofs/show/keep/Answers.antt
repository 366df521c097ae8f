-- `shelf::show::keep` meets its contract: the comparison, and the copy where it is greater.
-- Assumes nothing.
use mathlib.Core.Logic.{inr}
use Rattle.shelf.proofs.ShelfCode.{compare_lent, keep_greater, keep_stays}
use borrow.Author.Rules.{rules}
use Rattle.shelf.proofs.show.keep.Goals as goal

pub copy_words-requires : goal.copy_words-requires
copy_words-requires c = (search rules, search rules, inr (search rules))

pub returns-then-is_above : goal.returns-then-is_above
returns-then-is_above c =
    let stored_at = c.stored_at-to in
    let pre = c.requires in
    keep_greater _ _ _ _ _ (compare_lent _ _ _ _ _ stored_at.ensures pre.5 c.is_above.ensures) c.if-is_above.true
    stored_at.ensures pre.5 c.copy_words.ensures

pub returns-else-is_above : goal.returns-else-is_above
returns-else-is_above c =
    let stored_at = c.stored_at-to in
    let pre = c.requires in
    keep_stays _ _ _ _ (compare_lent _ _ _ _ _ stored_at.ensures pre.5 c.is_above.ensures) c.if-is_above.false
