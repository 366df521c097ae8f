-- `shelf::show::is_slot_covered` meets its contract: the two vectors as parts of the book.
-- Assumes nothing.
use Rattle.shelf.proofs.ShelfCode.{covered_lent}
use Rattle.shelf.proofs.show.is_slot_covered.Goals as goal

pub returns : goal.returns
returns c =
    let to = c.stable_at-to in
    let at = c.slot_at-at in
    let pre = c.requires in
    covered_lent _ _ _ _ _ _ pre.1 at.ensures to.ensures c.index.ensures c.is_covered.ensures
