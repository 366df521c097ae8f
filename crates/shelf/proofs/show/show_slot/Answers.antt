-- `shelf::show::show_slot` meets its contract: shown where it is covered, else moved down.
-- Assumes nothing.
use Rattle.shelf.proofs.ShelfCode.{sweep_shown, sweep_moved}
use Rattle.shelf.proofs.show.show_slot.Goals as goal

pub returns-then-is_slot_covered : goal.returns-then-is_slot_covered
returns-then-is_slot_covered c = sweep_shown _ _ _ _ _ _ _ c.is_slot_covered.ensures c.if-is_slot_covered.true c.keep_slot.ensures

pub returns : goal.returns
returns c = sweep_moved _ _ _ _ _ _ _ c.is_slot_covered.ensures c.if-is_slot_covered.false c.move_slot.ensures
