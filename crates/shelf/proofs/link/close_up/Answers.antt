-- `shelf::link::close_up` meets its contract: the messages behind move down, then the free slots are cleared.
-- Assumes nothing.
use mathlib.Core.Logic.{inl}
use Rattle.shelf.proofs.ShelfCode.{close_none, close_done}
use borrow.Author.Rules.{rules}
use Rattle.shelf.proofs.link.close_up.Goals as goal

pub returns-then-gone-eq0 : goal.returns-then-gone-eq0
returns-then-gone-eq0 c =
    let room = c.requires in
    close_none _ _ _ _ c.if-gone-eq0.true (search rules)

pub copy_words-requires : goal.copy_words-requires
copy_words-requires c = (search rules, search rules, inl (search rules))

pub returns : goal.returns
returns c =
    let clear = c.clear_words in
    let copy = c.copy_words in
    let at3 = c.slot_at-3 in
    let at2 = c.slot_at-2 in
    let at1 = c.slot_at in
    close_done _ _ _ _ _ at1.ensures at2.ensures copy.ensures at3.ensures clear.ensures
