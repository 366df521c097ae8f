-- `shelf::show::sweep` meets its contract. The loop's invariant: the words and the number kept are those of the turns so far.
-- Assumes nothing.
use Rattle.shelf.proofs.ShelfCode.{sweep_none, sweep_more, sweep_kept, sweep_bearing}
use borrow.Author.Rules.{rules}
use Rattle.shelf.proofs.show.sweep.Goals as goal

pub loop-i-init : goal.loop-i-init
loop-i-init c = sweep_none _ _ _ _ _

pub show_slot-kept-requires : goal.show_slot-kept-requires
show_slot-kept-requires c =
    let args = c.args in
    let loop = c.loop-i in
    let kept = sweep_kept args.n args.d.0 args.s.0 args.q.0 loop.i args.book.now loop.book loop.kept loop.invariant in
    let bearing = sweep_bearing _ _ _ _ _ _ _ _ loop.invariant c.requires.4 (search rules) (c.requires.6 _ c.loop-i-test.true) in
    (search rules, search rules, search rules, search rules, search rules, search rules, kept, bearing)

pub loop-i-preserved : goal.loop-i-preserved
loop-i-preserved c = sweep_more _ _ _ _ _ _ c.loop-i.invariant c.show_slot-kept.ensures
