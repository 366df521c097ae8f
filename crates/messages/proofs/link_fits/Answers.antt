-- `messages::link_fits` meets its contract: the head's two tests, then the messages.
-- Assumes nothing.
use native.Mathlib.Omega.{arith}
use Rattle.std.proofs.lemmas.Grind.{common_steps}
use Rattle.messages.proofs.MessageLaws.{link_heads, link_empty}
use Rattle.messages.proofs.link_fits.Goals as goal

pub returns-then-count-gt-LINK_ROOM : goal.returns-then-count-gt-LINK_ROOM
returns-then-count-gt-LINK_ROOM c =
    let args = c.args in
    let said = link_heads args.n args.book.now args.s.0 args.from.0 args.q.0 c.held_of-count.ensures c.taken_of-taken.ensures in
    grind (arith, common_steps)

pub returns-then-count-eq0 : goal.returns-then-count-eq0
returns-then-count-eq0 c =
    let args = c.args in
    let said = link_heads args.n args.book.now args.s.0 args.from.0 args.q.0 c.held_of-count.ensures c.taken_of-taken.ensures in
    let none = link_empty args.n args.book.now args.s.0 args.from.0 args.q.0 {t = c.taken_of-taken.result} c.if-count-eq0.true (omega arith) in
    grind (arith, common_steps)

pub returns-else-count-eq0 : goal.returns-else-count-eq0
returns-else-count-eq0 c =
    let args = c.args in
    let said = link_heads args.n args.book.now args.s.0 args.from.0 args.q.0 c.held_of-count.ensures c.taken_of-taken.ensures in
    grind (arith, common_steps)
