-- `named_show::arrival_fits` meets its contract: the link, then where its taken copies are stored.
-- Assumes nothing.
use native.Mathlib.Omega.{arith}
use mathlib.Core.Path.{◌∙◌, sym}
use borrow.Author.Rules.{rules}
use borrow.Author.Tests.{eq-eqb, le-leb}
use Rattle.std.proofs.lemmas.Grind.{common_steps}
use Rattle.loops.proofs.BoolLaws.{and_next}
use Rattle.messages.proofs.MessageLaws.{link_empty, messages_bearings}
use Rattle.named.proofs.NamedLaws.{arrival_heads, none_arrive}
use Rattle.named_show.proofs.arrival_fits.Goals as goal

pub returns-then-count-gt-LINK_ROOM : goal.returns-then-count-gt-LINK_ROOM
returns-then-count-gt-LINK_ROOM c =
    let args = c.args in
    let said = arrival_heads args.n args.book.now args.d.0 args.s.0 args.from.0 c.between-q.ensures c.held_of-count.ensures c.taken_of-taken.ensures in
    grind (arith, common_steps)

pub returns-then-count-eq0 : goal.returns-then-count-eq0
returns-then-count-eq0 c =
    let none = c.if-count-eq0.true in
    let room = c.if-count-gt-LINK_ROOM.false in
    let under = c.if-count-taken.false in
    eq-eqb _ _ none
    ∙ sym
    (arrival_heads _ _ _ _ _ c.between-q.ensures c.held_of-count.ensures c.taken_of-taken.ensures
    ∙ and_next _ (le-leb _ _ room)
    ∙ and_next _ (le-leb _ _ under)
    ∙ and_next _ (link_empty _ _ _ _ _ none under)
    ∙ none_arrive _ none under)

pub places_fit-requires : goal.places_fit-requires
places_fit-requires c =
    let w = c.requires.1 in (
      c.requires.0,
      w.depots,
      c.requires.2,
      search rules,
      omega arith,
      messages_bearings c.args.n c.args.book.now _ _ _ _ _ (sym c.messages_fit.ensures ∙ c.if-messages_fit.true),
      w.bearings,
    )

pub returns-then-messages_fit : goal.returns-then-messages_fit
returns-then-messages_fit c =
    let args = c.args in
    let said = arrival_heads args.n args.book.now args.d.0 args.s.0 args.from.0 c.between-q.ensures c.held_of-count.ensures c.taken_of-taken.ensures in
    grind (arith, common_steps)

pub returns-else-messages_fit : goal.returns-else-messages_fit
returns-else-messages_fit c =
    let args = c.args in
    let said = arrival_heads args.n args.book.now args.d.0 args.s.0 args.from.0 c.between-q.ensures c.held_of-count.ensures c.taken_of-taken.ensures in
    grind (arith, common_steps)
