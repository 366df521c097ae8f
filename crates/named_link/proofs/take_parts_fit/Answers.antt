-- `named_link::take_parts_fit` meets its contract: the stamp seen, the head of the link, then its untaken messages.
-- Assumes nothing.
use mathlib.Core.Path.{◌≡◌, ◌∙◌, sym}
use borrow.Author.Tests.{le-leb, lt-leb}
use Rattle.loops.proofs.BoolLaws.{and_next, and_stop}
use Rattle.book.specs.Layout.{link_of}
use Rattle.named.specs.Named.{waiting_fit, take_parts}
use Rattle.named.proofs.NamedLaws.{take_heads}
use Rattle.named_link.proofs.take_parts_fit.Goals as goal
use Rattle.named_link.proofs.take_parts_fit.Lts as lts
use Rattle.named_link.proofs.take_parts_fit.Tie as tie
use Rattle.named_link.proofs.take_parts_fit.Reads as reads

-- what is known at a place, for the lemmas below
abbrev Else-book-seen_at-gt-END : Type 0
Else-book-seen_at-gt-END = lts.Else1 tie.the-claims reads.Pre reads.Post

pub returns-then-book-seen_at-gt-END : goal.returns-then-book-seen_at-gt-END
unfolding take_parts
returns-then-book-seen_at-gt-END c = sym (and_stop _ (lt-leb _ _ (rw (c.seen_at.ensures, c.index.ensures) at c.if-book-seen_at-gt-END.true)))

-- past the stamp, the link
past :
    (c : Else-book-seen_at-gt-END) → let args = c.args in
    take_parts args.n args.book.now args.d.0 args.s.0 args.from.0
    ≡ waiting_fit args.n args.book.now args.s.0 args.from.0 (link_of args.s.0 args.from.0 args.d.0)
unfolding take_parts
past c = and_next _ (le-leb _ _ (rw (c.seen_at.ensures, c.index.ensures) at c.if-book-seen_at-gt-END.false))

pub returns-then-count-gt-LINK_ROOM : goal.returns-then-count-gt-LINK_ROOM
returns-then-count-gt-LINK_ROOM c =
    sym
    (past c.before.before.before.before.before
    ∙ take_heads _ _ _ _ _ c.between-q.ensures c.held_of-count.ensures c.taken_of-taken.ensures
    ∙ and_stop _ (lt-leb _ _ c.if-count-gt-LINK_ROOM.true))

pub returns-then-count-taken : goal.returns-then-count-taken
returns-then-count-taken c =
    sym
    (past c.before.before.before.before.before.before
    ∙ take_heads _ _ _ _ _ c.between-q.ensures c.held_of-count.ensures c.taken_of-taken.ensures
    ∙ and_next _ (le-leb _ _ c.if-count-gt-LINK_ROOM.false)
    ∙ and_stop _ (lt-leb _ _ c.if-count-taken.true))

pub returns : goal.returns
returns c =
    c.waiting_fit.ensures
    ∙ sym
    (past c.before.before.before.before.before.before.before
    ∙ take_heads _ _ _ _ _ c.between-q.ensures c.held_of-count.ensures c.taken_of-taken.ensures
    ∙ and_next _ (le-leb _ _ c.if-count-gt-LINK_ROOM.false)
    ∙ and_next _ (le-leb _ _ c.if-count-taken.false))
