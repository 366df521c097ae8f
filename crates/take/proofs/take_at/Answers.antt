-- `register::calls::take::take_at` meets its contract: another depot, the parts, a message that waits, then it is taken.
-- Assumes nothing.
use Prim.Native.Nat.{◌≤◌, ◌<◌}
use native.Mathlib.Nat.{lt_of_lt_of_le}
use native.Mathlib.Omega.{arith}
use mathlib.Core.Path.{◌≡◌, ◌∙◌, sym, ap, subst}
use mathlib.Core.Bool.{true}
use borrow.Author.Tests.{true-eqb, false-eqb}
use Rattle.loops.proofs.BoolLaws.{and_right, test_passed, test_failed}
use Rattle.book.specs.declared.parts.Counts.{Counts}
use Rattle.book.specs.Layout.{end, counts_of, seen, link_of, held, taken}
use Rattle.fit.specs.Fit.{Within}
use Rattle.named.specs.Named.{take_parts, take_fit}
use Rattle.named.proofs.NamedLaws.{Based, base_open, waiting_room}
use Rattle.paper.specs.declared.answer.Refusal.TheVariants.{SameDepot, BadBook, EmptyLink}
use Rattle.paper.specs.Answers.{number_of, paper}
use Rattle.register.specs.Calls.{take_book}
use Rattle.register.proofs.CallLaws.{by_refusal, by_done, after_refused, after_done}
use Rattle.register.proofs.SendTable.{take_self, take_parts_law, take_book_law, take_same, take_empty, take_good}
use Rattle.take.proofs.take_at.Goals as goal
use Rattle.take.proofs.take_at.Lts as lts
use Rattle.take.proofs.take_at.Tie as tie
use Rattle.take.proofs.take_at.Reads as reads

-- what is known at a place, for the lemmas below
abbrev Start : Type 0
Start = lts.Start tie.the-claims reads.Pre reads.Post

abbrev Else-eq : Type 0
Else-eq = lts.Else1 tie.the-claims reads.Pre reads.Post

abbrev After-take_parts_fit : Type 0
After-take_parts_fit = lts.After-take_parts_fit tie.the-claims reads.Pre reads.Post

abbrev Else-not-take_parts_fit : Type 0
Else-not-take_parts_fit = lts.Else2 tie.the-claims reads.Pre reads.Post

abbrev After-between-q : Type 0
After-between-q = lts.After-between tie.the-claims reads.Pre reads.Post

abbrev After-taken_of-done : Type 0
After-taken_of-done = lts.After-taken_of tie.the-claims reads.Pre reads.Post

-- what the shared checks know of the book
base : (c : Start) → Based c.args.book.now
base c = base_open _ c.requires.0

-- the two depots differ
other : (c : Else-eq) → let args = c.args in args.d.0 ≡ args.from.0 → ⊥
other c = false-eqb _ _ c.if-eq.ensures

-- what the test of the parts says
parts_said :
    (c : After-take_parts_fit) →
    let args = c.args in c.take_parts_fit.result ≡ take_parts (counts_of args.book.now)
    args.book.now args.d.0 args.s.0 args.from.0
parts_said c =
    let args = c.args in
    c.take_parts_fit.ensures ∙ ap (λ (n : Counts). take_parts n args.book.now args.d.0 args.s.0 args.from.0) c.counts_of.ensures

parts_fit_law : (c : Else-not-take_parts_fit) → let args =
    c.args in take_parts (counts_of args.book.now) args.book.now args.d.0
    args.s.0 args.from.0 ≡ true
parts_fit_law c = test_passed (parts_said c.before) c.if-not-take_parts_fit.false-raw

fits : (c : Else-not-take_parts_fit) → let args = c.args in take_fit args.book.now args.d.0 args.s.0 args.from.0 ≡ true
fits c =
    let pre = c.requires in take_parts_law _ _ _ _ pre.0 pre.1 pre.2 pre.3
    (other c.before.before.before) ∙ parts_fit_law c

small : (c : After-between-q) → c.between-q.result.0 < 64
small c =
    let w = base c.before.before.before.before.before.before.before.before.before in
    omega (arith, c.between-q.ensures, c.requires.1, c.requires.2, c.requires.3, w.within.depots, w.within.shelves)

-- the link's head
heads :
    (c : After-taken_of-done) →
    let args = c.args in
    (c.held_of-count.result ≡ held args.book.now (link_of args.s.0 args.from.0 args.d.0))
    × (c.taken_of-done.result ≡ taken args.book.now (link_of args.s.0 args.from.0 args.d.0))
heads c =
    let args = c.args in
    (c.held_of-count.ensures ∙ ap (held args.book.now) c.between-q.ensures, c.taken_of-done.ensures ∙ ap (taken args.book.now) c.between-q.ensures)

pub returns-then-eq : goal.returns-then-eq
unfolding number_of paper
returns-then-eq c =
    let pre = c.requires in
    let same = true-eqb _ _ c.if-eq.ensures in
    let e = take_same _ _ _ _ (take_self _ _ _ _ pre.0 pre.1 pre.2 pre.3 same) pre.1 pre.2 pre.3 same in
    record { answer = by_refusal SameDepot _ e; book = after_refused SameDepot _ _ e }

pub counts_of-requires : goal.counts_of-requires
counts_of-requires c = (base c.before.before.before.before.before).full

pub take_parts_fit-requires : goal.take_parts_fit-requires
take_parts_fit-requires c =
    let w = base c.before.before.before.before.before.before in (
      w.full,
      subst Within (sym c.counts_of.ensures) w.within,
      lt_of_lt_of_le c.requires.1 w.within.depots,
      lt_of_lt_of_le c.requires.3 w.within.shelves,
      lt_of_lt_of_le c.requires.2 w.within.depots,
    )

pub returns-then-not-take_parts_fit : goal.returns-then-not-take_parts_fit
unfolding number_of paper
returns-then-not-take_parts_fit c =
    let pre = c.requires in
    let e = take_book_law _ _ _ _ pre.0 pre.1 pre.2 pre.3 (other c.before.before.before) (test_failed (parts_said c.before) c.if-not-take_parts_fit.true-raw) in
    record { answer = by_refusal BadBook _ e; book = after_refused BadBook _ _ e }

pub between-q-requires : goal.between-q-requires
between-q-requires c = let w = base c.before.before.before.before.before.before.before.before in
    (lt_of_lt_of_le c.requires.3 w.within.shelves, lt_of_lt_of_le c.requires.2 w.within.depots, lt_of_lt_of_le c.requires.1 w.within.depots)

pub held_of-count-requires : goal.held_of-count-requires
held_of-count-requires c = ((base c.before.before.before.before.before.before.before.before.before).full, small c)

pub taken_of-done-requires : goal.taken_of-done-requires
taken_of-done-requires c = ((base c.before.before.before.before.before.before.before.before.before.before).full, small c.before)

pub returns-then-count-done : goal.returns-then-count-done
unfolding number_of paper
returns-then-count-done c =
    let pre = c.requires in
    let numbers = heads c.before in
    let args = c.args in
    let q = link_of args.s.0 args.from.0 args.d.0 in
    let left : held args.book.now q ≤ taken args.book.now q = omega (arith, c.if-count-done.true, numbers.0, numbers.1) in
    let e = take_empty _ _ _ _ (fits c.before.before.before.before) pre.1 pre.2 pre.3 (other c.before.before.before.before.before.before.before) left in
    record { answer = by_refusal EmptyLink _ e; book = after_refused EmptyLink _ _ e }

pub take_one-requires : goal.take_one-requires
unfolding take_parts
take_one-requires c =
    let w = base c.before.before.before.before.before.before.before.before.before.before.before.before.before in
    let pre = c.requires in
    let args = c.args in
    let numbers = heads c.before.before in (
      w.full,
      lt_of_lt_of_le pre.1 w.within.depots,
      lt_of_lt_of_le pre.3 w.within.shelves,
      lt_of_lt_of_le pre.2 w.within.depots,
      omega (arith, c.if-count-done.false, numbers.0, numbers.1),
      waiting_room (counts_of args.book.now) args.book.now args.s.0 args.from.0 _
          (and_right (lib.Dec.leb (seen args.book.now args.d.0 args.s.0 args.from.0) end) _ (parts_fit_law c.before.before.before.before.before)),
    )

pub returns : goal.returns
unfolding take_book paper
returns c =
    let args = c.args in
    let book = args.book.now in
    let pre = c.requires in
    let numbers = heads c.before.before.before.before.before.before in
    let more : taken book (link_of args.s.0 args.from.0 args.d.0) < held book (link_of args.s.0 args.from.0 args.d.0) = omega (arith, c.if-count-done.false, numbers.0, numbers.1) in
    let e = take_good _ _ _ _ (fits c.before.before.before.before.before.before.before.before.before) pre.1 pre.2 pre.3 (other c.before.before.before.before.before.before.before.before.before.before.before.before) more in
    record { answer = by_done e; book = c.take_one.ensures ∙ after_done _ _ e }
