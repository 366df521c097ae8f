-- `frame_writer::write_at` meets its contract: another depot, the link, a message that waits, the count, the room, and then the frame.
-- Assumes nothing.
use Prim.Native.Nat.{ℕ, ◌+◌, ◌-◌, ◌≤◌, ◌<◌}
use native.Mathlib.Nat.{lt_of_lt_of_le}
use native.Mathlib.Omega.{arith}
use mathlib.Core.Path.{◌≡◌, ◌∙◌, sym, ap, ap₂, subst}
use mathlib.Core.Bool.{true, false}
use borrow.Author.Tests.{not-false, true-eqb, false-eqb}
use Rattle.loops.proofs.BoolLaws.{test_passed, test_failed, not_passed}
use Rattle.book.specs.Words.{put}
use Rattle.book.specs.declared.parts.Counts.{Counts}
use Rattle.book.specs.Layout.{counts_of, link_of, held, taken}
use Rattle.fit.specs.Fit.{Within}
use Rattle.named.specs.Named.{waiting_fit}
use Rattle.named.proofs.NamedLaws.{base_open, waiting_room}
use Rattle.paper.specs.Answers.{number_of}
use Rattle.paper.specs.declared.answer.Refusal.TheVariants.{SameDepot, BadBook, EmptyLink}
use Rattle.frame.specs.declared.FrameRefusal.TheVariants.{Link, NoRoom, BadCount}
use Rattle.frame.specs.Frame.{frame_size}
use Rattle.frame.specs.Promises.{frame_number, Ready, route_in, untaken, bad_count}
use Rattle.frame.proofs.PromiseLaws.{refused_as, done_as, route_ready, writer_same, writer_book, writer_empty, writer_count, writer_room, writer_good}
use Rattle.frame_writer.proofs.WriterLaws.{size_same, frame_same, count_fits}
use Rattle.frame_writer.proofs.write_at.Goals as goal
use Rattle.frame_writer.proofs.write_at.Lts as lts
use Rattle.frame_writer.proofs.write_at.Tie as tie
use Rattle.frame_writer.proofs.write_at.Reads as reads

-- what is known at a place, for the lemmas below
abbrev After-between-q : Type 0
After-between-q = lts.After-between tie.the-claims reads.Pre reads.Post

abbrev After-waiting_fits : Type 0
After-waiting_fits = lts.After-waiting_fits tie.the-claims reads.Pre reads.Post

abbrev Else-not-waiting_fits : Type 0
Else-not-waiting_fits = lts.Else2 tie.the-claims reads.Pre reads.Post

abbrev After-taken_of-taken : Type 0
After-taken_of-taken = lts.After-taken_of tie.the-claims reads.Pre reads.Post

abbrev Else-messages-taken : Type 0
Else-messages-taken = lts.Else3 tie.the-claims reads.Pre reads.Post

abbrev After-is_count : Type 0
After-is_count = lts.After-is_count tie.the-claims reads.Pre reads.Post

abbrev Else-not-is_count : Type 0
Else-not-is_count = lts.Else4 tie.the-claims reads.Pre reads.Post

abbrev After-size_of_frame-size : Type 0
After-size_of_frame-size = lts.After-size_of_frame tie.the-claims reads.Pre reads.Post

small : (c : After-between-q) → c.between-q.result.0 < 64
small c =
    let w = base_open _ c.requires.0 in
    omega (arith, c.between-q.ensures, c.requires.1, c.requires.2, c.requires.3, w.within.depots, w.within.shelves)

link_said : (c : After-waiting_fits) → let args = c.args in c.waiting_fits.result
    ≡ waiting_fit (counts_of args.book.now) args.book.now args.s.0 args.from.0 (link_of args.s.0 args.from.0 args.d.0)
link_said c =
    let args = c.args in
    c.waiting_fits.ensures ∙ ap₂ (λ (n : Counts) (q : ℕ). waiting_fit n args.book.now args.s.0 args.from.0 q) c.counts_of-n.ensures c.between-q.ensures

fits : (c : Else-not-waiting_fits) → let args = c.args in waiting_fit (counts_of args.book.now)
    args.book.now args.s.0 args.from.0 (link_of args.s.0 args.from.0 args.d.0) ≡ true
fits c = test_passed (link_said c.before) c.if-not-waiting_fits.false-raw

-- the link's head
heads :
    (c : After-taken_of-taken) →
    let args = c.args in
    (c.held_of-messages.result ≡ held args.book.now (link_of args.s.0 args.from.0 args.d.0))
    × (c.taken_of-taken.result ≡ taken args.book.now (link_of args.s.0 args.from.0 args.d.0))
heads c =
    let args = c.args in (
      c.held_of-messages.ensures ∙ ap (held args.book.now) c.between-q.ensures,
      c.taken_of-taken.ensures ∙ ap
          (taken args.book.now) c.between-q.ensures,
    )

more : (c : Else-messages-taken) → let args = c.args in taken
    args.book.now (link_of args.s.0 args.from.0 args.d.0) < held args.book.now (link_of args.s.0 args.from.0 args.d.0)
more c = let h = heads c.before in omega (arith, c.if-messages-taken.false, h.0, h.1)

-- the test of the count
count_said :
    (c : After-is_count) →
    let args = c.args in
    c.is_count.result ≡ mathlib.Core.Bool.not (bad_count args.count
    (held args.book.now (link_of args.s.0 args.from.0 args.d.0) - taken args.book.now (link_of args.s.0 args.from.0 args.d.0)))
count_said c =
    let h = heads c.before.before.before in
    c.is_count.ensures ∙ ap mathlib.Core.Bool.not (ap₂ bad_count c.wide-some.ensures (ap₂ (λ (a b : ℕ). a - b) h.0 h.1))

good_count :
    (c : Else-not-is_count) →
    let args = c.args in
    bad_count args.count (held args.book.now (link_of args.s.0 args.from.0 args.d.0) - taken args.book.now (link_of args.s.0 args.from.0 args.d.0)) ≡ false
good_count c = not_passed (test_passed (count_said c.before) c.if-not-is_count.false-raw)

-- the messages that go are in their slots
within : (c : Else-not-is_count) → c.taken_of-taken.result + c.wide-some.result ≤ 16
within c =
    let args = c.args in
    let h = heads c.before.before.before.before in
    let w = waiting_room (counts_of args.book.now) args.book.now args.s.0 args.from.0 _ (fits c.before.before.before.before.before.before) in
    omega (arith, h.0, h.1, w, more c.before.before.before, c.wide-some.ensures, count_fits _ _ (good_count c))

size_said :
    (c : After-size_of_frame-size) →
    let args = c.args in
    c.size_of_frame-size.result ≡ frame_size (route_in args.book.now args.d.0 args.s.0 args.from.0) args.count (untaken args.book.now args.d.0 args.s.0 args.from.0)
unfolding frame_size
size_said c =
    let args = c.args in
    c.size_of_frame-size.ensures ∙ size_same args.book.now (ap (λ (n : Counts). n.depots)
    c.counts_of-n.ensures)
    c.between-q.ensures (heads c.before.before.before.before.before).1 c.wide-some.ensures

pub returns-then-eq : goal.returns-then-eq
unfolding frame_number number_of
returns-then-eq c =
    let pre = c.requires in
    refused_as (Link SameDepot) _ _ _ (writer_same _ _ _ _ _ _ pre.0 pre.1 pre.2 pre.3 (true-eqb _ _ c.if-eq.ensures))

pub counts_of-n-requires : goal.counts_of-n-requires
counts_of-n-requires c = (base_open _ c.requires.0).full

pub between-q-requires : goal.between-q-requires
between-q-requires c =
    let w = base_open _ c.requires.0 in
    (lt_of_lt_of_le c.requires.3 w.within.shelves, lt_of_lt_of_le c.requires.2 w.within.depots, lt_of_lt_of_le c.requires.1 w.within.depots)

pub waiting_fits-requires : goal.waiting_fits-requires
waiting_fits-requires c =
    let w = base_open _ c.requires.0 in
    let n : Within c.counts_of-n.result = subst Within (sym c.counts_of-n.ensures) w.within in
    (w.full, n.depots, n.shelf, small c.before)

pub returns-then-not-waiting_fits : goal.returns-then-not-waiting_fits
unfolding frame_number number_of
returns-then-not-waiting_fits c =
    let pre = c.requires in
    refused_as (Link BadBook) _ _ _ (writer_book _ _ _ _ _ _ pre.0 pre.1 pre.2 pre.3 (false-eqb _ _ c.if-eq.ensures) (test_failed (link_said c.before.before) c.if-not-waiting_fits.true-raw))

pub held_of-messages-requires : goal.held_of-messages-requires
held_of-messages-requires c = ((base_open _ c.requires.0).full, small c.before.before.before)

pub taken_of-taken-requires : goal.taken_of-taken-requires
taken_of-taken-requires c = ((base_open _ c.requires.0).full, small c.before.before.before.before)

pub returns-then-messages-taken : goal.returns-then-messages-taken
unfolding frame_number number_of
returns-then-messages-taken c =
    let pre = c.requires in
    let h = heads c.before.before in
    refused_as (Link EmptyLink) _ _ _
    (writer_empty _ _ _ _ _ _ pre.0 pre.1 pre.2 pre.3 (false-eqb _ _ c.if-eq.ensures)
    (fits c.before.before.before.before) (omega (arith, c.if-messages-taken.true, h.0, h.1)))

pub returns-then-not-is_count : goal.returns-then-not-is_count
unfolding frame_number
returns-then-not-is_count c =
    let pre = c.requires in
    refused_as BadCount _ _ _
    (writer_count _ _ _ _ _ _ pre.0 pre.1 pre.2 pre.3 (false-eqb _ _ c.if-eq.ensures)
    (fits c.before.before.before.before.before.before.before) (more c.before.before.before.before) (not-false _ (test_failed (count_said c.before.before) c.if-not-is_count.true-raw)))

pub size_of_frame-size-requires : goal.size_of_frame-size-requires
size_of_frame-size-requires c =
    let w = base_open _ c.requires.0 in
    let n : Within c.counts_of-n.result = subst Within
    (sym c.counts_of-n.ensures) w.within in
    (w.full, small c.before.before.before.before.before.before.before.before.before, within c.before, n.depots)

pub returns-then-out-size : goal.returns-then-out-size
unfolding frame_number
returns-then-out-size c =
    let pre = c.requires in
    refused_as NoRoom _ _ _
    (writer_room _ _ _ _ _ _ pre.0 pre.1 pre.2 pre.3 (false-eqb _ _ c.if-eq.ensures)
    (fits c.before.before.before.before.before.before.before.before.before) (more c.before.before.before.before.before.before) (good_count c.before.before.before)
    (omega (arith, c.if-out-size.true, size_said c.before.before)))

pub invariant_of-put_frame : goal.invariant_of-put_frame
invariant_of-put_frame c =
    let args = c.args in
    let pre = c.requires in
    record {
      ready = subst (λ (n : Counts). Ready (record { counts = n; shelf = args.s; from = args.from; to = args.d })) (sym c.counts_of-n.ensures)
          (route_ready _ _ _ _ pre.0 pre.1 pre.2 pre.3);
    }

pub put_frame-requires : goal.put_frame-requires
put_frame-requires c = (
  (base_open _ c.requires.0).full,
  small c.before.before.before.before.before.before.before.before.before.before.before.before.before,
  within c.before.before.before.before.before,
  omega (arith, c.if-out-size.false, c.size_of_frame-size.ensures),
)

pub returns : goal.returns
returns c =
    let args = c.args in
    let pre = c.requires in
    done_as
    (writer_good _ _ _ _ _ _ pre.0 pre.1 pre.2 pre.3 (false-eqb _ _ c.if-eq.ensures)
    (fits c.before.before.before.before.before.before.before.before.before.before.before.before.before.before)
    (more c.before.before.before.before.before.before.before.before.before.before.before) (good_count c.before.before.before.before.before.before.before.before)
    (omega (arith, c.if-out-size.false, size_said c.before.before.before.before.before.before.before)))
    (size_said c.before.before.before.before.before.before.before)
    (c.put_frame.ensures
    ∙ ap (put args.out.now 0) (frame_same args.book.now args.s.0 args.from.0 args.d.0 args.serial
    c.counts_of-n.ensures
    c.between-q.ensures
    (heads c.before.before.before.before.before.before.before.before.before.before.before.before).1 c.wide-some.ensures))
