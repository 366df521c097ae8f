-- `register::calls::tick::tick_at` meets its contract: the parts, the clock, the room, then the heartbeat goes out.
-- Assumes nothing.
use Prim.Native.Nat.{ℕ, ◌+◌, ◌≤◌, ◌<◌}
use native.Mathlib.Nat.{lt_of_lt_of_le}
use mathlib.Core.Path.{◌≡◌, ◌∙◌, refl, sym, ap, subst}
use mathlib.Core.Bool.{true}
use Rattle.loops.proofs.BoolLaws.{test_passed, test_failed}
use Rattle.book.specs.declared.parts.Counts.{Counts}
use Rattle.book.specs.Layout.{end, counts_of, clock}
use Rattle.fit.specs.Fit.{Within}
use Rattle.named.specs.Named.{tick_parts, tick_fit}
use Rattle.named.proofs.NamedLaws.{Based, base_open, tick_named}
use Rattle.links.specs.Send.{roomy, beat, sent}
use Rattle.shelf.specs.Asks.{Free}
use Rattle.paper.specs.declared.answer.Refusal.TheVariants.{BadBook, ClockAtEnd, LinkFull}
use Rattle.paper.specs.Answers.{number_of, paper}
use Rattle.register.specs.Calls.{tick_book}
use Rattle.register.proofs.CallLaws.{by_refusal, by_done, after_refused, after_done}
use Rattle.register.proofs.FitReady.{roomy_free}
use Rattle.register.proofs.SendTable.{tick_book_law, tick_end, tick_full, tick_good}
use Rattle.tick.proofs.tick_at.Goals as goal
use Rattle.tick.proofs.tick_at.Lts as lts
use Rattle.tick.proofs.tick_at.Tie as tie
use Rattle.tick.proofs.tick_at.Reads as reads

-- what is known at a place, for the lemmas below
abbrev Start : Type 0
Start = lts.Start tie.the-claims reads.Pre reads.Post

abbrev After-tick_parts_fit : Type 0
After-tick_parts_fit = lts.After-tick_parts_fit tie.the-claims reads.Pre reads.Post

abbrev Else-not-tick_parts_fit : Type 0
Else-not-tick_parts_fit = lts.Else1 tie.the-claims reads.Pre reads.Post

abbrev Else-clock-ge-END : Type 0
Else-clock-ge-END = lts.Else2 tie.the-claims reads.Pre reads.Post

abbrev After-is_roomy : Type 0
After-is_roomy = lts.After-is_roomy tie.the-claims reads.Pre reads.Post

-- what the shared checks know of the book
base : (c : Start) → Based c.args.book.now
base c = base_open _ c.requires.0

-- what the test of the parts says
parts_said :
    (c : After-tick_parts_fit) →
    let args = c.args in c.tick_parts_fit.result ≡ tick_parts (counts_of args.book.now) args.book.now args.d.0 args.s.0
parts_said c =
    let args = c.args in
    c.tick_parts_fit.ensures ∙ ap (λ (n : Counts). tick_parts n args.book.now args.d.0 args.s.0) c.counts_of-n.ensures

fits : (c : Else-not-tick_parts_fit) → let args = c.args in tick_fit args.book.now args.d.0 args.s.0 ≡ true
fits c =
    tick_named _ _ _ c.requires.0 c.requires.1 c.requires.2 ∙ test_passed (parts_said c.before) c.if-not-tick_parts_fit.false-raw

-- the clock is not at its end
early : (c : Else-clock-ge-END) → let args = c.args in clock args.book.now args.d.0 args.s.0 < end
early c = subst (λ (x : ℕ). x < end) c.clock_of-clock.ensures c.if-clock-ge-END.false

-- what the test of the room says
roomy_said :
    (c : After-is_roomy) →
    let args = c.args in c.is_roomy.result ≡ roomy
    (counts_of args.book.now).depots args.d.0 args.s.0 args.book.now
roomy_said c =
    let args = c.args in
    c.is_roomy.ensures ∙ ap (λ (n : Counts). roomy n.depots args.d.0 args.s.0 args.book.now) c.counts_of-n.ensures

pub counts_of-n-requires : goal.counts_of-n-requires
counts_of-n-requires c = (base c.before).full

pub tick_parts_fit-requires : goal.tick_parts_fit-requires
tick_parts_fit-requires c =
    let w = base c.before.before in
    (w.full, subst Within (sym c.counts_of-n.ensures) w.within, lt_of_lt_of_le c.requires.1 w.within.depots, lt_of_lt_of_le c.requires.2 w.within.shelves)

pub returns-then-not-tick_parts_fit : goal.returns-then-not-tick_parts_fit
unfolding number_of paper
returns-then-not-tick_parts_fit c =
    let e = tick_book_law _ _ _ c.requires.0 c.requires.1 c.requires.2 (test_failed (parts_said c.before) c.if-not-tick_parts_fit.true-raw) in
    record { answer = by_refusal BadBook _ e; book = after_refused BadBook _ _ e }

pub clock_of-clock-requires : goal.clock_of-clock-requires
clock_of-clock-requires c =
    let w = base c.before.before.before.before in
    (w.full, lt_of_lt_of_le c.requires.1 w.within.depots, lt_of_lt_of_le c.requires.2 w.within.shelves)

pub returns-then-clock-ge-END : goal.returns-then-clock-ge-END
unfolding number_of paper
returns-then-clock-ge-END c =
    let e = tick_end _ _ _ (fits c.before.before) c.requires.1 c.requires.2 (subst (λ (x : ℕ). end ≤ x) c.clock_of-clock.ensures c.if-clock-ge-END.true) in
    record { answer = by_refusal ClockAtEnd _ e; book = after_refused ClockAtEnd _ _ e }

pub is_roomy-requires : goal.is_roomy-requires
is_roomy-requires c =
    let w = base c.before.before.before.before.before.before in (
      w.full,
      subst (λ (n : Counts). n.depots ≤ 4) (sym c.counts_of-n.ensures) w.within.depots,
      lt_of_lt_of_le c.requires.1 w.within.depots,
      lt_of_lt_of_le c.requires.2 w.within.shelves,
    )

pub returns-then-not-is_roomy : goal.returns-then-not-is_roomy
unfolding number_of paper
returns-then-not-is_roomy c =
    let e = tick_full _ _ _ (fits c.before.before.before.before) c.requires.1 c.requires.2 (early c.before.before) (test_failed (roomy_said c.before) c.if-not-is_roomy.true-raw) in
    record { answer = by_refusal LinkFull _ e; book = after_refused LinkFull _ _ e }

pub send-requires : goal.send-requires
send-requires c =
    let counts = c.counts_of-n.ensures in
    let book = c.args.book.now in
    let w = base c.before.before.before.before.before.before.before.before.before.before in
    let room = test_passed (roomy_said c.before.before.before) c.if-not-is_roomy.false-raw in (
      w.full,
      refl,
      subst (λ (n : Counts). Free n.depots c.args.d.0 c.args.s.0 book) (sym counts)
          (roomy_free (counts_of book) book w.within _ _ c.requires.1 c.requires.2 room),
    )

pub returns : goal.returns
unfolding tick_book paper
returns c =
    let args = c.args in
    let book = args.book.now in
    let e = tick_good _ _ _ (fits c.before.before.before.before.before.before.before.before.before.before) c.requires.1 c.requires.2 (early c.before.before.before.before.before.before.before.before) (test_passed (roomy_said c.before.before.before.before.before.before.before) c.if-not-is_roomy.false-raw) in
    let t = c.clock_of-clock.ensures in
    let changed : c.send.new.book ≡ tick_book book args.d.0 args.s.0 =
    c.send.ensures
    ∙ ap (λ (n : Counts). sent n.depots args.d.0 args.s.0 (c.clock_of-clock.result + 1)
    (beat (c.clock_of-clock.result + 1)) book) c.counts_of-n.ensures
    ∙ ap (λ (x : ℕ). sent (counts_of book).depots args.d.0 args.s.0 (x + 1) (beat (x + 1)) book) t in
    record { answer = by_done e; book = changed ∙ after_done _ _ e }
