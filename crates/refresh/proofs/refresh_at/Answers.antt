-- `register::calls::refresh::refresh_at` meets its contract: the parts, then raise and show with the lowest stamps seen.
-- Assumes nothing.
use Prim.Native.Nat.{◌≤◌}
use native.Mathlib.Nat.{lt_of_lt_of_le}
use mathlib.Core.Path.{◌≡◌, ◌∙◌, sym, ap, subst}
use mathlib.Core.Bool.{true}
use lib.ListN.{length}
use Rattle.loops.specs.Loops.{every}
use Rattle.order.specs.Vector.{vector_in}
use Rattle.loops.proofs.BoolLaws.{and_right, test_passed, test_failed}
use Rattle.book.specs.declared.parts.Counts.{Counts}
use Rattle.book.specs.Layout.{counts_of}
use Rattle.fit.specs.Fit.{Within, seen_fit}
use Rattle.named.specs.Named.{refresh_parts}
use Rattle.named.proofs.NamedLaws.{Based, base_open}
use Rattle.shelf.specs.Asks.{Ready}
use Rattle.shelf.specs.Show.{settled}
use Rattle.links.specs.Send.{lowest_seen, four_of}
use Rattle.paper.specs.declared.answer.Refusal.TheVariants.{BadBook}
use Rattle.paper.specs.Answers.{number_of, paper}
use Rattle.register.specs.Calls.{refresh_book}
use Rattle.register.proofs.CallLaws.{by_refusal, by_done, after_refused, after_done}
use Rattle.register.proofs.FitReady.{show_ready}
use Rattle.register.proofs.HomeLaws.{settled_four}
use Rattle.register.proofs.SendTable.{refresh_book_law, refresh_good}
use Rattle.refresh.proofs.refresh_at.Goals as goal
use Rattle.refresh.proofs.refresh_at.Lts as lts
use Rattle.refresh.proofs.refresh_at.Tie as tie
use Rattle.refresh.proofs.refresh_at.Reads as reads

-- what is known at a place, for the lemmas below
abbrev Start : Type 0
Start = lts.Start tie.the-claims reads.Pre reads.Post

abbrev After-refresh_parts_fit : Type 0
After-refresh_parts_fit = lts.After-refresh_parts_fit tie.the-claims reads.Pre reads.Post

abbrev Else-not-refresh_parts_fit : Type 0
Else-not-refresh_parts_fit = lts.Else1 tie.the-claims reads.Pre reads.Post

-- what the shared checks know of the book
base : (c : Start) → Based c.args.book.now
base c = base_open _ c.requires.0

-- what the test of the parts says
parts_said :
    (c : After-refresh_parts_fit) →
    let args = c.args in c.refresh_parts_fit.result ≡ refresh_parts (counts_of args.book.now) args.book.now args.d.0 args.s.0
parts_said c =
    let args = c.args in
    c.refresh_parts_fit.ensures ∙ ap (λ (n : Counts). refresh_parts n args.book.now args.d.0 args.s.0) c.counts_of-n.ensures

parts_fit_law : (c : Else-not-refresh_parts_fit) → let args = c.args in refresh_parts (counts_of args.book.now) args.book.now args.d.0 args.s.0 ≡ true
parts_fit_law c = test_passed (parts_said c.before) c.if-not-refresh_parts_fit.false-raw

pub counts_of-n-requires : goal.counts_of-n-requires
counts_of-n-requires c = (base c.before).full

pub refresh_parts_fit-requires : goal.refresh_parts_fit-requires
refresh_parts_fit-requires c =
    let w = base c.before.before in
    (w.full, subst Within (sym c.counts_of-n.ensures) w.within, lt_of_lt_of_le c.requires.1 w.within.depots, lt_of_lt_of_le c.requires.2 w.within.shelves)

pub returns-then-not-refresh_parts_fit : goal.returns-then-not-refresh_parts_fit
unfolding number_of paper
returns-then-not-refresh_parts_fit c =
    let e = refresh_book_law _ _ _ c.requires.0 c.requires.1 c.requires.2 (test_failed (parts_said c.before) c.if-not-refresh_parts_fit.true-raw) in
    record { answer = by_refusal BadBook _ e; book = after_refused BadBook _ _ e }

pub lowest_seen-offered-requires : goal.lowest_seen-offered-requires
lowest_seen-offered-requires c =
    let w = base c.before.before.before.before in
    let same = sym c.counts_of-n.ensures in
    (w.full, subst (λ (n : Counts). n.depots ≤ 4) same w.within.depots, subst (λ (n : Counts). n.shelves ≤ 4) same w.within.shelves, lt_of_lt_of_le c.requires.1 w.within.depots)

pub settle-requires : goal.settle-requires
unfolding refresh_parts
settle-requires c =
    let book = c.args.book.now in
    let w = base c.before.before.before.before.before.before.before in
    let same = sym c.counts_of-n.ensures in (
      w.full,
      ap length c.lowest_seen-offered.ensures,
      subst (λ (n : Counts). Ready n.depots c.args.d.0 c.args.s.0 book) same
          (show_ready (counts_of book) book w.within _ _ c.requires.1 c.requires.2
          (and_right (every (counts_of book).shelves (seen_fit (counts_of book) book c.args.d.0)) _ (parts_fit_law c.before.before.before))),
    )

pub returns : goal.returns
unfolding refresh_book paper
returns c =
    let low = c.lowest_seen-offered in
    let counts = c.counts_of-n.ensures in
    let args = c.args in
    let book = args.book.now in
    let e = refresh_good _ _ _ c.requires.0 c.requires.1 c.requires.2 (parts_fit_law c.before.before.before.before.before.before.before) in
    record {
      answer = by_done e;
      book = c.settle.ensures
          ∙ ap (λ (n : Counts). settled n.depots args.d.0 args.s.0 (vector_in low.result) book) counts
          ∙ settled_four (counts_of book).depots args.d.0 args.s.0 (lowest_seen (counts_of book).depots (counts_of book).shelves args.d.0 book) book (base c.before.before.before.before.before.before.before.before.before.before.before).within.depots
          (low.ensures ∙ ap (λ (n : Counts). four_of (lowest_seen n.depots n.shelves args.d.0 book)) counts)
          ∙ after_done _ _ e;
    }
