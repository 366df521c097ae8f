-- `page::list_at` meets its contract: the parts; what is offered; every home shelf settled with it; then all told, and merged.
-- Assumes nothing.
use Prim.Native.Nat.{ℕ, ◌≤◌, ◌<◌}
use native.Mathlib.Nat.{lt_of_lt_of_le}
use mathlib.Core.Path.{◌≡◌, ◌∙◌, refl, sym, ap, subst}
use mathlib.Core.Bool.{true}
use mathlib.Core.List.{List}
use lib.ListN.{length}
use Rattle.loops.proofs.BoolLaws.{test_passed, test_failed}
use Rattle.book.specs.declared.parts.Counts.{Counts}
use Rattle.book.specs.Layout.{counts_of, home, stored}
use Rattle.fit.specs.Fit.{Within}
use Rattle.named.specs.Named.{all_below, list_parts}
use Rattle.named.proofs.NamedLaws.{Based, base_open}
use Rattle.paper.specs.Calls.{Told, listed}
use Rattle.paper.specs.declared.answer.Refusal.TheVariants.{BadBook}
use Rattle.paper.specs.Answers.{number_of, paper_list}
use Rattle.register.proofs.CallLaws.{by_refusal, by_done, after_refused, after_done}
use Rattle.register.proofs.ListTable.{list_book_law, list_good, list_size_in}
use Rattle.page.proofs.PageLaws.{list_told, parts_listed, shelves_ready, page_book_law, page_told_law, page_merged}
use Rattle.page.proofs.list_at.Goals as goal
use Rattle.page.proofs.list_at.Lts as lts
use Rattle.page.proofs.list_at.Tie as tie
use Rattle.page.proofs.list_at.Reads as reads

-- what is known at a place, for the lemmas below
abbrev Start : Type 0
Start = lts.Start tie.the-claims reads.Pre reads.Post

abbrev After-list_parts_fit : Type 0
After-list_parts_fit = lts.After-list_parts_fit tie.the-claims reads.Pre reads.Post

abbrev Else-not-list_parts_fit : Type 0
Else-not-list_parts_fit = lts.Else1 tie.the-claims reads.Pre reads.Post

abbrev After-home_depot-d : Type 0
After-home_depot-d = lts.After-home_depot tie.the-claims reads.Pre reads.Post

-- what the shared checks know of the book
base : (c : Start) → Based c.args.book.now
base c = base_open _ c.requires.0

-- what the test of the parts says
parts_said :
    (c : After-list_parts_fit) →
    let args = c.args in c.list_parts_fit.result ≡ list_parts (counts_of args.book.now) args.book.now
    args.c.0 args.bearings.now
parts_said c = c.list_parts_fit.ensures ∙ parts_listed _ _ c.counts_of-n.ensures c.home_depot-d.ensures _

parts_fit_law : (c : Else-not-list_parts_fit) → let args = c.args in list_parts (counts_of args.book.now) args.book.now
    args.c.0 args.bearings.now ≡ true
parts_fit_law c = test_passed (parts_said c.before) c.if-not-list_parts_fit.false-raw

-- the numbers that were worked out
small :
    (c : After-home_depot-d) →
    let n = c.counts_of-n.result in
    (n.depots ≤ 4) × (n.shelves ≤ 4) × (n.bearings ≤ 160) × (c.home_depot-d.result.0 < 4) × (c.args.c.0 < 16) ×
    (all_below n.bearings c.args.bearings.now ≡ true)
small c =
    let w = base c.before.before.before.before in
    let n = sym c.counts_of-n.ensures in
    let v = subst Within n w.within in (
      v.depots,
      v.shelves,
      v.bearings,
      subst (λ (x : ℕ). x < 4) (sym c.home_depot-d.ensures) (lt_of_lt_of_le (w.homes _ c.requires.1) w.within.depots),
      lt_of_lt_of_le c.requires.1 w.within.crews,
      subst (λ (m : Counts). all_below m.bearings c.args.bearings.now ≡ true) n c.requires.3,
    )

pub counts_of-n-requires : goal.counts_of-n-requires
counts_of-n-requires c = (base c.before.before.before).full

pub home_depot-d-requires : goal.home_depot-d-requires
home_depot-d-requires c =
    let w = base c.before.before.before.before in (
      w.full,
      lt_of_lt_of_le c.requires.1 w.within.crews,
      subst (λ (n : Counts). home c.args.book.now c.args.c.0 < n.depots) (sym c.counts_of-n.ensures) (w.homes _ c.requires.1),
    )

pub list_parts_fit-requires : goal.list_parts_fit-requires
list_parts_fit-requires c =
    let w = base c.before.before.before.before.before in
    let h = small c.before in
    (w.full, subst Within (sym c.counts_of-n.ensures) w.within, h.4, h.3, h.5)

pub returns-then-not-list_parts_fit : goal.returns-then-not-list_parts_fit
unfolding number_of paper_list
returns-then-not-list_parts_fit c =
    let e = list_book_law _ _ _ c.requires.0 c.requires.1 c.requires.2 c.requires.3 (test_failed (parts_said c.before.before) c.if-not-list_parts_fit.true-raw) in
    record { answer = by_refusal BadBook _ e; holds = tt; book = after_refused BadBook _ _ e }

pub crew_vector-offered-requires : goal.crew_vector-offered-requires
crew_vector-offered-requires c = ((base c.before.before.before.before.before.before.before).full, (small c.before.before.before).4)

pub gather-requires : goal.gather-requires
gather-requires c = let h = small c.before.before.before.before.before in (
  (base c.before.before.before.before.before.before.before.before.before).full,
  h.0,
  h.1,
  h.3,
  ap (λ (v : List ℕ). length v)
      c.crew_vector-offered.ensures,
)

pub settle_all-requires : goal.settle_all-requires
settle_all-requires c =
    let w = base c.before.before.before.before.before.before.before.before.before.before.before.before.before in (
      w.full,
      c.gather.auto.vector ∙ ap (λ (v : List ℕ). length v) c.crew_vector-offered.ensures,
      shelves_ready _ _ c.counts_of-n.ensures
          c.home_depot-d.ensures c.args.bearings.now w c.requires.1
          (parts_fit_law c.before.before.before.before.before.before.before),
    )

pub tell_all-requires : goal.tell_all-requires
tell_all-requires c =
    let h = small c.before.before.before.before.before.before.before.before.before.before.before.before.before in
    (c.settle_all.auto.book ∙ (base c.before.before.before.before.before.before.before.before.before.before.before.before.before.before.before.before.before).full, h.0, h.2, h.3, c.requires.2, h.5, refl)

pub merge_all-requires : goal.merge_all-requires
merge_all-requires c =
    let h = small c.before.before.before.before.before.before.before.before.before.before.before.before.before.before.before.before in
    (c.settle_all.auto.book ∙ (base c.before.before.before.before.before.before.before.before.before.before.before.before.before.before.before.before.before.before.before.before).full, h.0, h.2, h.4, h.3, h.5)

pub returns : goal.returns
returns c =
    let book = c.args.book.now in
    let ks = c.args.bearings.now in
    let counts = c.counts_of-n.ensures in
    let depot = c.home_depot-d.ensures in
    let done = list_good book c.args.c.0 ks c.requires.0 c.requires.1 c.requires.2 c.requires.3
    (parts_fit_law c.before.before.before.before.before.before.before.before.before.before.before.before.before.before.before.before.before) in
    let paged = page_book_law book c.args.c.0 counts depot c.crew_vector-offered.ensures c.gather.ensures c.settle_all.ensures in
    let size = list_size_in ks c.requires.2 in
    let told = list_told c.counts_of-n.result.depots (λ k. stored c.settle_all.new.book c.home_depot-d.result.0 k) ks (small c.before.before.before.before.before.before.before.before.before.before.before.before.before.before.before.before.before.before.before).0 size.0 size.1 c.tell_all.ensures in
    record {
      answer = told.0 ∙ ap (λ (ts : List Told). listed ts) (page_told_law book c.args.c.0 counts depot ks paged) ∙ by_done done;
      holds = told.1;
      book = page_merged book c.args.c.0 counts depot ks paged c.merge_all.ensures ∙ after_done _ _ done;
    }
