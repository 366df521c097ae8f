-- `register::calls::read::read_at` meets its contract: the parts, then the home shelf is settled, the record told, the crew's vector merged.
-- Assumes nothing.
use Prim.Native.Nat.{ℕ, ◌+◌, ◌%◌, ◌≤◌, ◌<◌}
use native.Mathlib.Nat.{lt_of_lt_of_le}
use native.Mathlib.Omega.{arith}
use mathlib.Core.Path.{◌≡◌, ◌∙◌, refl, sym, ap, subst}
use mathlib.Core.Bool.{true}
use mathlib.Core.List.{List}
use lib.ListN.{length}
use Rattle.book.specs.declared.parts.Counts.{Counts}
use Rattle.book.specs.Layout.{counts_of, home}
use Rattle.book.proofs.WordsLaws.{part_from, length_part}
use Rattle.order.specs.Record.{vector_of}
use Rattle.loops.proofs.BoolLaws.{test_passed, test_failed}
use Rattle.fit.specs.Fit.{Within}
use Rattle.named.specs.Named.{read_parts}
use Rattle.named.proofs.NamedLaws.{Based, base_open}
use Rattle.paper.specs.Calls.{reads}
use Rattle.paper.specs.declared.answer.Refusal.TheVariants.{BadBook}
use Rattle.paper.specs.Answers.{number_of, paper_read}
use Rattle.register.specs.Answers.{cut, told}
use Rattle.register.proofs.CallLaws.{by_refusal, by_done, after_refused, after_done}
use Rattle.register.proofs.FitReady.{shelf_in}
use Rattle.register.proofs.SendTable.{read_book_law, read_good}
use Rattle.register.proofs.HomeLaws.{home_done, home_ready, parts_home, told_holds, record_read, told_done, merged_done}
use Rattle.read.proofs.read_at.Goals as goal
use Rattle.read.proofs.read_at.Lts as lts
use Rattle.read.proofs.read_at.Tie as tie
use Rattle.read.proofs.read_at.Reads as reads

-- what is known at a place, for the lemmas below
abbrev Start : Type 0
Start = lts.Start tie.the-claims reads.Pre reads.Post tie.handed_clauses

abbrev After-shelf_for-s : Type 0
After-shelf_for-s = lts.After-shelf_for tie.the-claims reads.Pre reads.Post tie.handed_clauses

abbrev After-read_parts_fit : Type 0
After-read_parts_fit = lts.After-read_parts_fit tie.the-claims reads.Pre reads.Post tie.handed_clauses

abbrev Else-not-read_parts_fit : Type 0
Else-not-read_parts_fit = lts.Else1 tie.the-claims reads.Pre reads.Post tie.handed_clauses

abbrev After-settle_home : Type 0
After-settle_home = lts.After-settle_home tie.the-claims reads.Pre reads.Post tie.handed_clauses

-- what the shared checks know of the book
base : (c : Start) → Based c.args.book.now
base c = base_open _ c.requires.0

-- the numbers that name the parts
small :
    (c : After-shelf_for-s) →
    (c.home_depot-d.result.0 < 4) × (c.shelf_for-s.result.0 < 4) × (c.args.k.0 < 160) × (c.args.c.0 < 16) × (c.counts_of-n.result.depots ≤ 4)
small c =
    let w = base c.before.before.before.before in
    let n = c.counts_of-n.ensures in (
      subst (λ (x : ℕ). x < 4) (sym c.home_depot-d.ensures) (lt_of_lt_of_le (w.homes _ c.requires.1) w.within.depots),
      subst (λ (x : ℕ). x < 4) (sym c.shelf_for-s.ensures)
          (subst (λ (m : Counts). c.args.k.0 % m.shelves < 4) (sym n)
          (lt_of_lt_of_le (shelf_in (counts_of c.args.book.now) w.within c.args.k.0) w.within.shelves)),
      lt_of_lt_of_le c.requires.2 w.within.bearings,
      lt_of_lt_of_le c.requires.1 w.within.crews,
      subst (λ (m : Counts). m.depots ≤ 4) (sym n) w.within.depots,
    )

-- what the test of the parts says
parts_said :
    (c : After-read_parts_fit) →
    let args = c.args in c.read_parts_fit.result ≡ read_parts (counts_of args.book.now)
    args.book.now args.c.0 args.k.0
parts_said c =
    c.read_parts_fit.ensures ∙ parts_home _ _ _ c.counts_of-n.ensures
    c.home_depot-d.ensures c.shelf_for-s.ensures

parts_fit_law : (c : Else-not-read_parts_fit) → let args =
    c.args in read_parts (counts_of args.book.now) args.book.now args.c.0
    args.k.0 ≡ true
parts_fit_law c = test_passed (parts_said c.before) c.if-not-read_parts_fit.false-raw

-- after settling: the book's length
settled_full : (c : After-settle_home) → length c.settle_home.new.book ≡ 16384
settled_full c = c.settle_home.auto.book ∙ (base c.before.before.before.before.before.before.before.before).full

pub counts_of-n-requires : goal.counts_of-n-requires
counts_of-n-requires c = (base c.before).full

pub home_depot-d-requires : goal.home_depot-d-requires
home_depot-d-requires c =
    let w = base c.before.before in (
      w.full,
      lt_of_lt_of_le c.requires.1 w.within.crews,
      subst (λ (n : Counts). home c.args.book.now c.args.c.0 < n.depots) (sym c.counts_of-n.ensures) (w.homes _ c.requires.1),
    )

pub shelf_for-s-requires : goal.shelf_for-s-requires
shelf_for-s-requires c = subst (λ (n : Counts). 0 < n.shelves) (sym c.counts_of-n.ensures) (base c.before.before.before).within.shelf

pub read_parts_fit-requires : goal.read_parts_fit-requires
read_parts_fit-requires c =
    let w = base c.before.before.before.before in
    let h = small c in
    (w.full, subst Within (sym c.counts_of-n.ensures) w.within, h.3, h.2, h.0, h.1)

pub returns-then-not-read_parts_fit : goal.returns-then-not-read_parts_fit
unfolding number_of paper_read
returns-then-not-read_parts_fit c =
    let e = read_book_law _ _ _ c.requires.0 c.requires.1 c.requires.2 (test_failed (parts_said c.before) c.if-not-read_parts_fit.true-raw) in
    record { answer = by_refusal BadBook _ e; holds = tt; book = after_refused BadBook _ _ e }

pub settle_home-requires : goal.settle_home-requires
settle_home-requires c =
    let w = base c.before.before.before.before.before.before.before in (
      w.full,
      lt_of_lt_of_le c.requires.1 w.within.crews,
      home_ready _ _ _ c.counts_of-n.ensures
          c.home_depot-d.ensures c.shelf_for-s.ensures w c.requires.1
          (parts_fit_law c.before),
    )

pub stored_at-at-requires : goal.stored_at-at-requires
stored_at-at-requires c = let h = small c.before.before.before.before.before.before.before in (h.0, h.2)

pub overflow_add-end : goal.overflow_add-end
overflow_add-end c = let h = small c.before.before.before.before.before.before.before in let e = c.stored_at-at.ensures in omega (arith, h.0, h.2, e)

pub offset_bounds-book-at : goal.offset_bounds-book-at
offset_bounds-book-at c = let h = small c.before.before.before.before.before.before.before in let e = c.stored_at-at.ensures in omega (arith, h.0, h.2, e)

pub slice_bounds-tell-end : goal.slice_bounds-tell-end
slice_bounds-tell-end c =
    let h = small c.before.before.before.before.before.before.before in
    let full = settled_full c.before.before.before in
    let e = c.stored_at-at.ensures in
    omega (arith, full, h.0, h.2, e)

pub tell-reading-requires : goal.tell-reading-requires
tell-reading-requires c =
    let at = c.stored_at-at in
    let h = small c.before.before.before.before.before.before.before.before in
    let full = settled_full c.before.before.before.before in
    let e = at.ensures in
    let room : at.result + 9 ≤ length c.settle_home.new.book = omega (arith, full, h.0, h.2, e) in
    (ap length (part_from c.settle_home.new.book 9 refl) ∙ length_part c.settle_home.new.book at.result 9 room, h.4)

pub crew_at-requires : goal.crew_at-requires
crew_at-requires c = (small c.before.before.before.before.before.before.before.before.before.before).3

pub merge-requires : goal.merge-requires
unfolding cut
merge-requires c =
    let at = c.crew_at in
    let h = small c.before.before.before.before.before.before.before.before.before.before.before.before.before in
    let full = settled_full c.before.before.before.before.before.before.before.before.before in
    let e = at.ensures in
    let four : length c.tell-reading.result.vector ≡ 4 = ap (λ (v : List ℕ). length v) c.tell-reading.ensures.vector_value.0 in
    (omega (arith, full, h.3, h.4, e), omega (arith, h.4, four))

pub returns : goal.returns
returns c =
    let counts = c.counts_of-n.ensures in
    let depot = c.home_depot-d.ensures in
    let book = c.args.book.now in
    let w = base c.before.before.before.before.before.before.before.before.before.before.before.before.before.before.before.before.before.before.before.before.before in
    let done = read_good book c.args.c.0 c.args.k.0 c.requires.0 c.requires.1 c.requires.2 (parts_fit_law c.before.before.before.before.before.before.before.before.before.before.before.before.before.before.before) in
    let home = home_done book c.args.c.0 c.args.k.0 counts depot c.shelf_for-s.ensures c.settle_home.ensures in
    let found = record_read book c.args.c.0 c.args.k.0 counts home depot c.stored_at-at.ensures in
    let said = c.tell-reading.ensures in
    let answer = told_done book c.args.c.0 c.args.k.0 counts home (λ (n : ℕ) (r : List ℕ). reads (told n r)) found said.result_value in
    let vector = told_done book c.args.c.0 c.args.k.0 counts home (λ (n : ℕ) (r : List ℕ). cut n (vector_of r)) found said.vector_value.0 in
    let depots = told_done book c.args.c.0 c.args.k.0 counts home (λ (n : ℕ) (r : List ℕ). n) found said.vector_value.1 in
    record {
      answer = answer ∙ by_done done;
      holds = told_holds _ _ w.within.depots answer vector depots;
      book =
          merged_done book c.args.c.0 c.args.k.0 counts home w.within.depots c.crew_at.ensures vector c.merge.ensures
          ∙ after_done _ _ done;
    }
