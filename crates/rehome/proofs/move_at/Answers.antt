-- `rehome::move_at` meets its contract: the parts, then whether the depot is open, then the one word.
-- Assumes nothing.
use native.Mathlib.Nat.{lt_of_lt_of_le}
use mathlib.Core.Path.{◌≡◌, ◌∙◌, sym, ap, subst}
use mathlib.Core.Bool.{true}
use Rattle.loops.proofs.BoolLaws.{test_passed, test_failed}
use Rattle.book.specs.declared.parts.Counts.{Counts}
use Rattle.book.specs.Layout.{counts_of}
use Rattle.fit.specs.Fit.{Within}
use Rattle.named.specs.Named.{move_parts}
use Rattle.named.proofs.NamedLaws.{Based, base_open}
use Rattle.paper.specs.declared.answer.Refusal.TheVariants.{BadBook, NotHereYet}
use Rattle.paper.specs.Answers.{number_of, paper}
use Rattle.register.specs.Calls.{move_book}
use Rattle.register.proofs.CallLaws.{by_refusal, by_done, after_refused, after_done}
use Rattle.register.proofs.MoveTable.{move_book_law, move_not_here, move_good}
use Rattle.rehome.proofs.move_at.Goals as goal
use Rattle.rehome.proofs.move_at.Lts as lts
use Rattle.rehome.proofs.move_at.Tie as tie
use Rattle.rehome.proofs.move_at.Reads as reads

-- what is known at a place, for the lemmas below
abbrev Start : Type 0
Start = lts.Start tie.the-claims reads.Pre reads.Post

abbrev After-move_parts_fit : Type 0
After-move_parts_fit = lts.After-move_parts_fit tie.the-claims reads.Pre reads.Post

abbrev Else-not-move_parts_fit : Type 0
Else-not-move_parts_fit = lts.Else1 tie.the-claims reads.Pre reads.Post

-- what the shared checks know of the book
base : (c : Start) → Based c.args.book.now
base c = base_open _ c.requires.0

-- what the test of the parts says
parts_said :
    (c : After-move_parts_fit) →
    let args = c.args in c.move_parts_fit.result ≡ move_parts (counts_of args.book.now) args.book.now args.c.0 args.d.0
parts_said c =
    let args = c.args in
    c.move_parts_fit.ensures ∙ ap (λ (n : Counts). move_parts n args.book.now args.c.0 args.d.0) c.counts_of-n.ensures

parts_fit_law : (c : Else-not-move_parts_fit) → let args = c.args in move_parts (counts_of args.book.now) args.book.now args.c.0 args.d.0 ≡ true
parts_fit_law c = test_passed (parts_said c.before) c.if-not-move_parts_fit.false-raw

pub counts_of-n-requires : goal.counts_of-n-requires
counts_of-n-requires c = (base c.before).full

pub move_parts_fit-requires : goal.move_parts_fit-requires
move_parts_fit-requires c =
    let w = base c.before.before in
    (w.full, subst Within (sym c.counts_of-n.ensures) w.within, lt_of_lt_of_le c.requires.1 w.within.crews, lt_of_lt_of_le c.requires.2 w.within.depots)

pub returns-then-not-move_parts_fit : goal.returns-then-not-move_parts_fit
unfolding number_of paper
returns-then-not-move_parts_fit c =
    let e = move_book_law _ _ _ c.requires.0 c.requires.1 c.requires.2 (test_failed (parts_said c.before) c.if-not-move_parts_fit.true-raw) in
    record { answer = by_refusal BadBook _ e; book = after_refused BadBook _ _ e }

pub is_open-requires : goal.is_open-requires
is_open-requires c =
    let w = base c.before.before.before.before in
    let n = c.counts_of-n.ensures in
    (w.full, subst Within (sym n) w.within, n, lt_of_lt_of_le c.requires.1 w.within.crews, lt_of_lt_of_le c.requires.2 w.within.depots)

pub returns-then-not-is_open : goal.returns-then-not-is_open
unfolding number_of paper
returns-then-not-is_open c =
    let e = move_not_here _ _ _ c.requires.0 c.requires.1 c.requires.2 (parts_fit_law c.before.before) (test_failed c.is_open.ensures c.if-not-is_open.true-raw) in
    record { answer = by_refusal NotHereYet _ e; book = after_refused NotHereYet _ _ e }

pub set_home-requires : goal.set_home-requires
set_home-requires c =
    let w = base c.before.before.before.before.before.before.before in
    (w.full, lt_of_lt_of_le c.requires.1 w.within.crews, lt_of_lt_of_le c.requires.2 w.within.depots)

pub returns : goal.returns
unfolding move_book paper
returns c =
    let e = move_good _ _ _ c.requires.0 c.requires.1 c.requires.2 (parts_fit_law c.before.before.before.before.before.before.before)
    (test_passed c.is_open.ensures c.if-not-is_open.false-raw) in
    record { answer = by_done e; book = c.set_home.ensures ∙ after_done _ _ e }
