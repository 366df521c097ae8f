-- `register::calls::setup::setup` meets its contract: the checks in their order, then the words.
-- Assumes nothing.
use Prim.Native.Nat.{ℕ, ◌≤◌}
use mathlib.Core.Path.{◌≡◌, ◌∙◌, refl, sym, ap, subst}
use mathlib.Core.Bool.{true}
use lib.Dec.{ltb}
use lib.ListN.{length, get_or}
use Rattle.loops.specs.Loops.{every}
use Rattle.loops.proofs.BoolLaws.{test_passed, test_failed}
use Rattle.book.specs.declared.parts.Counts.{Counts}
use Rattle.fit.specs.Fit.{counts_fit}
use Rattle.fit.proofs.FitLaws.{counts_within}
use Rattle.paper.specs.declared.answer.Refusal.TheVariants.{BadBook, BadDepot, BadCounts}
use Rattle.paper.specs.Answers.{number_of}
use Rattle.register.proofs.SetupLaws.{setup_book, setup_counts, setup_crews, setup_home, setup_good, setup_refused, setup_done}
use Rattle.setup.proofs.setup.Goals as goal
use Rattle.setup.proofs.setup.Lts as lts
use Rattle.setup.proofs.setup.Tie as tie
use Rattle.setup.proofs.setup.Reads as reads

-- what is known at a place, for the lemmas below
abbrev After-counts_from-n : Type 0
After-counts_from-n = lts.After-counts_from tie.the-claims reads.Pre reads.Post

abbrev After-counts_fit : Type 0
After-counts_fit = lts.After-counts_fit tie.the-claims reads.Pre reads.Post

abbrev Else-homes-n : Type 0
Else-homes-n = lts.Else3 tie.the-claims reads.Pre reads.Post

abbrev After-are_depots : Type 0
After-are_depots = lts.After-are_depots tie.the-claims reads.Pre reads.Post

-- the counts that were handed in
abbrev asked : (c : After-counts_from-n) → Counts
asked c =
    let args = c.args in
    record { depots = args.depots; shelves = args.shelves; bearings = args.bearings; crews = args.crews }

-- what the tests say of them
counts_said : (c : After-counts_fit) → c.counts_fit.result ≡ counts_fit (asked c.before)
counts_said c = c.counts_fit.ensures ∙ ap counts_fit c.counts_from-n.ensures

pub returns-then-book-ne-BOOK_WORDS : goal.returns-then-book-ne-BOOK_WORDS
unfolding number_of
returns-then-book-ne-BOOK_WORDS c = setup_refused _ _ _ BadBook (setup_book _ _ _ c.if-book-ne-BOOK_WORDS.true) refl

pub returns-then-not-counts_fit : goal.returns-then-not-counts_fit
unfolding number_of
returns-then-not-counts_fit c =
    setup_refused _ _ _ BadCounts (setup_counts _ _ _ c.if-book-ne-BOOK_WORDS.false (test_failed (counts_said c.before.before) c.if-not-counts_fit.true-raw)) refl

pub returns-then-homes-n : goal.returns-then-homes-n
unfolding number_of
returns-then-homes-n c =
    setup_refused _ _ _ BadCounts
    (setup_crews _ _ _ c.if-book-ne-BOOK_WORDS.false
    (subst (λ (n : Counts). length c.args.homes.now ≡ n.crews → ⊥) c.counts_from-n.ensures c.if-homes-n.true))
    refl

-- where the number of homes is that of the crews
homes_counted : (c : Else-homes-n) → length c.args.homes.now ≡ (asked c.before.before.before.before).crews
homes_counted c =
    subst (λ (n : Counts). length c.args.homes.now ≡ n.crews) c.counts_from-n.ensures c.if-homes-n.false

counts_good : (c : Else-homes-n) → counts_fit (asked c.before.before.before.before) ≡ true
counts_good c = test_passed (counts_said c.before.before.before) c.if-not-counts_fit.false-raw

homes_said :
    (c : After-are_depots) →
    c.are_depots.result ≡ every (asked c.before.before.before.before.before).crews (λ x. ltb (get_or c.args.homes.now x 0) (asked c.before.before.before.before.before).depots)
homes_said c =
    c.are_depots.ensures ∙ ap (λ (n : Counts). every n.crews (λ x. ltb (get_or c.args.homes.now x 0) n.depots)) c.counts_from-n.ensures

pub returns-then-not-are_depots : goal.returns-then-not-are_depots
unfolding number_of
returns-then-not-are_depots c =
    let full = c.if-book-ne-BOOK_WORDS.false in
    setup_refused _ _ _ BadDepot (setup_home _ _ _ full (counts_good c.before.before.before) (homes_counted c.before.before.before) (test_failed (homes_said c.before.before) c.if-not-are_depots.true-raw)) refl

pub write_fresh-requires : goal.write_fresh-requires
write_fresh-requires c = (
  c.if-book-ne-BOOK_WORDS.false,
  subst (λ (x : ℕ). x ≤ 16) (sym (homes_counted c.before.before.before.before)) (counts_within _ (counts_good c.before.before.before.before)).crews,
)

pub returns : goal.returns
returns c =
    let full = c.if-book-ne-BOOK_WORDS.false in
    setup_done _ _ _ (setup_good _ _ _ full (counts_good c.before.before.before.before.before.before.before) (homes_counted c.before.before.before.before.before.before.before) (test_passed (homes_said c.before.before.before.before.before.before) c.if-not-are_depots.false-raw)) c.write_fresh.ensures
