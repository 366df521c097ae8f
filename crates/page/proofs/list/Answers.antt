-- `page::list` meets its contract: the checks in their order, then the rest.
-- Assumes nothing.
use Prim.Native.Nat.{ℕ, ◌<◌}
use native.Mathlib.Omega.{arith}
use mathlib.Core.Path.{◌≡◌, ◌∙◌, sym, ap, subst}
use Rattle.std.specs.Prelude.{None, Some, Err}
use Rattle.loops.proofs.BoolLaws.{test_passed, test_failed}
use Rattle.book.specs.declared.parts.Counts.{Counts}
use Rattle.book.specs.Numbers.{Crew}
use Rattle.book.specs.Layout.{counts_of}
use Rattle.named.specs.Named.{all_below}
use Rattle.named.proofs.NamedLaws.{base_open}
use Rattle.paper.specs.declared.answer.Refusal.TheVariants.{BadBook, BadKey, BadCrew, BadList}
use Rattle.paper.specs.Answers.{number_of, paper_list}
use Rattle.register.specs.Promises.{Listing}
use Rattle.register.proofs.CallLaws.{by_refusal, after_refused}
use Rattle.register.proofs.KindLaws.{good_number, bad_number}
use Rattle.register.proofs.ListTable.{list_base, list_crew, list_size, list_key}
use Rattle.page.proofs.list.Goals as goal
use Rattle.page.proofs.list.Lts as lts
use Rattle.page.proofs.list.Tie as tie
use Rattle.page.proofs.list.Reads as reads

-- what is known at a place, for the lemmas below
abbrev Else-not-is_list : Type 0
Else-not-is_list = lts.Else2 tie.the-claims reads.Pre reads.Post tie.handed_clauses

abbrev After-all_below : Type 0
After-all_below = lts.After-all_below tie.the-claims reads.Pre reads.Post tie.handed_clauses

-- what the tests and the crew's number say where they passed
crew_known :
    (c : Else-not-is_list) → let args = c.args in
    (args.crew < (counts_of args.book.now).crews) × (args.crew ≡ c.in_ok-c.c.0)
crew_known c =
    let some : c.checked.result ≡ Some c.in_ok-c.c = grind arith in
    let good = good_number _ c.checked.ensures some in
    (rw c.counts_of-n.ensures at good.0, ap (λ (x : Crew). x.0) good.1)

bearings_said : (c : After-all_below) → c.all_below.result ≡ all_below (counts_of c.args.book.now).bearings
    c.args.bearings.now
bearings_said c = c.all_below.ensures ∙ ap (λ (m : Counts). all_below m.bearings c.args.bearings.now) c.counts_of-n.ensures

pub returns-then-not-base_fits : goal.returns-then-not-base_fits
unfolding number_of paper_list
returns-then-not-base_fits c =
    let e = list_base _ _ _ (test_failed c.base_fits.ensures c.if-not-base_fits.true-raw) in
    record { answer = by_refusal BadBook _ e; holds = tt; book = after_refused BadBook _ _ e }

pub counts_of-n-requires : goal.counts_of-n-requires
counts_of-n-requires c = (base_open _ (test_passed c.base_fits.ensures c.if-not-base_fits.false-raw)).full

pub returns-in_err-c : goal.returns-in_err-c
unfolding number_of paper_list
returns-in_err-c c =
    let args = c.args in
    let none : c.checked.result ≡ None = grind arith in
    let answer : c.from_residual.result ≡ Err BadCrew = grind arith in
    let fit = test_passed c.base_fits.ensures c.if-not-base_fits.false-raw in
    let e = list_crew args.book.now args.crew args.bearings.now fit (rw c.counts_of-n.ensures at (bad_number _ c.checked.ensures none)) in
    rw answer (record { answer = by_refusal BadCrew _ e; holds = tt; book = after_refused BadCrew _ _ e })

pub returns-then-not-is_list : goal.returns-then-not-is_list
unfolding number_of paper_list
returns-then-not-is_list c =
    let args = c.args in
    let some : c.checked.result ≡ Some c.in_ok-c.c = grind arith in
    let fit = test_passed c.base_fits.ensures c.if-not-base_fits.false-raw in
    let under = rw c.counts_of-n.ensures at ((good_number _ c.checked.ensures some).0) in
    let e = list_size args.book.now args.crew args.bearings.now fit under (test_failed c.is_list.ensures c.if-not-is_list.true-raw) in
    record { answer = by_refusal BadList _ e; holds = tt; book = after_refused BadList _ _ e }

pub returns-then-not-all_below : goal.returns-then-not-all_below
unfolding number_of paper_list
returns-then-not-all_below c =
    let args = c.args in
    let fit = test_passed c.base_fits.ensures c.if-not-base_fits.false-raw in
    let sized = test_passed c.is_list.ensures c.if-not-is_list.false-raw in
    let e = list_key args.book.now args.crew args.bearings.now fit (crew_known c.before.before.before).0 sized
    (test_failed (bearings_said c.before.before) c.if-not-all_below.true-raw) in
    record { answer = by_refusal BadKey _ e; holds = tt; book = after_refused BadKey _ _ e }

pub list_at-requires : goal.list_at-requires
list_at-requires c =
    let book = c.args.book.now in
    let crew = crew_known c.before.before.before.before in (
      test_passed c.base_fits.ensures c.if-not-base_fits.false-raw,
      subst (λ (x : ℕ). x < (counts_of book).crews) crew.1 crew.0,
      test_passed c.is_list.ensures c.if-not-is_list.false-raw,
      test_passed (bearings_said c.before.before.before) c.if-not-all_below.false-raw,
    )

pub returns : goal.returns
returns c =
    let call = c.list_at in
    let args = c.args in
    subst (λ (x : ℕ). Listing args.book.now x args.bearings.now call.result call.new.book)
    (sym (crew_known c.before.before.before.before.before.before.before).1) call.ensures
