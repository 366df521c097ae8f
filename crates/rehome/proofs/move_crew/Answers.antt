-- `rehome::move_crew` meets its contract: the checks in their order, then the rest.
-- Assumes nothing.
use Prim.Native.Nat.{◌<◌}
use native.Mathlib.Omega.{arith}
use mathlib.Core.Path.{◌≡◌, sym, subst, subst₂}
use Rattle.std.specs.Prelude.{None, Some, Err}
use Rattle.loops.proofs.BoolLaws.{test_passed, test_failed}
use Rattle.book.specs.declared.parts.Counts.{Counts}
use Rattle.book.specs.Numbers.{Crew, Depot}
use Rattle.book.specs.Layout.{counts_of}
use Rattle.named.proofs.NamedLaws.{base_open}
use Rattle.paper.specs.declared.answer.Refusal.TheVariants.{BadBook, BadDepot, BadCrew}
use Rattle.paper.specs.Answers.{number_of, paper}
use Rattle.register.specs.Promises.{Move}
use Rattle.register.proofs.CallLaws.{by_refusal, after_refused}
use Rattle.register.proofs.KindLaws.{good_number, bad_number}
use Rattle.register.proofs.MoveTable.{move_base, move_crew, move_depot}
use Rattle.rehome.proofs.move_crew.Goals as goal

pub returns-then-not-base_fits : goal.returns-then-not-base_fits
unfolding number_of paper
returns-then-not-base_fits c =
    let e = move_base _ _ _ (test_failed c.base_fits.ensures c.if-not-base_fits.true-raw) in
    record { answer = by_refusal BadBook _ e; book = after_refused BadBook _ _ e }

pub counts_of-n-requires : goal.counts_of-n-requires
counts_of-n-requires c = (base_open _ (test_passed c.base_fits.ensures c.if-not-base_fits.false-raw)).full

pub returns-in_err-c : goal.returns-in_err-c
unfolding number_of paper
returns-in_err-c c =
    let args = c.args in
    let book = args.book.now in
    let none : c.checked.result ≡ None = grind arith in
    let answer : c.from_residual.result ≡ Err BadCrew = grind arith in
    let fit = test_passed c.base_fits.ensures c.if-not-base_fits.false-raw in
    let e = move_crew book _ args.depot fit (rw c.counts_of-n.ensures at (bad_number _ c.checked.ensures none)) in
    rw answer (record { answer = by_refusal BadCrew _ e; book = after_refused BadCrew _ _ e })

pub returns-in_err-d : goal.returns-in_err-d
unfolding number_of paper
returns-in_err-d c =
    let book = c.args.book.now in
    let some : c.checked.result ≡ Some c.in_ok-c.c = grind arith in
    let none : c.checked-2.result ≡ None = grind arith in
    let answer : c.from_residual-in_err-d.result ≡ Err BadDepot = grind arith in
    let fit = test_passed c.base_fits.ensures c.if-not-base_fits.false-raw in
    let under = rw c.counts_of-n.ensures at ((good_number _ c.checked.ensures some).0) in
    let e = move_depot book _ _ fit under (rw c.counts_of-n.ensures at (bad_number _ c.checked-2.ensures none)) in
    rw answer (record { answer = by_refusal BadDepot _ e; book = after_refused BadDepot _ _ e })

pub move_at-requires : goal.move_at-requires
move_at-requires c =
    let args = c.args in
    let book = args.book.now in
    let n = c.counts_of-n.ensures in
    let first : c.checked.result ≡ Some c.in_ok-c.c = grind arith in
    let second : c.checked-2.result ≡ Some c.in_ok-d.d = grind arith in
    let crew = good_number _ c.checked.ensures first in
    let depot = good_number _ c.checked-2.ensures second in (
      test_passed c.base_fits.ensures c.if-not-base_fits.false-raw,
      subst (λ (x : Crew). x.0 < (counts_of book).crews) crew.1 (subst (λ (m : Counts). args.crew < m.crews) n crew.0),
      subst (λ (x : Depot). x.0 < (counts_of book).depots) depot.1 (subst (λ (m : Counts). args.depot < m.depots) n depot.0),
    )

pub returns : goal.returns
returns c =
    let call = c.move_at in
    let book = c.args.book.now in
    let first : c.checked.result ≡ Some c.in_ok-c.c = grind arith in
    let second : c.checked-2.result ≡ Some c.in_ok-d.d = grind arith in
    let crew = good_number _ c.checked.ensures first in
    let depot = good_number _ c.checked-2.ensures second in
    subst₂ (λ (x : Crew) (y : Depot). Move book x.0 y.0 call.result call.new.book) (sym crew.1) (sym depot.1) call.ensures
