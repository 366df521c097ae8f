-- `register::check::check_asked` meets its contract: the three checks, in their order.
-- Assumes nothing.
use native.Mathlib.Omega.{arith}
use mathlib.Core.Path.{◌≡◌}
use Rattle.std.specs.Prelude.{None, Some, Err}
use Rattle.loops.proofs.BoolLaws.{test_passed, test_failed}
use Rattle.named.proofs.NamedLaws.{base_open}
use Rattle.paper.specs.Answers.{number_of}
use Rattle.paper.specs.declared.answer.Refusal.TheVariants.{BadCrew, BadKey}
use Rattle.register.specs.Checks.{AskChecked}
use Rattle.register.proofs.TableLaws.{asked_book, asked_crew, asked_key, asked_good}
use Rattle.register.proofs.KindLaws.{good_number, bad_number}
use Rattle.register.proofs.check.check_asked.Goals as goal

pub returns-then-not-base_fits : goal.returns-then-not-base_fits
unfolding AskChecked number_of
returns-then-not-base_fits c = asked_book c.args.book.now _ _ (test_failed c.base_fits.ensures c.if-not-base_fits.true-raw)

pub counts_of-n-requires : goal.counts_of-n-requires
counts_of-n-requires c = (base_open _ (test_passed c.base_fits.ensures c.if-not-base_fits.false-raw)).full

pub returns-in_err-c : goal.returns-in_err-c
unfolding AskChecked number_of
returns-in_err-c c =
    let book = c.args.book.now in
    let fit = test_passed c.base_fits.ensures c.if-not-base_fits.false-raw in
    let none : c.checked.result ≡ None = grind arith in
    let answer : c.from_residual.result ≡ Err BadCrew = grind arith in
    rw answer (asked_crew book _ _ fit (rw c.counts_of-n.ensures at (bad_number _ c.checked.ensures none)))

pub returns-in_err-k : goal.returns-in_err-k
unfolding AskChecked number_of
returns-in_err-k c =
    let book = c.args.book.now in
    let fit = test_passed c.base_fits.ensures c.if-not-base_fits.false-raw in
    let some : c.checked.result ≡ Some c.in_ok-c.c = grind arith in
    let none : c.checked-2.result ≡ None = grind arith in
    let answer : c.from_residual-in_err-k.result ≡ Err BadKey = grind arith in
    let under = rw c.counts_of-n.ensures at ((good_number _ c.checked.ensures some).0) in
    rw answer (asked_key book _ _ fit under (rw c.counts_of-n.ensures at (bad_number _ c.checked-2.ensures none)))

pub returns : goal.returns
unfolding AskChecked number_of
returns c =
    let book = c.args.book.now in
    let fit = test_passed c.base_fits.ensures c.if-not-base_fits.false-raw in
    let first : c.checked.result ≡ Some c.in_ok-c.c = grind arith in
    let second : c.checked-2.result ≡ Some c.in_ok-k.k = grind arith in
    let crew = good_number _ c.checked.ensures first in
    let bearing = good_number _ c.checked-2.ensures second in
    (asked_good book _ _ fit (rw c.counts_of-n.ensures at crew.0) (rw c.counts_of-n.ensures at bearing.0), crew.1, bearing.1)
