-- `register::check::check_link` meets its contract: the four checks, in their order.
-- Assumes nothing.
use native.Mathlib.Omega.{arith}
use mathlib.Core.Path.{◌≡◌}
use Rattle.std.specs.Prelude.{None, Some, Err}
use Rattle.loops.proofs.BoolLaws.{test_passed, test_failed}
use Rattle.named.proofs.NamedLaws.{base_open}
use Rattle.paper.specs.Answers.{number_of}
use Rattle.paper.specs.declared.answer.Refusal.TheVariants.{BadDepot, BadShelf}
use Rattle.register.specs.Checks.{LinkChecked}
use Rattle.register.proofs.TakeTable.{link_book, link_depot, link_from, link_shelf, link_good}
use Rattle.register.proofs.KindLaws.{good_number, bad_number}
use Rattle.register.proofs.check.check_link.Goals as goal

pub returns-then-not-base_fits : goal.returns-then-not-base_fits
unfolding LinkChecked number_of
returns-then-not-base_fits c = link_book c.args.book.now _ _ _ (test_failed c.base_fits.ensures c.if-not-base_fits.true-raw)

pub counts_of-n-requires : goal.counts_of-n-requires
counts_of-n-requires c = (base_open _ (test_passed c.base_fits.ensures c.if-not-base_fits.false-raw)).full

pub returns-in_err-d : goal.returns-in_err-d
unfolding LinkChecked number_of
returns-in_err-d c =
    let book = c.args.book.now in
    let fit = test_passed c.base_fits.ensures c.if-not-base_fits.false-raw in
    let none : c.checked.result ≡ None = grind arith in
    let answer : c.from_residual.result ≡ Err BadDepot = grind arith in
    rw answer (link_depot book _ _ _ fit (rw c.counts_of-n.ensures at (bad_number _ c.checked.ensures none)))

pub returns-in_err-o : goal.returns-in_err-o
unfolding LinkChecked number_of
returns-in_err-o c =
    let book = c.args.book.now in
    let fit = test_passed c.base_fits.ensures c.if-not-base_fits.false-raw in
    let none : c.checked-2.result ≡ None = grind arith in
    let answer : c.from_residual-in_err-o.result ≡ Err BadDepot = grind arith in
    rw answer (link_from book _ _ _ fit (rw c.counts_of-n.ensures at (bad_number _ c.checked-2.ensures none)))

pub returns-in_err-s : goal.returns-in_err-s
unfolding LinkChecked number_of
returns-in_err-s c =
    let book = c.args.book.now in
    let fit = test_passed c.base_fits.ensures c.if-not-base_fits.false-raw in
    let first : c.checked.result ≡ Some c.in_ok-d.d = grind arith in
    let second : c.checked-2.result ≡ Some c.in_ok-o.o = grind arith in
    let none : c.checked-3.result ≡ None = grind arith in
    let answer : c.from_residual-in_err-s.result ≡ Err BadShelf = grind arith in
    let depot = rw c.counts_of-n.ensures at ((good_number _ c.checked.ensures first).0) in
    let from = rw c.counts_of-n.ensures at ((good_number _ c.checked-2.ensures second).0) in
    rw answer (link_shelf book _ _ _ fit depot from (rw c.counts_of-n.ensures at (bad_number _ c.checked-3.ensures none)))

pub returns : goal.returns
unfolding LinkChecked number_of
returns c =
    let book = c.args.book.now in
    let fit = test_passed c.base_fits.ensures c.if-not-base_fits.false-raw in
    let first : c.checked.result ≡ Some c.in_ok-d.d = grind arith in
    let second : c.checked-2.result ≡ Some c.in_ok-o.o = grind arith in
    let third : c.checked-3.result ≡ Some c.in_ok-s.s = grind arith in
    let d = good_number _ c.checked.ensures first in
    let o = good_number _ c.checked-2.ensures second in
    let s = good_number _ c.checked-3.ensures third in
    let count = c.counts_of-n.ensures in
    (link_good book _ _ _ fit (rw count at d.0) (rw count at o.0) (rw count at s.0), d.1, s.1, o.1)
