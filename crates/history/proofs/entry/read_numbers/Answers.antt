-- `history::entry::read_numbers` meets its contract. The loop's invariant: the numbers stored, with those that are left, give the answer.
-- Assumes nothing.
use native.Mathlib.Nat.{sub-zero}
use native.Mathlib.Omega.{arith}
use mathlib.Core.Path.{sym, ◌∙◌, ap}
use borrow.Author.Rules.{rules}
use Rattle.line.proofs.NumberLaws.{missed, found}
use Rattle.line.proofs.ReadingLaws.{numbers_end, numbers_full, numbers_unspaced, numbers_missed, numbers_found}
use Rattle.history.proofs.ReadLaws.{filled, filled_start, filled_wrong, filled_right, filled_refused, filled_turn}
use Rattle.history.proofs.entry.read_numbers.Goals as goal

pub loop-at-init : goal.loop-at-init
loop-at-init c = (search rules, rw sub-zero (filled_start _ _ _))

pub returns-then-n-count : goal.returns-then-n-count
returns-then-n-count c =
    filled_refused _ _ _ c.loop-at.invariant.1 (numbers_full _ _ _ c.loop-at-test.true (omega arith))

pub returns-then-s-at-ne32 : goal.returns-then-s-at-ne32
returns-then-s-at-ne32 c =
    filled_refused _ _ _ c.loop-at.invariant.1 (numbers_unspaced _ _ _ c.loop-at-test.true c.if-s-at-ne32.true)

pub returns-in_err-number : goal.returns-in_err-number
returns-in_err-number c =
    c.from_residual.ensures
    ∙ filled_refused _ _ _ c.loop-at.invariant.1
    (numbers_missed _ _ _ c.loop-at-test.true
    (missed _ _ (sym c.read_number.ensures ∙ c.in_err-number.was)))

pub loop-at-smaller : goal.loop-at-smaller
loop-at-smaller c =
    let number = found _ _ (sym c.read_number.ensures ∙ c.in_ok-number.was) in
    let inside = c.loop-at-test.true in
    omega (arith, number.2)

pub loop-at-preserved : goal.loop-at-preserved
loop-at-preserved c =
    let number = found _ _ (sym c.read_number.ensures ∙ c.in_ok-number.was) in (
      search rules,
      filled_turn _ _ _ _ _ _ c.loop-at.invariant.0
          c.if-n-count.false c.loop-at.invariant.1
          (numbers_found _ _ _ c.loop-at-test.true c.if-s-at-ne32.false number),
    )

pub returns-then-n-count-2 : goal.returns-then-n-count-2
returns-then-n-count-2 c =
    sym (filled_wrong _ _ _ c.if-n-count-2.true) ∙ ap (filled _ _ _) (sym (numbers_end _ _ _ c.loop-at-test.false))
    ∙ c.loop-at.invariant.1

pub returns : goal.returns
returns c =
    sym (filled_right _ _ _ c.if-n-count-2.false) ∙ ap (filled _ _ _) (sym (numbers_end _ _ _ c.loop-at-test.false))
    ∙ c.loop-at.invariant.1
