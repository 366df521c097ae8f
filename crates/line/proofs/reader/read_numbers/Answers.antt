-- `line::reader::read_numbers` meets its contract. The loop's invariant: the numbers stored, with those that are left, give the answer.
-- Assumes nothing.
use native.Mathlib.Nat.{sub-zero}
use native.Mathlib.Omega.{arith}
use mathlib.Core.Path.{sym, ◌∙◌, ap}
use borrow.Author.Rules.{rules}
use Rattle.line.proofs.NumberLaws.{missed, found}
use Rattle.line.proofs.ReadingLaws.{numbers_end, numbers_full, numbers_unspaced, numbers_missed, numbers_found}
use Rattle.line.proofs.ReadingLaws.{answered, answered_start, answered_few, answered_enough, answered_refused, answered_turn}
use Rattle.line.proofs.reader.read_numbers.Goals as goal

pub loop-at-init : goal.loop-at-init
loop-at-init c = (search rules, rw sub-zero (answered_start _ _ _))

-- no room for another number
pub returns-then-count-most : goal.returns-then-count-most
returns-then-count-most c = answered_refused _ _ _ _ c.loop-at.invariant.1 (numbers_full _ _ _ c.loop-at-test.true (omega arith))

-- no space before it
pub returns-then-s-at-ne32 : goal.returns-then-s-at-ne32
returns-then-s-at-ne32 c = answered_refused _ _ _ _ c.loop-at.invariant.1 (numbers_unspaced _ _ _ c.loop-at-test.true c.if-s-at-ne32.true)

-- no number after it
pub returns-in_err-number : goal.returns-in_err-number
returns-in_err-number c =
    c.from_residual.ensures
    ∙ answered_refused _ _ _ _ c.loop-at.invariant.1
    (numbers_missed _ _ _ c.loop-at-test.true (missed _ _ (sym c.read_number.ensures ∙ c.in_err-number.was)))

pub loop-at-smaller : goal.loop-at-smaller
loop-at-smaller c =
    let number = found _ _ (sym c.read_number.ensures ∙ c.in_ok-number.was) in
    let inside = c.loop-at-test.true in
    omega (arith, number.2)

-- a number, stored
pub loop-at-preserved : goal.loop-at-preserved
loop-at-preserved c =
    let number = found _ _ (sym c.read_number.ensures ∙ c.in_ok-number.was) in (
      search rules,
      answered_turn _ _ _ _ _ _ _ _ c.loop-at.invariant.0 c.if-count-most.false c.loop-at.invariant.1
          (numbers_found _ _ _ c.loop-at-test.true c.if-s-at-ne32.false number),
    )

-- too few numbers
pub returns-then-count-least : goal.returns-then-count-least
returns-then-count-least c =
    sym (answered_few _ _ _ _ c.if-count-least.true)
    ∙ ap (answered _ _ _ _) (sym (numbers_end _ _ _ c.loop-at-test.false))
    ∙ c.loop-at.invariant.1

pub returns : goal.returns
returns c =
    sym (answered_enough _ _ _ _ c.if-count-least.false)
    ∙ ap (answered _ _ _ _) (sym (numbers_end _ _ _ c.loop-at-test.false))
    ∙ c.loop-at.invariant.1
