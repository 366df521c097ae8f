-- `report::report::report` meets its contract: the answers in their order.
-- Assumes nothing.
use native.Mathlib.Omega.{arith}
use mathlib.Core.Path.{refl, sym}
use lib.Dec.{eqb}
use lib.Seq.{length-take-le}
use borrow.Author.Tests.{eq-eqb, eqb-true}
use Rattle.std.proofs.Common.{rules, tests}
use Rattle.std.specs.Prelude.{Some, None}
use Rattle.loops.proofs.ChainLaws.{PassesFirst, place_from_find}
use Rattle.entries.specs.Entries.{kind}
use Rattle.auditor.specs.Verdict.{so, not_so}
use Rattle.auditor.proofs.JudgeLaws.{named_first, named_nowhere}
use Rattle.report.specs.Report.{bad_kind, found}
use Rattle.report.proofs.report.report.Goals as goal
use Rattle.report.proofs.report.report.Goals.{In-Some, In_default}

pub returns-then-lines-gt-MOST_ENTRIES : goal.returns-then-lines-gt-MOST_ENTRIES
returns-then-lines-gt-MOST_ENTRIES c = so c.if-lines-gt-MOST_ENTRIES.true

first_bad : (c : In-Some) → PassesFirst c.args.lines (λ i. eqb (kind c.args.words.now i) bad_kind) c.in-Some.bad
first_bad c = place_from_find c.args.lines (λ i. eqb (kind c.args.words.now i) bad_kind) _ (Some c.in-Some.bad) c.in-Some.ensures.ran refl (λ x b q k. search (rules, tests))

pub overflow_cast-result : goal.overflow_cast-result
overflow_cast-result c = let found = first_bad c in omega (arith, c.if-lines-gt-MOST_ENTRIES.false, found.0)

pub returns-in-Some : goal.returns-in-Some
returns-in-Some c =
    not_so (λ l. omega (arith, l, c.if-lines-gt-MOST_ENTRIES.false))
    (named_first refl (λ j l p. eqb-true _ _ p) (λ j l p. eq-eqb _ _ p) (first_bad c))

pub slice_bounds-audit-end : goal.slice_bounds-audit-end
slice_bounds-audit-end c = sym (length-take-le _ _ (omega (arith, c.requires, c.if-lines-gt-MOST_ENTRIES.false)))

pub returns : goal.returns
returns c =
    not_so (λ l. omega (arith, l, c.if-lines-gt-MOST_ENTRIES.false))
    (named_nowhere refl (λ j l p. eqb-true _ _ p) (λ j l p. eq-eqb _ _ p)
    (place_from_find c.args.lines (λ i. eqb (kind c.args.words.now i) bad_kind) _ None c.in_default.ensures.ran refl (λ x b q k. search (rules, tests)))
    (found c.audit-found.ensures))
