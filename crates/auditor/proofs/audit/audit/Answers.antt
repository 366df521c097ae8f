-- `auditor::audit::audit` meets its contract. The length first, then the entries.
-- Assumes nothing.
use native.Mathlib.Omega.{arith}
use mathlib.Core.Path.{refl}
use Rattle.auditor.specs.Verdict.{so, not_so}
use Rattle.auditor.proofs.audit.audit.Goals as goal

pub returns-then-words : goal.returns-then-words
returns-then-words c = so c.if-words.true

pub returns-then-words-ne0 : goal.returns-then-words-ne0
returns-then-words-ne0 c = not_so (λ l. omega (arith, l, c.if-words.false)) (so c.if-words-ne0.true)

pub judge-requires : goal.judge-requires
judge-requires c = (record { count = refl; few = omega (arith, c.if-words.false); sized = refl }, refl)

pub returns : goal.returns
returns c = not_so (λ l. omega (arith, l, c.if-words.false)) (not_so (λ n. n c.if-words-ne0.false) c.judge.ensures)
