-- `auditor::search::is_bad_write` meets its contract. Each test is one of the chain.
-- Assumes nothing.
use mathlib.Core.Path.{◌≡◌, refl, ◌∙◌, ap}
use Rattle.std.proofs.Common.{rules, tests}
use Rattle.entries.specs.Entries.{entries, twin}
use Rattle.chains.specs.Chain.{some}
use Rattle.chains.proofs.SomeLaws.{some_from_any}
use Rattle.auditor.specs.Verdict.{bad_write}
use Rattle.auditor.proofs.search.is_bad_write.Goals as goal

pub returns-else-h-at-eq0 : goal.returns-else-h-at-eq0
unfolding bad_write
returns-else-h-at-eq0 c =
    let test = twin c.args.h.now c.args.i in
    let found : c.any.result ≡ some (entries c.args.h.now) test =
    some_from_any c.args.n test c.any.result c.any.ensures.ran refl (λ x b q k. search (rules, tests)) ∙ ap (λ n. some n test) c.requires.count in
    search (rules, tests)
