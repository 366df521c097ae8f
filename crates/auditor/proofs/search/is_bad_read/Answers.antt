-- `auditor::search::is_bad_read` meets its contract. Each test is one of the chain.
-- Assumes nothing.
use mathlib.Core.Path.{◌≡◌, refl, ◌∙◌, ap}
use Rattle.std.proofs.Common.{rules, tests}
use Rattle.entries.specs.Entries.{entries, source}
use Rattle.entries.proofs.EntryLaws.{zeros_part}
use Rattle.chains.specs.Chain.{some}
use Rattle.chains.proofs.SomeLaws.{some_from_any}
use Rattle.auditor.specs.Verdict.{bad_read}
use Rattle.auditor.proofs.search.is_bad_read.Goals as goal

pub returns-then-not-unwritten : goal.returns-then-not-unwritten
unfolding bad_read
returns-then-not-unwritten c =
    let test = source c.args.h.now c.args.i in
    let zero = c.is_zero-unwritten.ensures ∙ zeros_part c.args.h.now c.args.i in
    let found : c.any.result ≡ some (entries c.args.h.now) test =
    some_from_any c.args.n test c.any.result c.any.ensures.ran refl (λ x b q k. search (rules, tests)) ∙ ap (λ n. some n test) c.requires.count in
    search (rules, tests)

pub returns-else-not-unwritten : goal.returns-else-not-unwritten
unfolding bad_read
returns-else-not-unwritten c =
    let zero = c.is_zero-unwritten.ensures ∙ zeros_part c.args.h.now c.args.i in
    search (rules, tests)
