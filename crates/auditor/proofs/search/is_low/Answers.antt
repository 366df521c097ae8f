-- `auditor::search::is_low` meets its contract. The test of each entry.
-- Assumes nothing.
use mathlib.Core.Path.{refl, ◌∙◌, ap}
use Rattle.std.proofs.Common.{rules, tests}
use Rattle.chains.proofs.SomeLaws.{some_from_any}
use Rattle.chains.specs.Table.{bit}
use Rattle.chains.specs.Chain.{some}
use Rattle.auditor.specs.Judging.{low, under}
use Rattle.auditor.proofs.search.is_low.Goals as goal

pub returns : goal.returns
unfolding low under
returns c =
    let args = c.args in
    some_from_any args.n (under args.h.now (bit args.past.now) args.i) c.any.result c.any.ensures.ran refl (λ x b q k. search (rules, tests))
    ∙ ap (λ n. some n (under args.h.now (bit args.past.now) args.i)) c.requires.0.count
