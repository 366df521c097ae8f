-- `whole::crews_fit` meets its contract.
-- Assumes nothing.
use mathlib.Core.Path.{refl}
use borrow.Author.Rules.{rules}
use borrow.Author.Tests.{tests}
use Rattle.loops.proofs.ChainLaws.{every_from_all}
use Rattle.fit.specs.Fit.{crews_fit}
use Rattle.whole.proofs.crews_fit.Goals as goal

pub returns : goal.returns
unfolding crews_fit
returns c = every_from_all c.args.n.crews _ c.all.result c.all.ensures.ran refl (λ x b q k. search (rules, tests))
