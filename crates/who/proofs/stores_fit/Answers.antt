-- `who::stores_fit` meets its contract.
-- Assumes nothing.
use Rattle.std.proofs.Common.{rules, tests, refl}
use Rattle.loops.proofs.ChainLaws.{every_from_all}
use Rattle.who.specs.Who.{who_parts}
use Rattle.who.proofs.stores_fit.Goals as goal

pub returns : goal.returns
unfolding who_parts
returns c = every_from_all c.args.n.depots _ c.all.result c.all.ensures.ran refl (λ x b q k. search (rules, tests))
