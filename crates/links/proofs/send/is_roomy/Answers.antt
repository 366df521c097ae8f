-- `links::send::is_roomy` meets its contract.
-- Assumes nothing.
use Rattle.std.proofs.Common.{rules, tests, refl}
use Rattle.loops.proofs.ChainLaws.{every_from_all}
use Rattle.links.specs.Send.{roomy}
use Rattle.links.proofs.send.is_roomy.Goals as goal

pub returns : goal.returns
unfolding roomy
returns c = every_from_all c.args.n _ c.all.result c.all.ensures.ran refl (λ x b q k. search (rules, tests))
