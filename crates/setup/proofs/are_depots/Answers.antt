-- `setup::are_depots` meets its contract.
-- Assumes nothing.
use Rattle.std.proofs.Common.{rules, tests, refl}
use Rattle.loops.proofs.ChainLaws.{every_from_all}
use Rattle.setup.proofs.are_depots.Goals as goal

pub returns : goal.returns
returns c = every_from_all c.args.crews _ c.all.result c.all.ensures.ran refl (λ x b q k. search (rules, tests))
