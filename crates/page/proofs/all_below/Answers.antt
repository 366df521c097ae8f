-- `page::all_below` meets its contract.
-- Assumes nothing.
use Rattle.std.proofs.Common.{rules, tests, length, refl}
use Rattle.loops.proofs.ChainLaws.{every_from_all}
use Rattle.named.specs.Named.{all_below}
use Rattle.page.proofs.all_below.Goals as goal

pub returns : goal.returns
unfolding all_below
returns c = every_from_all (length c.args.bearings.now) _ c.all.result c.all.ensures.ran refl (λ x b q k. search (rules, tests))
