-- `entries::beside::is_same` meets its contract.
-- Assumes nothing.
use mathlib.Core.Path.{refl}
use borrow.Author.Rules.{rules}
use borrow.Author.Tests.{tests}
use Rattle.loops.proofs.ChainLaws.{every_from_all}
use Rattle.order.specs.Vector.{agree}
use Rattle.entries.proofs.beside.is_same.Goals as goal

pub returns : goal.returns
unfolding agree
returns c = every_from_all c.args.n _ c.all.result c.all.ensures.ran refl (λ x b q k. search (rules, tests))
