-- `named_link::heads_out_fit` meets its contract.
-- Assumes nothing.
use mathlib.Core.Path.{refl}
use borrow.Author.Rules.{rules}
use borrow.Author.Tests.{tests}
use Rattle.loops.proofs.ChainLaws.{every_from_all}
use Rattle.named.specs.Named.{heads_out_fit}
use Rattle.named_link.proofs.heads_out_fit.Goals as goal

pub returns : goal.returns
unfolding heads_out_fit
returns c = every_from_all c.args.n.depots _ c.all.result c.all.ensures.ran refl (λ x b q k. search (rules, tests))
