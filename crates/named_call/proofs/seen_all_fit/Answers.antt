-- `named_call::seen_all_fit` meets its contract.
-- Assumes nothing.
use mathlib.Core.Path.{refl}
use borrow.Author.Rules.{rules}
use borrow.Author.Tests.{tests}
use Rattle.loops.proofs.ChainLaws.{every_from_all}
use Rattle.named_call.proofs.seen_all_fit.Goals as goal

pub returns : goal.returns
returns c = every_from_all c.args.n.shelves _ c.all.result c.all.ensures.ran refl (λ x b q k. search (rules, tests))
