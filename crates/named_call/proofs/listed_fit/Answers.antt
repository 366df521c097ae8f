-- `named_call::listed_fit` meets its contract. Each number listed is below the count, so it is a bearing's.
-- Assumes nothing.
use mathlib.Core.Path.{refl}
use lib.ListN.{length}
use borrow.Author.Rules.{rules}
use borrow.Author.Tests.{tests}
use Rattle.std.proofs.lemmas.Iterator.{serves_from_Range}
use Rattle.loops.proofs.ChainLaws.{every_from_all}
use Rattle.named.specs.Named.{listed_fit}
use Rattle.named.proofs.NamedLaws.{below_at}
use Rattle.named_call.proofs.listed_fit.Goals as goal

pub all-requires-clause-callable : goal.all-requires-clause-callable
all-requires-clause-callable c =
    let given = c.requires in
    let room = given.1.bearings in
    serves_from_Range (λ x q k. search rules) (λ x lo hi. let below = below_at c.args.n.bearings c.args.bearings.now given.3 x hi in search rules)

pub returns : goal.returns
unfolding listed_fit
returns c = every_from_all (length c.args.bearings.now) _ c.all.result c.all.ensures.ran refl (λ x b q k. search (rules, tests))
