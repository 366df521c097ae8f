-- `versions::version::carried_fits` meets its contract: the tests of one look, in their order.
-- Assumes nothing.
use native.Mathlib.Omega.{arith}
use mathlib.Core.Path.{refl}
use Rattle.std.proofs.lemmas.Grind.{common_steps}
use Rattle.look.proofs.LookLaws.{carried_looked}
use Rattle.versions.proofs.version.carried_fits.Goals as goal

pub returns-then-bearing-n : goal.returns-then-bearing-n
returns-then-bearing-n c =
    let args = c.args in
    let found = c.look-found.ensures in
    let said = carried_looked args.n args.version.now found.0 found.2 refl args.s.0 args.from.0 found.1 c.wide-bearing.ensures in
    grind (arith, common_steps)

pub returns-else-bearing-n : goal.returns-else-bearing-n
returns-else-bearing-n c =
    let args = c.args in
    let found = c.look-found.ensures in
    let said = carried_looked args.n args.version.now found.0 found.2 refl args.s.0 args.from.0 found.1 c.wide-bearing.ensures in
    grind (arith, common_steps)
