-- `versions::version::kept_fits` meets its contract: the tests of one look, in their order.
-- Assumes nothing.
use native.Mathlib.Omega.{arith}
use mathlib.Core.Path.{refl}
use Rattle.std.proofs.lemmas.Grind.{common_steps}
use Rattle.look.proofs.LookLaws.{kept_looked}
use Rattle.versions.proofs.version.kept_fits.Goals as goal

pub returns-then-found-eq0 : goal.returns-then-found-eq0
returns-then-found-eq0 c =
    let args = c.args in
    let found = c.look-found.ensures in
    let said = kept_looked args.n args.version.now found.0 found.2 refl args.k.0 refl in
    grind (arith, common_steps)

pub returns-then-has_card : goal.returns-then-has_card
returns-then-has_card c =
    let args = c.args in
    let found = c.look-found.ensures in
    let said = kept_looked args.n args.version.now found.0 found.2 refl args.k.0 c.wide.ensures in
    grind (arith, common_steps)

pub returns-else-has_card : goal.returns-else-has_card
returns-else-has_card c =
    let args = c.args in
    let found = c.look-found.ensures in
    let said = kept_looked args.n args.version.now found.0 found.2 refl args.k.0 refl in
    grind (arith, common_steps)
