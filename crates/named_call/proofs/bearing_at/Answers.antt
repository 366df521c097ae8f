-- `named_call::bearing_at` meets its contract: the number at the place is below the count.
-- Assumes nothing.
use native.Mathlib.Omega.{arith}
use mathlib.Core.Path.{◌∙◌}
use Rattle.named.proofs.NamedLaws.{below_at}
use Rattle.named_call.proofs.bearing_at.Goals as goal

pub nth-requires : goal.nth-requires
nth-requires c = let below = below_at _ _ c.requires.1 _ c.requires.0 in omega (arith, below, c.wide.ensures)

pub returns : goal.returns
returns c = c.nth.ensures ∙ c.wide.ensures
