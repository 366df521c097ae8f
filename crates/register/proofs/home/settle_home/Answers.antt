-- `register::calls::home::settle_home` meets its contract: raise and show with what was copied out.
-- Assumes nothing.
use mathlib.Core.Path.{◌∙◌}
use Rattle.register.proofs.HomeLaws.{settled_four}
use Rattle.register.proofs.home.settle_home.Goals as goal

pub returns : goal.returns
returns c =
    c.settle.ensures ∙ settled_four _ _ _ _ _ c.requires.2.depots c.crew_vector-offered.ensures
