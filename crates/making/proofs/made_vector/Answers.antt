-- `making::made_vector` meets its contract: one entry set, and the rest cut off.
-- Assumes nothing.
use mathlib.Core.Path.{◌∙◌, ap}
use native.Mathlib.Omega.{arith}
use lib.ListN.{length, length-set}
use Rattle.register.proofs.WriteLaws.{cut_set}
use Rattle.making.proofs.made_vector.Goals as goal

pub cut_vector-requires : goal.cut_vector-requires
cut_vector-requires c =
    let four = ap length c.crew_vector-vector.ensures in
    simp length-set (omega (arith, four, c.requires.1))

pub returns : goal.returns
returns c =
    c.cut_vector.ensures ∙ cut_set _ _ _ _ c.requires.1 c.requires.3 c.crew_vector-vector.ensures c.index-own.ensures
