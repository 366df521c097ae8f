-- `making::stamp_crew` meets its contract: raise and show, then one entry of the crew's vector.
-- Assumes nothing.
use Prim.Native.Nat.{◌+◌}
use lib.ListN.{set}
use Rattle.making.proofs.stamp_crew.Goals as goal

pub returns : goal.returns
returns c = λ z. set (c.settle_home.ensures z) (c.crew_at.ensures z + c.index.ensures z)
    c.args.stamp
