-- `wire::half_at` meets its contract.
-- Assumes nothing.
use native.Mathlib.Omega.{arith}
use Rattle.wire.specs.Wire.{half_at}
use Rattle.wire.proofs.half_at.Goals as goal

pub returns : goal.returns
unfolding half_at
returns c = omega (arith, c.from_le_bytes.ensures)
