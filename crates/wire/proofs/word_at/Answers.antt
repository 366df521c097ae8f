-- `wire::word_at` meets its contract.
-- Assumes nothing.
use native.Mathlib.Omega.{arith}
use Rattle.wire.specs.Wire.{word_at, word_of}
use Rattle.wire.proofs.word_at.Goals as goal

pub returns : goal.returns
unfolding word_at word_of
returns c = omega (arith, c.from_le_bytes.ensures)
