-- `card::length_fits` meets its contract: the words of lengths are those from 1 to that of 2,000.
-- Assumes nothing.
use native.Mathlib.Omega.{arith}
use mathlib.Core.Path.{◌≡◌, sym}
use Rattle.card.proofs.LengthLaws.{length_zero, length_above}
use Rattle.card.proofs.length_fits.Goals as goal

pub returns-then-bits-lt-LEAST : goal.returns-then-bits-lt-LEAST
returns-then-bits-lt-LEAST c = let none : c.args.bits ≡ 0 = omega arith in rw (none, length_zero)

pub returns : goal.returns
returns c = sym (length_above _ c.if-bits-lt-LEAST.false)
