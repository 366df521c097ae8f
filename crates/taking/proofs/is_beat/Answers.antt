-- `taking::is_beat` meets its contract: the message's first word is its kind.
-- Assumes nothing.
use Prim.Native.Nat.{ℕ}
use mathlib.Core.Path.{ap}
use lib.Dec.{eqb}
use Rattle.book.specs.Layout.{beat_kind}
use Rattle.taking.proofs.TakeCode.{kind_place}
use Rattle.taking.proofs.is_beat.Goals as goal

pub returns : goal.returns
returns c = ap (λ (x : ℕ). eqb x beat_kind) (kind_place _ _ _ c.slot_at.ensures)
