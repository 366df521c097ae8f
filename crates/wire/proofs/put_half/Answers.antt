-- `wire::put_half` meets its contract.
-- Assumes nothing.
use Prim.Native.Nat.{ℕ}
use mathlib.Core.Path.{◌∙◌, refl, ap}
use mathlib.Core.List.{List}
use lib.ListN.{take}
use Rattle.wire.specs.Wire.{half_bytes}
use Rattle.wire.proofs.WireLaws.{put_copied}
use Rattle.wire.proofs.put_half.Goals as goal

pub returns : goal.returns
unfolding half_bytes
returns c = put_copied c.args.out.now c.args.at 2 (c.copy_from_slice.ensures.after ∙ ap (λ (l : List ℕ). take 2 l) c.to_le_bytes.ensures) refl c.requires
