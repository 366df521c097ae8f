-- `wire::put_word` meets its contract.
-- Assumes nothing.
use native.Mathlib.Omega.{arith}
use mathlib.Core.Path.{◌∙◌, refl, ap}
use Rattle.wire.specs.Wire.{word_bytes}
use Rattle.wire.proofs.WireLaws.{low_first, put_copied}
use Rattle.wire.proofs.put_word.Goals as goal

pub returns : goal.returns
unfolding word_bytes
returns c = put_copied c.args.out.now c.args.at 4 (c.copy_from_slice.ensures.after ∙ c.to_le_bytes.ensures ∙ low_first _ ∙ ap word_bytes (omega arith)) refl c.requires
