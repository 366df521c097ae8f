-- `image::head_of` meets its contract.
-- Assumes nothing.
use mathlib.Core.Path.{refl}
use Rattle.image.specs.Image.{image_head}
use Rattle.image.proofs.head_of.Goals as goal

pub returns : goal.returns
unfolding image_head
returns c = refl
