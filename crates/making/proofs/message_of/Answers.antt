-- `making::message_of` meets its contract: the fields of the version in their places, the card as its two words.
-- Assumes nothing.
use mathlib.Core.List.{[], ◌∷◌}
use lib.ListN.{get_or}
use Rattle.book.specs.Layout.{copy_kind}
use Rattle.making.proofs.message_of.Goals as goal

pub returns : goal.returns
returns c =
    let v = c.args.v in
    let u = v.vector in
    λ z. copy_kind ∷ v.bearing ∷ v.value ∷ c.diameter_bits-diameter.ensures z ∷ c.width_bits-width.ensures z ∷ v.origin ∷ get_or u 0 0 ∷ get_or u 1 0 ∷ get_or u 2 0 ∷ get_or u 3 0 ∷ []
