-- Each promise of a card settles its answer.
-- Assumes nothing.
use mathlib.Core.Path.{◌∙◌, sym}
use Rattle.loops.specs.Settled.{Settled}
use Rattle.card.proofs.card_fits.Kinds as card-fits-kinds
use Rattle.card.proofs.card_fits.Reads as card-fits
use Rattle.card.proofs.card_of.Kinds as card-of-kinds
use Rattle.card.proofs.card_of.Reads as card-of
use Rattle.card.proofs.diameter_bits.Kinds as diameter-kinds
use Rattle.card.proofs.diameter_bits.Reads as diameter
use Rattle.card.proofs.width_bits.Kinds as width-kinds
use Rattle.card.proofs.width_bits.Reads as width
use Rattle.card.proofs.grams.Kinds as grams-kinds
use Rattle.card.proofs.grams.Reads as grams

pub card_fits_unique : Settled 0 card-fits-kinds.ps card-fits-kinds.r card-fits.Learnt
card_fits_unique κs args one other end end' p q = p ∙ sym q

pub card_of_unique : Settled 0 card-of-kinds.ps card-of-kinds.r card-of.Learnt
card_of_unique κs args one other end end' p q = p ∙ sym q

pub diameter_bits_unique : Settled 0 diameter-kinds.ps diameter-kinds.r diameter.Learnt
diameter_bits_unique κs args one other end end' p q = p ∙ sym q

pub width_bits_unique : Settled 0 width-kinds.ps width-kinds.r width.Learnt
width_bits_unique κs args one other end end' p q = p ∙ sym q

pub grams_unique : Settled 0 grams-kinds.ps grams-kinds.r grams.Learnt
grams_unique κs args one other end end' p q = p ∙ sym q
