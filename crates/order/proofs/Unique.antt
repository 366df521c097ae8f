-- The promise of `greater` settles its answer.
-- Assumes nothing.
use mathlib.Core.Path.{◌∙◌, sym}
use Rattle.loops.specs.Settled.{Settled}
use Rattle.order.proofs.record.greater.Kinds as kinds
use Rattle.order.proofs.record.greater.Reads as greater

-- `order::record::greater`: any two references that satisfy its promise are the same reference
pub greater_unique : Settled 1 kinds.ps kinds.r greater.Learnt
greater_unique κs args one other end end' p q = p ∙ sym q
