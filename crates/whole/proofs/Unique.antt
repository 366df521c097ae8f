-- The promise of `is_fit` settles its answer.
-- Assumes nothing.
use mathlib.Core.Path.{◌∙◌, sym}
use Rattle.loops.specs.Settled.{Settled}
use Rattle.whole.proofs.is_fit.Kinds as kinds
use Rattle.whole.proofs.is_fit.Reads as is_fit

-- `whole::is_fit`: any two answers that satisfy its promise are the same
pub is_fit_unique : Settled 1 kinds.ps kinds.r is_fit.Learnt
is_fit_unique κs args one other end end' p q = p ∙ sym q
