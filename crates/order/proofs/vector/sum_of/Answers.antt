-- `order::vector::sum_of` meets its contract. The loop's invariant: the total is the sum of the entries passed, and so many entries of 32 bits
-- make no more than so many times the largest, which 64 bits hold.
-- Assumes nothing.
use Prim.Native.Nat.{ℕ, ◌+◌}
use native.Mathlib.Omega.{arith}
use mathlib.Core.Path.{◌∙◌, ap, sym}
use lib.ListN.{length-take}
use lib.Seq.{get_or-take}
use borrow.Author.Rules.{rules}
use Rattle.order.proofs.VectorLaws.{sum_none, sum_more}
use Rattle.order.proofs.vector.sum_of.Goals as goal

pub loop-x-init : goal.loop-x-init
loop-x-init c = (sym (sum_none _), search rules)

-- the entry is one of the n, a word of 32 bits
pub loop-x-preserved : goal.loop-x-preserved
loop-x-preserved c =
    let args = c.args in
    let loop = c.loop-x in
    let entry = get_or-take args.n args.u.now loop.x-index 0 (omega (arith, length-take args.n args.u.now, c.loop-x-test.true)) in
    (ap (λ (e : ℕ). loop.total + e) entry ∙ sum_more _ _ loop.invariant.0, omega (arith, entry, c.type_inv.u loop.x-index))
