-- `who::mask_of` meets its contract: a loop whose invariant is that the mask is that of the depots passed.
-- Assumes nothing.
use Prim.Native.Nat.{ℕ, ◌^◌, ◌<◌}
use native.Mathlib.Nat.{le_antisymm}
use mathlib.Core.Path.{◌∙◌, sym, ap, subst}
use Rattle.who.specs.Who.{has_it}
use Rattle.who.proofs.MaskLaws.{mask_none, mask_more, mask_lt}
use borrow.Author.Rules.{rules}
use Rattle.who.proofs.mask_of.Goals as goal

pub loop-x-init : goal.loop-x-init
loop-x-init c = mask_none _

pub with_bit-mask-requires : goal.with_bit-mask-requires
with_bit-mask-requires c =
    let loop = c.loop-x in
    (search rules, subst (λ (m : ℕ). m < 2 ^ loop.x) (sym loop.invariant) (mask_lt _ loop.x))

pub loop-x-preserved : goal.loop-x-preserved
loop-x-preserved c =
    let args = c.args in
    let told = c.has_it.ensures ∙ ap (has_it args.n args.book.now args.d.0 args.k.0) c.nth.ensures in
    mask_more _ c.loop-x.x c.loop-x.invariant told c.with_bit-mask.ensures

pub returns : goal.returns
returns c = rw (le_antisymm c.loop-x.auto.x-end c.loop-x-test.false) at c.loop-x.invariant
