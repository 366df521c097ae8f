-- `export::depot_greater` meets its contract: no depots, too many, or the order of versions.
-- Assumes nothing.
use Prim.Native.Nat.{ℕ, ◌<◌}
use mathlib.Core.Path.{sym, ◌∙◌, ap, subst}
use Rattle.order.specs.Record.{most_depots}
use Rattle.loops.proofs.BoolLaws.{pick_true, pick_false}
use Rattle.export.specs.Numbers.{greater_number}
use Rattle.export.proofs.GreaterLaws.{greater_none, greater_many, greater_by}
use Rattle.export.proofs.depot_greater.Goals as goal

pub returns-then-n-eq0 : goal.returns-then-n-eq0
returns-then-n-eq0 c =
    let e = c.wide-n.ensures in
    greater_none _ _ _ (sym e ∙ c.if-n-eq0.true)

pub returns-then-n-gt-MOST_DEPOTS : goal.returns-then-n-gt-MOST_DEPOTS
returns-then-n-gt-MOST_DEPOTS c =
    let e = c.wide-n.ensures in
    greater_many _ _ _ (subst (λ (x : ℕ). most_depots < x) e c.if-n-gt-MOST_DEPOTS.true)

pub returns-then-exceeds : goal.returns-then-exceeds
returns-then-exceeds c =
    let args = c.args in
    let e = c.wide-n.ensures in
    sym (pick_true 1 0 c.if-exceeds.true)
    ∙ greater_by _ args.a.now args.b.now c.if-n-eq0.false c.if-n-gt-MOST_DEPOTS.false c.exceeds.ensures
    ∙ ap (λ (x : ℕ). greater_number x args.a.now args.b.now) e

pub returns : goal.returns
returns c =
    let args = c.args in
    let e = c.wide-n.ensures in
    sym (pick_false 1 0 c.if-exceeds.false)
    ∙ greater_by _ args.a.now args.b.now c.if-n-eq0.false c.if-n-gt-MOST_DEPOTS.false c.exceeds.ensures
    ∙ ap (λ (x : ℕ). greater_number x args.a.now args.b.now) e
