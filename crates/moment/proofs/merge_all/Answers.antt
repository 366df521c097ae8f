-- `moment::merge_all` meets its contract: the loop's invariant is that the words are those of the turns so far.
-- Assumes nothing.
use Prim.Native.Nat.{ℕ, ◌<◌}
use native.Mathlib.Nat.{lt_of_lt_of_le}
use mathlib.Core.Path.{◌∙◌, sym, ap, subst}
use Rattle.loops.proofs.LoopLaws.{times_none, times_more, times_done}
use Rattle.named.proofs.NamedLaws.{below_at}
use Rattle.register.specs.Calls.{merged_all}
use borrow.Author.Rules.{rules}
use Rattle.moment.proofs.merge_all.Goals as goal
use Rattle.moment.proofs.merge_all.Invariants.{turn}

pub loop-i-init : goal.loop-i-init
loop-i-init c = times_none _ _

pub bearing_at-bearing-requires : goal.bearing_at-bearing-requires
bearing_at-bearing-requires c = (c.loop-i-test.true, c.requires.5)

pub merge_one-requires : goal.merge_one-requires
merge_one-requires c = (
  search rules,
  c.requires.1,
  c.requires.3,
  c.requires.4,
  subst (λ (k : ℕ). k < 160) (sym c.bearing_at-bearing.ensures) (lt_of_lt_of_le (below_at _ _ c.requires.5 _ c.loop-i-test.true) c.requires.2),
)

pub loop-i-preserved : goal.loop-i-preserved
loop-i-preserved c =
    let args = c.args in
    times_more _ _ _ c.loop-i.invariant
    (c.merge_one.ensures ∙ ap (λ (k : ℕ). turn args.n.depots args.c.0 args.d.0 k c.loop-i.book) c.bearing_at-bearing.ensures)

pub returns : goal.returns
unfolding merged_all
returns c = times_done _ _ c.loop-i.auto.i-end c.loop-i-test.false c.loop-i.invariant
