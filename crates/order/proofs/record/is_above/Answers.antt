-- `order::record::is_above` meets its contract. Sums that differ decide. Where they are equal, the loop's invariant: the entries passed are
-- equal, so the first difference decides, and where there is none the origins do.
-- Assumes nothing.
use Prim.Native.Nat.{ℕ, ◌<◌}
use native.Mathlib.Nat.{lt_of_lt_of_le}
use mathlib.Core.Path.{◌≡◌, ◌∙◌, sym, ap, ap₂}
use mathlib.Core.Bool.{not}
use lib.Dec.{ltb}
use lib.ListN.{length-take, length-drop}
use borrow.Author.Rules.{rules}
use borrow.Author.Count.{below_none, below_more}
use Rattle.order.specs.Vector.{sum}
use Rattle.order.specs.Record.{vector_of, rank_of}
use Rattle.order.proofs.RecordLaws.{zeros_part, sum_part}
use Rattle.order.proofs.OrderCode.{above_sum, above_first, above_tie_low, above_tie_high}
use Rattle.order.proofs.record.is_above.Goals as goal
use Rattle.order.proofs.record.is_above.Lts as lts
use Rattle.order.proofs.record.is_above.Tie as tie
use Rattle.order.proofs.record.is_above.Reads as reads

-- what is known at a place, for the lemmas below
abbrev After-sum_of-other : Type 0
After-sum_of-other = lts.After-sum_of2 tie.the-claims reads.Pre reads.Post goal.the-invariant-loop-x goal.the-decreases-loop-x

abbrev Else-sum-other : Type 0
Else-sum-other = lts.Else1 tie.the-claims reads.Pre reads.Post goal.the-invariant-loop-x goal.the-decreases-loop-x

abbrev After-loop-x : Type 0
After-loop-x = lts.After-loop tie.the-claims reads.Pre reads.Post goal.the-invariant-loop-x goal.the-decreases-loop-x

-- the vectors as parts of the records
pub sum_of-sum-requires : goal.sum_of-sum-requires
sum_of-sum-requires c = simp (length-take, length-drop) (search rules)

pub sum_of-other-requires : goal.sum_of-other-requires
sum_of-other-requires c = simp (length-take, length-drop) (search rules)

pub is_zero-requires : goal.is_zero-requires
is_zero-requires c = simp (length-take, length-drop) (search rules)

-- what the two sums are
first_sum : (c : After-sum_of-other) → let args = c.args in
    c.sum_of-sum.result ≡ sum args.n (vector_of args.a.now)
first_sum c = let args = c.args in c.sum_of-sum.ensures ∙ sum_part args.n args.a.now (search rules)

second_sum : (c : After-sum_of-other) → let args = c.args in
    c.sum_of-other.result ≡ sum args.n (vector_of args.b.now)
second_sum c = let args = c.args in c.sum_of-other.ensures ∙ sum_part args.n args.b.now (search rules)

-- sums that differ
pub returns-then-sum-other : goal.returns-then-sum-other
returns-then-sum-other c =
    let args = c.args in
    ap₂ ltb (second_sum c.before.before) (first_sum c.before.before)
    ∙ above_sum args.n (rank_of args.a.now) (rank_of args.b.now) (λ e. c.if-sum-other.true (first_sum c.before.before ∙ e ∙ sym (second_sum c.before.before)))

-- equal sums
level : (c : Else-sum-other) → let args = c.args in
    sum args.n (vector_of args.a.now) ≡ sum args.n (vector_of args.b.now)
level c = sym (first_sum c.before) ∙ c.if-sum-other.false ∙ second_sum c.before

pub loop-x-init : goal.loop-x-init
loop-x-init c = below_none _

-- the first difference
pub returns-then-a-place : goal.returns-then-a-place
returns-then-a-place c =
    let args = c.args in
    above_first args.n (rank_of args.a.now) (rank_of args.b.now) (level c.before.before.before.before.before.before.before.before) c.loop-x.x c.loop-x-test.true c.loop-x.invariant
    c.if-a-place.true

pub loop-x-preserved : goal.loop-x-preserved
loop-x-preserved c = below_more _ _ c.loop-x.invariant c.if-a-place.false

-- after the loop every entry has been passed
all : (c : After-loop-x) → let args = c.args in
    (y : ℕ) → y < args.n → vector_of args.a.now y ≡ vector_of args.b.now y
all c y l = c.loop-x.invariant y (lt_of_lt_of_le l c.loop-x-test.false)

-- no difference, and no higher origin
pub returns-then-a-b : goal.returns-then-a-b
returns-then-a-b c =
    let args = c.args in
    above_tie_low args.n (rank_of args.a.now) (rank_of args.b.now) (all c.before.before.before.before) c.if-a-b.true

pub returns : goal.returns
returns c =
    let args = c.args in
    ap not (c.is_zero.ensures ∙ zeros_part args.n args.a.now (search rules))
    ∙ above_tie_high args.n (rank_of args.a.now) (rank_of args.b.now) (all c.before.before.before.before.before.before) c.if-a-b.false
