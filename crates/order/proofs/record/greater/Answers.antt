-- `order::record::greater` meets its contract: the choice that the comparison makes.
-- Assumes nothing.
use mathlib.Core.Path.{◌≡◌, ◌∙◌, sym, ap}
use Prim.Native.Nat.{ℕ}
use Rattle.order.specs.Order.{above}
use Rattle.order.specs.Record.{rank_in}
use Rattle.loops.proofs.BoolLaws.{pick_true, pick_false}
use Rattle.order.proofs.record.greater.Goals as goal
use Rattle.order.proofs.record.greater.Lts as lts
use Rattle.order.proofs.record.greater.Tie as tie
use Rattle.order.proofs.record.greater.Reads as reads

-- what is known at a place, for the lemmas below
abbrev After-exceeds : Type 0
After-exceeds = lts.After-exceeds tie.the-claims reads.Pre reads.Post

-- what the comparison said, of the depots as they were handed in
said : (c : After-exceeds)
    → c.exceeds.result ≡ above (Prim.Native.Nat.min c.args.depots 4)
    (rank_in c.args.b.now) (rank_in c.args.a.now)
said c =
    let args = c.args in
    c.exceeds.ensures ∙ ap (λ (n : ℕ). above n (rank_in args.b.now) (rank_in args.a.now)) c.entries_for.ensures

pub returns-then-exceeds : goal.returns-then-exceeds
returns-then-exceeds c = sym (pick_true _ _ (sym (said c.before.before) ∙ c.if-exceeds.true))

pub returns : goal.returns
returns c = sym (pick_false _ _ (sym (said c.before.before) ∙ c.if-exceeds.false))
