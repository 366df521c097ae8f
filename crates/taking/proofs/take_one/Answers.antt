-- `taking::take_one` meets its contract: the stamp is read, then the message moves on.
-- Assumes nothing.
use Prim.Native.Nat.{◌≤◌, ◌<◌}
use native.Mathlib.Omega.{arith}
use mathlib.Core.Path.{◌∙◌, ap}
use Rattle.book.specs.Layout.{held, taken}
use Rattle.taking.proofs.TakeCode.{take_done}
use borrow.Author.Rules.{rules}
use Rattle.taking.proofs.take_one.Goals as goal
use Rattle.taking.proofs.take_one.Lts as lts
use Rattle.taking.proofs.take_one.Tie as tie
use Rattle.taking.proofs.take_one.Reads as reads

-- what is known at a place, for the lemmas below
abbrev After-taken_of-done : Type 0
After-taken_of-done = lts.After-taken_of tie.the-claims reads.Pre reads.Post

-- a message is there to take, and the link holds no more than it has room for
limits : (c : After-taken_of-done) → (c.taken_of-done.result < c.held_of-count.result) × (c.held_of-count.result ≤ 16)
limits c =
    let h = c.held_of-count.ensures ∙ ap (held c.args.book.now) c.between-q.ensures in
    let t = c.taken_of-done.ensures ∙ ap (taken c.args.book.now) c.between-q.ensures in
    (omega (arith, c.requires.4, h, t), omega (arith, c.requires.5, h))

pub is_beat-beat-requires : goal.is_beat-beat-requires
is_beat-beat-requires c = let h = limits c in (search rules, search rules, omega (arith, h.0, h.1))

pub stamp_of-stamp-requires : goal.stamp_of-stamp-requires
stamp_of-stamp-requires c = let h = limits c.before in (search rules, search rules, omega (arith, h.0, h.1), search rules)

pub move_on-requires : goal.move_on-requires
move_on-requires c = let h = limits c.before.before.before.before.before.before.before in (search rules, search rules, h.0, h.1)

pub returns : goal.returns
returns c =
    take_done _ _ _ _ c.between-q.ensures c.held_of-count.ensures c.taken_of-done.ensures c.is_beat-beat.ensures
    c.stamp_of-stamp.ensures c.set_seen.ensures c.move_on.ensures
