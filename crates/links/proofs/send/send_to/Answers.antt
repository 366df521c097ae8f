-- `links::send::send_to` meets its contract: the message stands in the first free slot, and the head counts one more.
-- Assumes nothing.
use Prim.Native.Nat.{◌<◌}
use native.Mathlib.Omega.{arith}
use mathlib.Core.Path.{◌≡◌, ◌∙◌, ap}
use borrow.Author.Tests.{true-eqb, false-eqb}
use Rattle.book.specs.Layout.{held}
use Rattle.links.proofs.SendCode.{send_done, send_none}
use borrow.Author.Rules.{rules}
use Rattle.links.proofs.send.send_to.Goals as goal
use Rattle.links.proofs.send.send_to.Lts as lts
use Rattle.links.proofs.send.send_to.Tie as tie
use Rattle.links.proofs.send.send_to.Reads as reads

-- what is known at a place, for the lemmas below
abbrev Else-eq : Type 0
Else-eq = lts.Else1 tie.the-claims reads.Pre reads.Post

abbrev After-held_of-held : Type 0
After-held_of-held = lts.After-held_of tie.the-claims reads.Pre reads.Post

-- the receiver is another depot, and its link has room
other : (c : Else-eq) → let args = c.args in args.to.0 ≡ args.d.0 → ⊥
other c = false-eqb _ _ c.if-eq.ensures

room : (c : After-held_of-held) → c.held_of-held.result < 16
room c =
    let h = c.requires.5 (other c.before.before) in
    let e = c.held_of-held.ensures ∙ ap (held c.args.book.now) c.between-q.ensures in
    omega (arith, h, e)

pub returns-then-eq : goal.returns-then-eq
returns-then-eq c = send_none _ _ _ _ _ (true-eqb _ _ c.if-eq.ensures)

pub slot_at-requires : goal.slot_at-requires
slot_at-requires c = let h = room c.before.before in (search rules, omega (arith, h))

pub write_words-requires : goal.write_words-requires
write_words-requires c = let h = room c.before.before.before in omega (arith, h, c.slot_at.ensures, c.between-q.ensures)

pub overflow_add-held : goal.overflow_add-held
overflow_add-held c = let h = room c.before.before.before.before.before.before in omega (arith, h)

pub word-requires : goal.word-requires
word-requires c = let h = room c.before.before.before.before.before.before in omega (arith, h)

pub returns : goal.returns
returns c =
    send_done _ _ _ _ _ (other c.before.before.before.before.before.before.before.before.before.before) c.between-q.ensures c.held_of-held.ensures c.slot_at.ensures
    c.write_words.ensures c.held_at.ensures c.word.ensures
