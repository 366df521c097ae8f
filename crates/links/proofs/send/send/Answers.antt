-- `links::send::send` meets its contract. The loop's invariant: the words are those of the turns so far; a link whose turn comes has the room it had.
-- Assumes nothing.
use Prim.Native.Nat.{ℕ, ◌<◌}
use native.Mathlib.Omega.{arith}
use mathlib.Core.Path.{◌≡◌, ◌∙◌, sym, ap, subst}
use Rattle.loops.specs.Loops.{times}
use Rattle.loops.proofs.LoopLaws.{times_none, times_more, times_done}
use Rattle.book.specs.Layout.{link_of, held}
use Rattle.links.specs.Send.{sent_to, sent}
use Rattle.links.proofs.SendCode.{turn_room}
use borrow.Author.Rules.{rules}
use Rattle.links.proofs.send.send.Goals as goal

pub set_clock-requires : goal.set_clock-requires
set_clock-requires c = let free = c.requires.2 in (search rules, free.depot, free.shelf)

pub loop-to-init : goal.loop-to-init
loop-to-init c = times_none _ _

pub send_to-requires : goal.send_to-requires
send_to-requires c =
    let nth = c.nth.ensures in
    let free = c.requires.2 in
    let args = c.args in
    let test = c.loop-to-test.true in (
      search rules,
      c.requires.1,
      free.depot,
      free.shelf,
      omega (arith, nth, test, free.depots),
      subst (λ (x : ℕ). (x ≡ args.d.0 → ⊥) → held c.loop-to.book (link_of args.s.0 args.d.0 x) < 16) (sym nth)
          (turn_room args.n _ _ args.stamp _ _ _ c.requires.1 free test
          (c.loop-to.invariant ∙ ap (times c.loop-to.to (sent_to args.d.0 args.s.0 args.message.now)) c.set_clock.ensures)),
    )

pub loop-to-preserved : goal.loop-to-preserved
loop-to-preserved c =
    let args = c.args in
    times_more _ _ _ c.loop-to.invariant
    (c.send_to.ensures ∙ ap (λ (x : ℕ). sent_to args.d.0 args.s.0 args.message.now x c.loop-to.book) c.nth.ensures)

pub returns : goal.returns
unfolding sent
returns c =
    let args = c.args in
    times_done _ _ c.loop-to.auto.to-end c.loop-to-test.false c.loop-to.invariant
    ∙ ap (times args.n (sent_to args.d.0 args.s.0 args.message.now)) c.set_clock.ensures
