-- `shelf::show::show` meets its contract. The loop's invariant: the words are those of the turns so far; a link whose turn comes is sound as it was.
-- Assumes nothing.
use Prim.Native.Nat.{ℕ}
use native.Mathlib.Omega.{arith}
use mathlib.Core.Path.{◌≡◌, ◌∙◌, sym, ap, subst}
use borrow.Author.Tests.{false-eqb}
use Rattle.loops.proofs.BoolLaws.{pick_true, pick_false}
use Rattle.loops.proofs.LoopLaws.{times_none, times_more, times_done}
use Rattle.shelf.specs.Show.{shown}
use Rattle.shelf.proofs.ShowFrame.{show_turn}
use Rattle.shelf.proofs.ShelfCode.{turn_sound}
use borrow.Author.Rules.{rules}
use Rattle.shelf.proofs.show.show.Goals as goal

pub loop-number-init : goal.loop-number-init
loop-number-init c = times_none _ _

pub loop-number-preserved-then-eq : goal.loop-number-preserved-then-eq
loop-number-preserved-then-eq c =
    let args = c.args in
    times_more _ _ _ c.loop-number.invariant (sym (subst (λ (x : ℕ). show_turn args.n args.d.0 args.s.0 x c.loop-number.book ≡ c.loop-number.book) c.nth-from.ensures (pick_true _ _ (sym c.if-eq.ensures))))

pub show_link-requires : goal.show_link-requires
show_link-requires c =
    let ready = c.requires.1 in
    let sound = turn_sound _ _ _ _ _ ready c.loop-number-test.true c.loop-number.invariant (λ e. false-eqb _ _ c.if-eq.ensures (c.nth-from.ensures ∙ e)) in
    (search rules, ready.depots, ready.depot, ready.shelf, omega (arith, c.nth-from.ensures, ready.depots), rw c.nth-from.ensures sound)

pub loop-number-preserved : goal.loop-number-preserved
loop-number-preserved c =
    let args = c.args in
    times_more _ _ _ c.loop-number.invariant
    (c.show_link.ensures ∙ sym (pick_false _ _ (sym c.if-eq.ensures)) ∙ ap (λ (x : ℕ). show_turn args.n args.d.0 args.s.0 x c.loop-number.book) c.nth-from.ensures)

pub returns : goal.returns
unfolding shown
returns c = times_done _ _ c.loop-number.auto.number-end c.loop-number-test.false c.loop-number.invariant
