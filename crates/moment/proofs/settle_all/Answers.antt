-- `moment::settle_all` meets its contract: the loop's invariant is that the words are those of the turns so far; a shelf whose turn comes is ready as it was.
-- Assumes nothing.
use Prim.Native.Nat.{ℕ}
use mathlib.Core.Path.{◌∙◌, sym, ap, subst}
use Rattle.loops.proofs.LoopLaws.{times_none, times_more, times_done}
use Rattle.order.specs.Vector.{vector_in}
use Rattle.shelf.specs.Asks.{Ready}
use Rattle.register.specs.Calls.{settled_all}
use Rattle.register.proofs.PageReady.{page_turn, page_ready}
use borrow.Author.Rules.{rules}
use Rattle.moment.proofs.settle_all.Goals as goal

pub loop-s-init : goal.loop-s-init
loop-s-init c = times_none _ _

pub settle-requires : goal.settle-requires
settle-requires c =
    let loop = c.loop-s in (
      search rules,
      c.requires.1,
      subst (λ (x : ℕ). Ready c.args.n c.args.d.0 x loop.book) (sym c.nth.ensures)
          (page_ready c.args.n c.args.p c.args.d.0 (vector_in c.args.offered.now) c.args.book.now c.requires.2 loop.s
          c.loop-s-test.true loop.invariant),
    )

pub loop-s-preserved : goal.loop-s-preserved
loop-s-preserved c =
    let args = c.args in
    times_more _ _ _ c.loop-s.invariant
    (c.settle.ensures ∙ ap (λ (x : ℕ). page_turn args.n args.d.0 (vector_in args.offered.now) x c.loop-s.book) c.nth.ensures)

pub returns : goal.returns
unfolding settled_all
returns c = times_done _ _ c.loop-s.auto.s-end c.loop-s-test.false c.loop-s.invariant
