-- `shelf::show::settle` meets its contract: raise, then show; raising leaves the links as they are.
-- Assumes nothing.
use Prim.Native.Nat.{ℕ}
use mathlib.Core.Path.{◌≡◌, ◌∙◌, sym, ap, ap₂, subst}
use Rattle.order.specs.Vector.{vector_in, merged_at}
use Rattle.book.specs.Layout.{stable_at}
use Rattle.shelf.specs.Asks.{Ready}
use Rattle.shelf.specs.Show.{shown, settled}
use Rattle.shelf.proofs.ShowFrame.{raised_ready}
use borrow.Author.Rules.{rules}
use Rattle.shelf.proofs.show.settle.Goals as goal
use Rattle.shelf.proofs.show.settle.Lts as lts
use Rattle.shelf.proofs.show.settle.Tie as tie
use Rattle.shelf.proofs.show.settle.Reads as reads

-- what is known at a place, for the lemmas below
abbrev After-merge : Type 0
After-merge = lts.After-merge tie.the-claims reads.Pre reads.Post

-- what raising leaves
raised :
    (c : After-merge) →
    let args = c.args in
    c.merge.new.to ≡ merged_at args.n args.d.0 (vector_in args.offered.now) (stable_at args.d.0 args.s.0) args.book.now
raised c =
    let args = c.args in
    c.merge.ensures
    ∙ ap₂ (λ (x y : ℕ). merged_at args.n x (vector_in args.offered.now) y args.book.now) c.index.ensures c.stable_at.ensures

pub show-requires : goal.show-requires
show-requires c = (
  search rules,
  subst (Ready c.args.n c.args.d.0 c.args.s.0) (sym (raised c.before.before.before.before)) (raised_ready _ _ _ _ _ c.requires.2),
)

pub returns : goal.returns
unfolding settled
returns c =
    let call = c.show in
    let args = c.args in
    call.ensures ∙ ap (shown args.n args.d.0 args.s.0) (raised c.before.before.before.before.before.before.before)
