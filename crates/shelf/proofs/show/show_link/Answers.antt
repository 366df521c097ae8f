-- `shelf::show::show_link` meets its contract: the sweep, then closing up, then the head.
-- Assumes nothing.
use Prim.Native.Nat.{ℕ, ◌≤◌, ◌<◌}
use native.Mathlib.Omega.{arith}
use mathlib.Core.Path.{sym, subst}
use Rattle.shelf.specs.Asks.{Sound}
use Rattle.shelf.proofs.ShelfCode.{sweep_kept, link_done}
use borrow.Author.Rules.{rules}
use Rattle.shelf.proofs.show.show_link.Goals as goal
use Rattle.shelf.proofs.show.show_link.Lts as lts
use Rattle.shelf.proofs.show.show_link.Tie as tie
use Rattle.shelf.proofs.show.show_link.Reads as reads

-- what is known at a place, for the lemmas below
abbrev After-between-q : Type 0
After-between-q = lts.After-between tie.the-claims reads.Pre reads.Post

abbrev After-taken_of-taken : Type 0
After-taken_of-taken = lts.After-taken_of tie.the-claims reads.Pre reads.Post

abbrev After-sweep-kept : Type 0
After-sweep-kept = lts.After-sweep tie.the-claims reads.Pre reads.Post

-- the link is sound, its numbers are small, and no more stay than were taken
sound : (c : After-between-q) → Sound c.args.book.now c.between-q.result.0
sound c = subst (Sound c.args.book.now) (sym c.between-q.ensures) c.requires.5

limits : (c : After-taken_of-taken) → (c.taken_of-taken.result ≤ c.held_of-held.result) × (c.held_of-held.result ≤ 16)
limits c =
    let link = sound c.before.before in
    let h = c.held_of-held.ensures in
    let t = c.taken_of-taken.ensures in
    (omega (arith, link.first, h, t), omega (arith, link.room, h))

kept_below : (c : After-sweep-kept) → c.sweep-kept.result ≤ c.taken_of-taken.result
kept_below c =
    let args = c.args in
    sweep_kept args.n args.d.0 args.s.0 _ _ args.book.now _ _ c.sweep-kept.ensures

pub sweep-kept-requires : goal.sweep-kept-requires
sweep-kept-requires c =
    let link = sound c.before.before.before in
    let numbers = limits c.before in (
      search rules,
      search rules,
      search rules,
      search rules,
      search rules,
      omega (arith, numbers.0, numbers.1),
      λ i k. link.bearings i (subst (λ (x : ℕ). i < x) c.taken_of-taken.ensures k),
    )

pub overflow_sub-gone : goal.overflow_sub-gone
overflow_sub-gone c = kept_below c.before.before.before

pub close_up-requires : goal.close_up-requires
close_up-requires c =
    let numbers = limits c.before.before.before.before.before in
    let kept = kept_below c.before.before.before in
    (search rules, search rules, omega (arith, numbers.0, numbers.1, kept), omega (arith, numbers.0, numbers.1))

pub overflow_sub-held : goal.overflow_sub-held
overflow_sub-held c =
    let numbers = limits c.before.before.before.before.before.before.before.before.before in
    omega (arith, numbers.0, numbers.1, kept_below c.before.before.before.before.before.before.before)

pub word-requires : goal.word-requires
word-requires c =
    let numbers = limits c.before.before.before.before.before.before.before.before.before in
    omega (arith, numbers.0, numbers.1, kept_below c.before.before.before.before.before.before.before)

pub word-requires-2 : goal.word-requires-2
word-requires-2 c =
    let numbers = limits c.before.before.before.before.before.before.before.before.before.before in
    omega (arith, numbers.0, numbers.1, kept_below c.before.before.before.before.before.before.before.before)

pub returns : goal.returns
returns c =
    link_done _ _ _ _ _ c.between-q.ensures c.held_of-held.ensures c.taken_of-taken.ensures c.sweep-kept.ensures
    c.close_up.ensures c.word.ensures c.word-2.ensures c.set_head.ensures
