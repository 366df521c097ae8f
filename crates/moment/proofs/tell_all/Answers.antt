-- `moment::tell_all` meets its contract: the loop's invariant is that the words tell of the bearings so far.
-- Assumes nothing.
use Prim.Native.Nat.{ℕ, ◌<◌, ◌*◌}
use native.Mathlib.Nat.{lt_of_lt_of_le}
use native.Mathlib.Omega.{arith}
use mathlib.Core.Path.{◌∙◌, sym, ap, subst}
use mathlib.Core.List.{List}
use lib.ListN.{length, length-replicate}
use Rattle.book.specs.Words.{put}
use Rattle.book.specs.Layout.{stored}
use Rattle.named.proofs.NamedLaws.{below_at}
use Rattle.paper.specs.Answers.{told_words}
use Rattle.register.specs.Answers.{told}
use Rattle.register.proofs.ListTable.{list_size_in}
use Rattle.moment.proofs.MomentLaws.{page_none, page_more, page_done}
use Rattle.moment.proofs.tell_all.Goals as goal

pub loop-i-init : goal.loop-i-init
loop-i-init c = c.requires.6 ∙ page_none (λ k. told c.args.n.depots (stored c.args.book.now c.args.d.0 k)) c.args.bearings.now

pub bearing_at-k-requires : goal.bearing_at-k-requires
bearing_at-k-requires c = (c.loop-i-test.true, c.requires.5)

pub overflow_mul-i : goal.overflow_mul-i
overflow_mul-i c =
    let most = (list_size_in _ c.requires.4).1 in
    let less = c.loop-i-test.true in
    omega (arith, most, less)

pub tell_one-requires : goal.tell_one-requires
tell_one-requires c =
    let most = (list_size_in _ c.requires.4).1 in
    let less = c.loop-i-test.true in
    let size = c.loop-i.auto.words ∙ ap (λ (w : List ℕ). length w) c.requires.6 ∙ length-replicate {A = ℕ} 64 0 in (
      c.requires.0,
      c.requires.1,
      c.requires.3,
      subst (λ (k : ℕ). k < 160) (sym c.bearing_at-k.ensures) (lt_of_lt_of_le (below_at _ _ c.requires.5 _ c.loop-i-test.true) c.requires.2),
      omega (arith, most, less, size),
    )

pub loop-i-preserved : goal.loop-i-preserved
loop-i-preserved c =
    let loop = c.loop-i in
    let args = c.args in
    page_more _ _ loop.i c.loop-i-test.true (list_size_in _ c.requires.4).1 loop.invariant
    (c.tell_one.ensures ∙ ap (λ (k : ℕ). put loop.words (8 * loop.i) (told_words (told args.n.depots (stored args.book.now args.d.0 k)))) c.bearing_at-k.ensures)

pub returns : goal.returns
returns c = page_done _ _ _ c.loop-i-test.false c.loop-i.invariant
