-- `register::calls::take::take` meets its contract: the shared checks, then the rest.
-- Assumes nothing.
use Prim.Native.Nat.{◌<◌}
use native.Mathlib.Omega.{arith}
use mathlib.Core.Path.{◌≡◌, ◌∙◌, sym, subst, subst₃}
use Rattle.std.specs.Prelude.{Err}
use Rattle.book.specs.Layout.{counts_of}
use Rattle.book.specs.Numbers.{Depot, Shelf}
use Rattle.paper.specs.Answers.{paper}
use Rattle.register.specs.Promises.{Take}
use Rattle.register.proofs.CallLaws.{bad_link, good_link, not_done, by_refusal, after_refused}
use Rattle.register.proofs.TakeTable.{link_open}
use Rattle.register.proofs.SendTable.{take_bad}
use Rattle.take.proofs.take.Goals as goal

pub take_at-requires : goal.take_at-requires
take_at-requires c =
    let args = c.args in
    let book = args.book.now in
    let good = good_link _ _ _ _ _ _ _ c.check_link.ensures c.in_ok-d.was in
    let done = link_open book args.depot args.shelf args.from good.0 in (
      done.0,
      subst (λ (x : Depot). x.0 < (counts_of book).depots) good.1 done.1,
      subst (λ (x : Depot). x.0 < (counts_of book).depots) good.3 done.2,
      subst (λ (x : Shelf). x.0 < (counts_of book).shelves) good.2 done.3,
    )

pub returns-in_err-d : goal.returns-in_err-d
unfolding paper
returns-in_err-d c =
    let bad = bad_link _ _ _ _ _ c.check_link.ensures c.in_err-d.was in
    let e = take_bad _ _ _ _ (not_done _ bad) ∙ bad in
    let answer : c.from_residual.result ≡ Err c.in_err-d.field-0.0 = grind arith in
    rw answer (record { answer = by_refusal _ _ e; book = after_refused _ _ _ e })

pub returns : goal.returns
returns c =
    let call = c.take_at in
    let book = c.args.book.now in
    let good = good_link _ _ _ _ _ _ _ c.check_link.ensures c.in_ok-d.was in
    subst₃ (λ (x : Depot) (y : Shelf) (z : Depot). Take book x.0 y.0 z.0 call.result call.new.book) (sym good.1) (sym good.2) (sym good.3) call.ensures
