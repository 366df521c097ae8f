-- `register::calls::refresh::refresh` meets its contract: the shared checks, then the rest.
-- Assumes nothing.
use Prim.Native.Nat.{◌<◌}
use native.Mathlib.Omega.{arith}
use mathlib.Core.Path.{◌≡◌, ◌∙◌, sym, subst, subst₂}
use Rattle.std.specs.Prelude.{Err}
use Rattle.book.specs.Layout.{counts_of}
use Rattle.book.specs.Numbers.{Depot, Shelf}
use Rattle.paper.specs.Answers.{paper}
use Rattle.register.specs.Promises.{Refresh}
use Rattle.register.proofs.CallLaws.{bad_place, good_place, not_done, by_refusal, after_refused}
use Rattle.register.proofs.Numbers.{place_done}
use Rattle.register.proofs.SendTable.{refresh_bad}
use Rattle.refresh.proofs.refresh.Goals as goal

pub refresh_at-requires : goal.refresh_at-requires
refresh_at-requires c =
    let args = c.args in
    let book = args.book.now in
    let good = good_place _ _ _ _ _ c.check_place.ensures c.in_ok-d.was in
    let done = place_done book args.depot args.shelf good.0 in (
      done.0,
      subst (λ (x : Depot). x.0 < (counts_of book).depots) good.1 done.1,
      subst (λ (x : Shelf). x.0 < (counts_of book).shelves) good.2 done.2,
    )

pub returns-in_err-d : goal.returns-in_err-d
unfolding paper
returns-in_err-d c =
    let bad = bad_place _ _ _ _ c.check_place.ensures c.in_err-d.was in
    let e = refresh_bad _ _ _ (not_done _ bad) ∙ bad in
    let answer : c.from_residual.result ≡ Err c.in_err-d.field-0.0 = grind arith in
    rw answer (record { answer = by_refusal _ _ e; book = after_refused _ _ _ e })

pub returns : goal.returns
returns c =
    let call = c.refresh_at in
    let book = c.args.book.now in
    let good = good_place _ _ _ _ _ c.check_place.ensures c.in_ok-d.was in
    subst₂ (λ (x : Depot) (y : Shelf). Refresh book x.0 y.0 call.result call.new.book) (sym good.1) (sym good.2) call.ensures
