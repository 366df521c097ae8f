-- `register::calls::read::read` meets its contract: the shared checks, then the rest.
-- Assumes nothing.
use Prim.Native.Nat.{◌<◌}
use native.Mathlib.Omega.{arith}
use mathlib.Core.Path.{◌≡◌, ◌∙◌, sym, subst, subst₂}
use Rattle.std.specs.Prelude.{Err}
use Rattle.book.specs.Layout.{counts_of}
use Rattle.book.specs.Numbers.{Crew, Bearing}
use Rattle.paper.specs.Answers.{paper_read}
use Rattle.register.specs.Promises.{Read}
use Rattle.register.proofs.CallLaws.{bad_asked, good_asked, not_done, by_refusal, after_refused}
use Rattle.register.proofs.SendTable.{read_bad}
use Rattle.register.proofs.Numbers.{asked_done}
use Rattle.read.proofs.read.Goals as goal

pub read_at-requires : goal.read_at-requires
read_at-requires c =
    let args = c.args in
    let book = args.book.now in
    let good = good_asked _ _ _ _ _ c.check_asked.ensures c.in_ok-c.was in
    let done = asked_done book args.crew args.bearing good.0 in (
      done.0,
      subst (λ (x : Crew). x.0 < (counts_of book).crews) good.1 done.1,
      subst (λ (x : Bearing). x.0 < (counts_of book).bearings) good.2 done.2,
    )

pub returns-in_err-c : goal.returns-in_err-c
unfolding paper_read
returns-in_err-c c =
    let bad = bad_asked _ _ _ _ c.check_asked.ensures c.in_err-c.was in
    let e = read_bad _ _ _ (not_done _ bad) ∙ bad in
    let answer : c.from_residual.result ≡ Err c.in_err-c.field-0.0 = grind arith in
    rw answer (record { answer = by_refusal _ _ e; holds = tt; book = after_refused _ _ _ e })

pub returns : goal.returns
returns c =
    let call = c.read_at in
    let book = c.args.book.now in
    let good = good_asked _ _ _ _ _ c.check_asked.ensures c.in_ok-c.was in
    subst₂ (λ (x : Crew) (y : Bearing). Read book x.0 y.0 call.result call.new.book) (sym good.1) (sym good.2) call.ensures
