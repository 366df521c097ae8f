-- `frame_writer::write_frame` meets its contract: the shared checks, then the rest.
-- Assumes nothing.
use Prim.Native.Nat.{◌<◌}
use native.Mathlib.Omega.{arith}
use mathlib.Core.Path.{◌≡◌, ◌∙◌, sym, subst, subst₃}
use Rattle.std.specs.Prelude.{Err}
use Rattle.book.specs.Layout.{counts_of}
use Rattle.book.specs.Numbers.{Depot, Shelf}
use Rattle.register.proofs.CallLaws.{bad_link, good_link, not_done}
use Rattle.register.proofs.TakeTable.{link_open}
use Rattle.frame.specs.declared.FrameRefusal.TheVariants.{Link}
use Rattle.frame.specs.Promises.{frame_number, Written}
use Rattle.frame.proofs.PromiseLaws.{refused_as, writer_bad}
use Rattle.frame_writer.proofs.write_frame.Goals as goal

pub write_at-requires : goal.write_at-requires
write_at-requires c =
    let args = c.args in
    let book = args.book.now in
    let good = good_link _ _ _ _ _ _ _ c.check_link.ensures c.in_ok-d.was in
    let done = link_open book args.depot args.shelf args.from good.0 in (
      done.0,
      subst (λ (x : Depot). x.0 < (counts_of book).depots) good.1 done.1,
      subst (λ (x : Depot). x.0 < (counts_of book).depots) good.3 done.2,
      subst (λ (x : Shelf). x.0 < (counts_of book).shelves) good.2 done.3,
    )

pub returns-in_err-d : goal.returns-in_err-d
unfolding frame_number
returns-in_err-d c =
    let bad = bad_link _ _ _ _ _ c.check_link.ensures c.in_err-d.was in
    let answer : c.from_residual.result ≡ Err (Link c.in_err-d.field-0.0) = grind arith in
    rw answer (refused_as _ _ _ _ (writer_bad _ _ _ _ _ _ (not_done _ bad) ∙ bad))

pub returns : goal.returns
returns c =
    let args = c.args in
    let call = c.write_at in
    let good = good_link _ _ _ _ _ _ _ c.check_link.ensures c.in_ok-d.was in
    subst₃ (λ (x : Depot) (y : Shelf) (z : Depot). Written args.book.now x.0 y.0 z.0 args.count args.serial args.out.now call.result call.new.out)
    (sym good.1) (sym good.2) (sym good.3) call.ensures
