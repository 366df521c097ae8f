-- `script::repeated` meets its contract. The loop's invariant: the runs so far left this book, and all of them passed exactly if the test so far says so.
-- Assumes nothing.
use Rattle.script.proofs.ScriptLaws.{exactly_taken, exactly_left, rerun_start, rerun_more, rerun_done}
use Rattle.script.proofs.repeated.Goals as goal
use Rattle.script.proofs.repeated.Goals.{then-runs, else-runs}

pub times-init : goal.times-init
times-init c = rerun_start _ _

pub times-preserved : goal.times-preserved
times-preserved c =
    let call = c.runs in
    rerun_more c.times.invariant call.ensures.book_after
    (elim c.if-runs.branch [
      | then-runs w ↦ exactly_taken call.ensures.exactly w.if-runs.true w.good-is
      | else-runs w ↦ exactly_left call.ensures.exactly w.if-runs.false w.good-is
    ])

pub returns : goal.returns
returns c =
    let done = rerun_done c.times.auto.counter-end c.times-test.false c.times.invariant in
    record { book_after = done.book; exactly = done.runs }
