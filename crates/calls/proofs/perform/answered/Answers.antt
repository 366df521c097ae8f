-- `calls::perform::answered` meets its contract: done, or the refusal.
-- Assumes nothing.
use mathlib.Core.Path.{sym, ap}
use Rattle.paper.specs.Answers.{paper}
use Rattle.request.specs.Replies.{paper_reply, on_paper, Carries}
use Rattle.calls.proofs.perform.answered.Goals as goal

pub returns-in-Ok : goal.returns-in-Ok
unfolding paper paper_reply on_paper Carries
returns-in-Ok c = (sym (ap paper c.in-Ok.is), tt)

pub returns-in-Err : goal.returns-in-Err
unfolding paper on_paper Carries
returns-in-Err c = (sym (ap paper c.in-Err.is), tt)
