-- `paper::number::number_in` meets its contract: 0, or the number of the refusal.
-- Assumes nothing.
use mathlib.Core.Path.{sym, ◌∙◌, ap}
use Rattle.std.proofs.Common.{Result}
use Rattle.paper.specs.declared.answer.Refusal.{Refusal}
use Rattle.paper.specs.Calls.{number_in}
use Rattle.paper.specs.Answers.{paper}
use Rattle.paper.proofs.number.number_in.Goals as goal

pub returns-in-Ok : goal.returns-in-Ok
unfolding number_in paper
returns-in-Ok c = sym (ap (λ (a : Result Unit Refusal). number_in (paper a)) c.in-Ok.is)

pub returns-in-Err : goal.returns-in-Err
unfolding number_in paper
returns-in-Err c = c.number_of.ensures ∙ sym (ap (λ (a : Result Unit Refusal). number_in (paper a)) c.in-Err.is)
