-- `judged::number_of` meets its contract: a number for each answer.
-- Assumes nothing.
use Prim.Native.Nat.{◌<◌}
use native.Mathlib.Omega.{arith}
use mathlib.Core.Path.{refl, subst}
use Rattle.auditor.specs.declared.finding.Finding.{Finding}
use Rattle.judged.specs.Number.{answer_of, entry_of, number_of}
use Rattle.judged.proofs.number_of.Goals as goal

pub overflow_mul-result : goal.overflow_mul-result
unfolding entry_of
overflow_mul-result c = let e = subst (λ (f : Finding). entry_of f < 256) c.in-Refused.is c.requires in omega (arith, e)

pub overflow_add-result : goal.overflow_add-result
unfolding entry_of
overflow_add-result c = let e = subst (λ (f : Finding). entry_of f < 256) c.in-Refused.is c.requires in omega (arith, e)

pub overflow_mul-result-in-Circle : goal.overflow_mul-result-in-Circle
unfolding entry_of
overflow_mul-result-in-Circle c = let e = subst (λ (f : Finding). entry_of f < 256) c.in-Circle.is c.requires in omega (arith, e)

pub overflow_add-result-in-Circle : goal.overflow_add-result-in-Circle
unfolding entry_of
overflow_add-result-in-Circle c = let e = subst (λ (f : Finding). entry_of f < 256) c.in-Circle.is c.requires in omega (arith, e)

pub overflow_mul-result-in-Low : goal.overflow_mul-result-in-Low
unfolding entry_of
overflow_mul-result-in-Low c = let e = subst (λ (f : Finding). entry_of f < 256) c.in-Low.is c.requires in omega (arith, e)

pub overflow_add-result-in-Low : goal.overflow_add-result-in-Low
unfolding entry_of
overflow_add-result-in-Low c = let e = subst (λ (f : Finding). entry_of f < 256) c.in-Low.is c.requires in omega (arith, e)

pub returns-in-Causal : goal.returns-in-Causal
unfolding number_of answer_of entry_of
returns-in-Causal c = rw c.in-Causal.is refl

pub returns-in-TooMany : goal.returns-in-TooMany
unfolding number_of answer_of entry_of
returns-in-TooMany c = rw c.in-TooMany.is refl

pub returns-in-BadLength : goal.returns-in-BadLength
unfolding number_of answer_of entry_of
returns-in-BadLength c = rw c.in-BadLength.is refl

pub returns-in-Refused : goal.returns-in-Refused
unfolding number_of answer_of entry_of
returns-in-Refused c = rw c.in-Refused.is refl

pub returns-in-Circle : goal.returns-in-Circle
unfolding number_of answer_of entry_of
returns-in-Circle c = rw c.in-Circle.is refl

pub returns-in-Low : goal.returns-in-Low
unfolding number_of answer_of entry_of
returns-in-Low c = rw c.in-Low.is refl
