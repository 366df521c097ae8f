-- The number of what is found: an entry that is named is one of the 256, answer and entry are read off the number, and a history has one number.
-- Assumes nothing.
use Prim.Native.Nat.{ℕ, ◌+◌, ◌*◌, ◌/◌, ◌%◌, ◌<◌}
use native.Mathlib.Omega.{arith}
use mathlib.Core.Path.{◌≡◌, sym, ◌∙◌, ap, subst}
use mathlib.Core.List.{List}
use Rattle.auditor.specs.Verdict.{so, not_so, first, none, Verdict}
use Rattle.auditor.specs.declared.finding.Finding.{Finding}
use Rattle.auditor.specs.declared.finding.Finding.TheVariants.{TooMany, BadLength, Refused, Circle, Low, Causal}
use Rattle.auditor.proofs.Unique.{verdict_unique}
use Rattle.judged.specs.Number.{answer_of, entry_of, number_of, Audited}

pub entry_few : {h : List ℕ} {f : Finding} → Verdict h f → entry_of f < 256
unfolding entry_of
entry_few (so p) = omega arith
entry_few (not_so p (so q)) = omega arith
entry_few (not_so p (not_so q (first a))) = let b = a.below in omega arith
entry_few (not_so p (not_so q (none x (first a)))) = let b = a.below in omega arith
entry_few (not_so p (not_so q (none x (none y (first a))))) = let b = a.below in omega arith
entry_few (not_so p (not_so q (none x (none y (none z e))))) = subst (λ (f : Finding). entry_of f < 256) (sym e) (omega arith)

answer_few : (f : Finding) → answer_of f < 6
unfolding answer_of
answer_few TooMany = omega arith
answer_few BadLength = omega arith
answer_few (Refused n) = omega arith
answer_few (Circle n) = omega arith
answer_few (Low n) = omega arith
answer_few Causal = omega arith

-- ---- reading it

pub answer_back : (f : Finding) → number_of f % 256 ≡ answer_of f
unfolding number_of
answer_back f = let a = answer_few f in omega arith

pub entry_back : (f : Finding) → number_of f / 256 ≡ entry_of f
unfolding number_of
entry_back f = let a = answer_few f in omega arith

-- ---- one number

pub audited_unique : {h : List ℕ} {a b : ℕ} → Audited h a → Audited h b → a ≡ b
audited_unique p q = p.number ∙ ap number_of (verdict_unique p.verdict q.verdict) ∙ sym q.number
