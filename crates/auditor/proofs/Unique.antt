-- The verdict settles the answer: no history has two, and so the promise of `audit` leaves one.
-- Assumes nothing.
use Prim.Native.Nat.{ℕ, ◌≤◌, ◌<◌}
use native.Mathlib.Omega.{arith}
use mathlib.Core.Path.{◌≡◌, refl, sym, ◌∙◌, ap}
use mathlib.Core.Logic.{⊎_elim}
use mathlib.Core.List.{List}
use Rattle.loops.specs.Settled.{Settled}
use Rattle.loops.proofs.BoolLaws.{le_or_lt}
use Rattle.auditor.specs.Verdict.{If, so, not_so, First, Names, first, none, Verdict}
use Rattle.auditor.specs.declared.finding.Finding.{Finding}
use Rattle.auditor.proofs.audit.audit.Kinds as kinds
use Rattle.auditor.proofs.audit.audit.Reads as audit

-- a relation that leaves one answer
abbrev pub One : {A : Type 0} → (A → Type 0) → Type 0
One {A} R = (f g : A) → R f → R g → f ≡ g

pub if_one : {A : Type 0} {P : Type 0} {x : A} {R : A → Type 0} → One R → One (If P x R)
if_one one f g (so p) (so q) = refl
if_one one f g (so p) (not_so q r) = absurd (q p)
if_one one f g (not_so p r) (so q) = absurd (p q)
if_one one f g (not_so p r) (not_so q t) = one _ _ r t

first_same : {n : ℕ} {P : ℕ → Type 0} {i j : ℕ} → First n P i → First n P j → i ≡ j
first_same {n} {P} {i} {j} a b =
    ⊎_elim
    (λ (l : i ≤ j). ⊎_elim (λ (m : j ≤ i). omega arith) (λ (m : i < j). absurd (b.before i m a.here)) (le_or_lt j i))
    (λ (l : j < i). absurd (a.before j l b.here))
    (le_or_lt i j)

pub names_one : {A : Type 0} {n : ℕ} {P : ℕ → Type 0} {x : ℕ → A} {R : A → Type 0} → One R → One (Names n P x R)
names_one {x = x} one f g (first a) (first b) = ap x (first_same a b)
names_one one f g (first a) (none b r) = absurd (b _ a.below a.here)
names_one one f g (none a r) (first b) = absurd (a _ b.below b.here)
names_one one f g (none a r) (none b t) = one _ _ r t

pub verdict_unique : {h : List ℕ} {f g : Finding} → Verdict h f → Verdict h g → f ≡ g
verdict_unique p q = if_one (if_one (names_one (names_one (names_one (λ f g a b. a ∙ sym b))))) _ _ p q

pub audit_unique : Settled 1 kinds.ps kinds.r audit.Learnt
audit_unique κs args one other end end' p q = verdict_unique p q
