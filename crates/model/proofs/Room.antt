-- Room: where it is judged to be there, every link out holds fewer than 16 messages; where the links out hold nothing, it is there.
-- Assumes nothing.
use Prim.Native.Nat.{ℕ, ◌+◌, ◌<◌}
use native.Mathlib.Omega.{arith}
use mathlib.Core.Path.{◌≡◌}
use mathlib.Core.Logic.{⊎_elim}
use mathlib.Core.Bool.{true}
use lib.Dec.{eqb}
use lib.ListN.{length}
use borrow.Author.Tests.{ltb-true, lt-ltb, eqb-true, eq-eqb}
use Rattle.loops.proofs.BoolLaws.{eq_or_ne, or_cases, or_left, or_right}
use Rattle.loops.proofs.LoopLaws.{every_at, every_intro}
use Rattle.model.specs.Parts.{Counts, State, room}
use Rattle.model.specs.Rules.{holds, roomy}
use Rattle.model.proofs.Places.{Other}

pub roomy_free : (π : Counts) (d s : ℕ) (σ : State) → roomy π d s σ ≡ true → (e : ℕ) → Other π.depots d e → length ((σ.shelf e s).taken d) + length ((σ.shelf e s).untaken d) < 16
unfolding roomy holds room
roomy_free π d s σ t e o = ⊎_elim (λ (q : eqb e d ≡ true). absurd (o.apart (eqb-true e d q))) (λ q. ltb-true _ 16 q) (or_cases (eqb e d) _ (every_at π.depots _ t e o.below))

pub roomy_clear : (π : Counts) (σ : State) (d s : ℕ) → ((e : ℕ) → Other π.depots d e → holds d (σ.shelf e s) ≡ 0) → roomy π d s σ ≡ true
unfolding roomy room
roomy_clear π σ d s none = every_intro π.depots _ (λ e he. ⊎_elim
    (λ (f : e ≡ d). or_left (eqb e d) _ (eq-eqb e d f))
    (λ (f : e ≡ d → ⊥). or_right (eqb e d) _ (let t = none e (record { below = he; apart = f }) in lt-ltb (holds d (σ.shelf e s)) room (omega arith)))
    (eq_or_ne e d))
