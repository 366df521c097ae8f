-- What a checking function's answer says of the number: it is below its count where there is one, and not where there is none.
-- Assumes nothing.
use Prim.Native.Nat.{ℕ, ◌≤◌, ◌<◌}
use native.Mathlib.Omega.{arith}
use mathlib.Core.Path.{◌≡◌, ◌∙◌, sym}
use lib.Dec.{ltb}
use borrow.Author.Tests.{ltb-true, ltb-false}
use Rattle.std.specs.Prelude.{Option, Some, None}
use Rattle.loops.specs.Loops.{pick}
use Rattle.register.proofs.TableLaws.{chose_first, chose_second}

pub good_number : {A : Type 0} {number count : ℕ} {r : Option A} {a : A} (x : A) → r ≡ pick (ltb number count) (Some a) None → r ≡ Some x → (number < count) × (a ≡ x)
good_number {a = a} x p q =
    let h = chose_first (Some a) None (Some x) (λ e. let z : ◌≡◌ {A = ℕ} 0 1 = cc in omega arith) (sym p ∙ q) in
    let e = h.1 in
    (ltb-true _ _ h.0, cc)

pub bad_number : {A : Type 0} {number count : ℕ} {r : Option A} (a : A) → r ≡ pick (ltb number count) (Some a) None → r ≡ None → count ≤ number
bad_number a p q =
    let h = chose_second (Some a) None None (λ e. let z : ◌≡◌ {A = ℕ} 0 1 = cc in omega arith) (sym p ∙ q) in
    ltb-false _ _ h.0
