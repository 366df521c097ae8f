-- The choice that a test of two numbers makes.
-- Assumes nothing.
use Prim.Native.Nat.{ℕ, ◌≤◌, ◌<◌}
use mathlib.Core.Path.{◌≡◌, sym}
use lib.Dec.{ltb}
use borrow.Author.Tests.{lt-ltb, le-ltb}
use Rattle.loops.specs.Loops.{pick}
use Rattle.loops.proofs.BoolLaws.{pick_true, pick_false}

pub below {ℓ} : {A : Type ℓ} {a b : ℕ} (x y : A) → a < b → x ≡ pick (ltb a b) x y
below x y h = sym (pick_true x y (lt-ltb _ _ h))

pub not_below {ℓ} : {A : Type ℓ} {a b : ℕ} (x y : A) → b ≤ a → y ≡ pick (ltb a b) x y
not_below x y h = sym (pick_false x y (le-ltb _ _ h))
