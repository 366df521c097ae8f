-- Facts about tests that every crate uses: a test passes or fails, and what a passed or failed `&&` and `||` say.
-- Assumes nothing.
use Prim.Native.Nat.{ℕ, ◌≤◌, ◌<◌}
use mathlib.Core.Path.{◌≡◌, refl, sym}
use mathlib.Core.Logic.{◌⊎◌, inl, inr, ⊎_elim}
use mathlib.Core.Bool.{Bool, true, false, ◌&&◌, ◌||◌, not, true≢false, false≢true}
use lib.Dec.{leb, eqb}
use borrow.Author.Tests.{leb-true, leb-false, eqb-true, eqb-false}
use Rattle.loops.specs.Loops.{pick}

pub decided : (b : Bool) → (b ≡ true) ⊎ (b ≡ false)
decided true = inl refl
decided false = inr refl

-- a test that is not passed has failed, and one that has not failed is passed
pub failed : (b : Bool) → (b ≡ true → ⊥) → b ≡ false
failed true h = absurd (h refl)
failed false h = refl

pub passed : (b : Bool) → (b ≡ false → ⊥) → b ≡ true
passed true h = refl
passed false h = absurd (h refl)

pub both_ways : {b : Bool} → b ≡ true → b ≡ false → ⊥
both_ways {b = true} p q = true≢false q
both_ways {b = false} p q = false≢true p

-- two tests that pass together are the same test
pub together : (a b : Bool) → (a ≡ true → b ≡ true) → (b ≡ true → a ≡ true) → a ≡ b
together true b f g = sym (f refl)
together false true f g = g refl
together false false f g = refl

pub and_left : (a b : Bool) → a && b ≡ true → a ≡ true
and_left true b h = refl
and_left false b h = h

pub and_right : (a b : Bool) → a && b ≡ true → b ≡ true
and_right true b h = h
and_right false b h = absurd (false≢true h)

pub and_intro : {a b : Bool} → a ≡ true → b ≡ true → a && b ≡ true
and_intro {a = true} p q = q
and_intro {a = false} p q = p

pub or_cases : (a b : Bool) → a || b ≡ true → (a ≡ true) ⊎ (b ≡ true)
or_cases true b h = inl refl
or_cases false b h = inr h

pub or_left : (a b : Bool) → a ≡ true → a || b ≡ true
or_left true b h = refl
or_left false b h = absurd (false≢true h)

pub or_right : (a b : Bool) → b ≡ true → a || b ≡ true
or_right true b h = refl
or_right false b h = h

pub not_passed : {b : Bool} → not b ≡ true → b ≡ false
not_passed {b = true} h = absurd (false≢true h)
not_passed {b = false} h = refl

pub not_failed : {b : Bool} → b ≡ false → not b ≡ true
not_failed {b = true} h = absurd (true≢false h)
not_failed {b = false} h = refl

-- a chain of tests, one after the other: go on, or stop
pub and_next : {a : Bool} (b : Bool) → a ≡ true → a && b ≡ b
and_next {a = true} b h = refl
and_next {a = false} b h = absurd (false≢true h)

pub and_stop : {a : Bool} (b : Bool) → a ≡ false → a && b ≡ false
and_stop {a = true} b h = absurd (true≢false h)
and_stop {a = false} b h = refl

pub or_next : {a : Bool} (b : Bool) → a ≡ false → a || b ≡ b
or_next {a = true} b h = absurd (true≢false h)
or_next {a = false} b h = refl

pub or_stop : {a : Bool} (b : Bool) → a ≡ true → a || b ≡ true
or_stop {a = true} b h = refl
or_stop {a = false} b h = absurd (false≢true h)

-- what a branch on `!r` tells of the test that r is
pub test_passed : {r b : Bool} → r ≡ b → not r ≡ false → b ≡ true
test_passed {r = true} e h = sym e
test_passed {r = false} e h = absurd (true≢false h)

pub test_failed : {r b : Bool} → r ≡ b → not r ≡ true → b ≡ false
test_failed {r = true} e h = absurd (false≢true h)
test_failed {r = false} e h = sym e

-- two numbers in order, one way or the other
pub le_or_lt : (a b : ℕ) → (a ≤ b) ⊎ (b < a)
le_or_lt a b = ⊎_elim (λ (e : leb a b ≡ true). inl (leb-true a b e)) (λ (e : leb a b ≡ false). inr (leb-false a b e)) (decided (leb a b))

pub eq_or_ne : (a b : ℕ) → (a ≡ b) ⊎ (a ≡ b → ⊥)
eq_or_ne a b = ⊎_elim (λ (e : eqb a b ≡ true). inl (eqb-true a b e)) (λ (e : eqb a b ≡ false). inr (eqb-false a b e)) (decided (eqb a b))

-- what a choice comes to
pub pick_true {ℓ} : {A : Type ℓ} {b : Bool} (x y : A) → b ≡ true → pick b x y ≡ x
unfolding pick
pick_true {b = true} x y e = refl
pick_true {b = false} x y e = absurd (false≢true e)

pub pick_false {ℓ} : {A : Type ℓ} {b : Bool} (x y : A) → b ≡ false → pick b x y ≡ y
unfolding pick
pick_false {b = true} x y e = absurd (true≢false e)
pick_false {b = false} x y e = refl
