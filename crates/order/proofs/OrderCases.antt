-- Worked comparisons that the laws alone do not decide, each computed: that of the paper's cases (e) and (f), and one for each of the order's
-- three rules.
-- Assumes nothing.
use Prim.Native.Nat.{ℕ, zero, suc, ◌<◌}
use native.Mathlib.Omega.{arith}
use mathlib.Core.Path.{◌≡◌, ◌∙◌}
use mathlib.Core.Bool.{true, false}
use Rattle.loops.specs.Loops.{every}
use Rattle.order.specs.Vector.{Vec, agree, zeros, sum}
use Rattle.order.specs.Order.{Rank, above, leads, outweighs, above_is}
use Rattle.order.proofs.OrderLaws.{above_cong}

-- the vector (p, q) of two depots
unfoldable pub pair : ℕ → ℕ → Vec
pair p q x = elim x [ zero ↦ p | suc y ↦ elim y [ zero ↦ q | suc z ↦ 0 ] ]

-- a version with the vector (p, q) and the origin o
abbrev pub of : ℕ → ℕ → ℕ → Rank
of p q o = record { vector = pair p q; origin = o }

-- whatever has these entries has this vector
entries : (c : Rank) (p q : ℕ) → c.vector 0 ≡ p → c.vector 1 ≡ q → (x : ℕ) → x < 2 → c.vector x ≡ pair p q x
unfolding pair
entries c p q e f zero l = e
entries c p q e f (suc zero) l = f
entries c p q e f (suc (suc x)) l = absurd (omega arith)

-- ---- the sums decide, whatever the origins

-- (1, 0) against (0, 5) goes to the second
pub second_heavier : (o t : ℕ) → above 2 (of 0 5 o) (of 1 0 t) ≡ true
unfolding pair outweighs sum leads agree zeros every
second_heavier o t = above_is 2 (of 0 5 o) (of 1 0 t)

pub first_lighter : (o t : ℕ) → above 2 (of 1 0 o) (of 0 5 t) ≡ false
unfolding pair outweighs sum leads agree zeros every
first_lighter o t = above_is 2 (of 1 0 o) (of 0 5 t)

-- a sum of more than 32 bits counts whole
pub whole_sum : (o t : ℕ) → above 2 (of 1 4294967295 o) (of 2 4294967293 t) ≡ true
unfolding pair outweighs sum leads agree zeros every
whole_sum o t = above_is 2 (of 1 4294967295 o) (of 2 4294967293 t)

-- ---- equal sums go entry by entry from depot 0 on, whatever the origins

pub from_depot_0 : (o t : ℕ) → above 2 (of 3 2 o) (of 2 3 t) ≡ true
unfolding pair outweighs sum leads agree zeros every
from_depot_0 o t = above_is 2 (of 3 2 o) (of 2 3 t)

pub not_from_depot_1 : (o t : ℕ) → above 2 (of 2 3 o) (of 3 2 t) ≡ false
unfolding pair outweighs sum leads agree zeros every
not_from_depot_1 o t = above_is 2 (of 2 3 o) (of 3 2 t)

-- vector (1, 0) of depot 0 is above vector (0, 1) of depot 1
pub above_case :
    (a b : Rank) → a.vector 0 ≡ 1 → a.vector 1 ≡ 0 → a.origin ≡ 0 → b.vector 0 ≡ 0 → b.vector 1 ≡ 1 → b.origin ≡ 1 → above 2 a b ≡ true
above_case a b p q o r s t = above_cong 2 a b (of 1 0 0) (of 0 1 1) (entries a 1 0 p q) o (entries b 0 1 r s) t ∙ computed
  where
    computed : above 2 (of 1 0 0) (of 0 1 1) ≡ true
    computed = unfold pair outweighs sum leads agree zeros every in above_is 2 (of 1 0 0) (of 0 1 1)

-- ---- equal vectors go by the higher origin

pub higher_origin : above 2 (of 3 4 1) (of 3 4 0) ≡ true
unfolding pair outweighs sum leads agree zeros every
higher_origin = above_is 2 (of 3 4 1) (of 3 4 0)

pub lower_origin : above 2 (of 3 4 0) (of 3 4 1) ≡ false
unfolding pair outweighs sum leads agree zeros every
lower_origin = above_is 2 (of 3 4 0) (of 3 4 1)
