-- The rule of a table in which each entry is the one before plus something: one test that antt computes over the whole table, and one law
-- that turns it into the rule at each entry.
-- Assumes nothing.
use Prim.Native.Nat.{ℕ, zero, suc, ◌+◌, ◌<◌}
use native.Mathlib.Nat.{add-zero, zero-add, add-suc, suc-add, le_of_suc-le-suc, not-suc-le-zero}
use mathlib.Core.Path.{◌≡◌, ◌∙◌, subst, sym}
use mathlib.Core.Bool.{Bool, true, false}
use mathlib.Core.List.{List, [], ◌∷◌}
use lib.Dec.{T, eqb, eqb→eq}
use lib.ListN.{length, get_or}

abbrev pub both : Bool → Bool → Bool
both true b = b
both false b = false

both_left : (a b : Bool) → T (both a b) → T a
both_left true b t = tt
both_left false b t = t

both_right : (a b : Bool) → T (both a b) → T b
both_right true b t = t
both_right false b t = absurd t

-- the entries l, which follow the entry x of the place i, are each the one before plus what f says of its place
abbrev pub rises : (ℕ → ℕ) → ℕ → ℕ → List ℕ → Bool
rises f i x [] = true
rises f i x (y ∷ l) = both (eqb y (x + f i)) (rises f (suc i) y l)

from : (f : ℕ → ℕ) (l : List ℕ) (i x : ℕ) → T (rises f i x l) → (k : ℕ) → k < length l → get_or l k 0 ≡ get_or (x ∷ l) k 0 + f (i + k)
from f [] i x t k h = absurd (not-suc-le-zero h)
from f (y ∷ l) i x t zero h =
    subst (λ (m : ℕ). y ≡ x + f m) (sym (add-zero i)) (eqb→eq y (x + f i) (both_left (eqb y (x + f i)) (rises f (suc i) y l) t))
from f (y ∷ l) i x t (suc k) h =
    subst (λ (m : ℕ). get_or l k 0 ≡ get_or (y ∷ l) k 0 + f m) (suc-add i k ∙ sym (add-suc i k))
    (from f l (suc i) y (both_right (eqb y (x + f i)) (rises f (suc i) y l) t) k (le_of_suc-le-suc h))

-- the rule at each entry
pub rule_at : (f : ℕ → ℕ) (x : ℕ) (l : List ℕ) → T (rises f 0 x l) → (k : ℕ) → k < length l → get_or l k 0 ≡ get_or (x ∷ l) k 0 + f k
rule_at f x l t k h = subst (λ (m : ℕ). get_or l k 0 ≡ get_or (x ∷ l) k 0 + f m) (zero-add k) (from f l 0 x t k h)
