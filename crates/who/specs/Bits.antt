-- A mask of bits, one for each number below n that passes a test, and how many they are.
-- Assumes nothing.
use Rattle.std.specs.Prelude.{ℕ, zero, suc, ◌+◌, ◌*◌, ◌/◌, ◌%◌, ◌^◌, Bool, eqb}
use Rattle.loops.specs.Loops.{pick}

-- bit x of the word w is set
unfoldable pub bit_of : ℕ → ℕ → Bool
bit_of w x = eqb (w / 2 ^ x % 2) 1

-- bit x is set for each x below n that passes the test p, and no other
unfoldable pub mask_of : ℕ → (ℕ → Bool) → ℕ
mask_of zero p = 0
mask_of (suc i) p = pick (p i) 1 0 * 2 ^ i + mask_of i p

-- how many of the numbers below n pass the test p
unfoldable pub count_of : ℕ → (ℕ → Bool) → ℕ
count_of zero p = 0
count_of (suc i) p = pick (p i) 1 0 + count_of i p
