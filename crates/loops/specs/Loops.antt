-- The two loops that everything here is written with, and the choice between two things.
-- Assumes nothing.
use Rattle.std.specs.Prelude.{ℕ, zero, suc, Bool, true, false, ◌&&◌}

-- f 0, then f 1, and so on up to f (n - 1), each applied to what the one before left
unfoldable pub times {ℓ} : {A : Type ℓ} → ℕ → (ℕ → A → A) → A → A
times zero f a = a
times (suc i) f a = f i (times i f a)

-- the test p passes at 0, 1, .. and n - 1
unfoldable pub every : ℕ → (ℕ → Bool) → Bool
every zero p = true
every (suc i) p = every i p && p i

-- the first where the test passes, else the second
unfoldable pub pick {ℓ} : {A : Type ℓ} → Bool → A → A → A
pick true a b = a
pick false a b = b
