-- Steps between places, and the chains of them.
-- Assumes nothing.
use Rattle.std.specs.Prelude.{ℕ, zero, suc, ◌<◌, ◌≡◌, Bool, true, false, ◌||◌}

-- which place leads to which
abbrev pub Grid : Type 0
Grid = ℕ → ℕ → Bool

-- one step of R, or several, lead from i to j, all between places below n
pub data Chain (n : ℕ) (R : Grid) : ℕ → ℕ → Type 0 where
  step : {i j : ℕ} → i < n → j < n → R i j ≡ true → Chain n R i j
  steps : {i j k : ℕ} → Chain n R i j → Chain n R j k → Chain n R i k

-- of the places below n, G says exactly which lead to which by a chain of R
pub record Closed (n : ℕ) (R G : Grid) : Type 0 where
  pub sound : (i j : ℕ) → i < n → j < n → G i j ≡ true → Chain n R i j
  pub complete : {i j : ℕ} → Chain n R i j → G i j ≡ true

-- the test p passes at one of 0, 1, .. and n - 1
unfoldable pub some : ℕ → (ℕ → Bool) → Bool
some zero p = false
some (suc i) p = some i p || p i
