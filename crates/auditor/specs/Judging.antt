-- How the auditor goes about it: what is looked for.
-- Assumes nothing.
use Rattle.std.specs.Prelude.{ℕ, ◌≡◌, ◌<◌, Bool, ◌&&◌, List}
use Rattle.chains.specs.Chain.{Grid, some}
use Rattle.entries.specs.Entries.{entries}
use Rattle.entries.specs.Rests.{lower_than}

-- the words are n entries, one of which is entry i
pub record Within (h : List ℕ) (n i : ℕ) : Type 0 where
  pub count : n ≡ entries h
  pub below : i < n

-- with G the pasts: entry j is in the past of entry i, and i is a read lower than it
unfoldable pub under : List ℕ → Grid → ℕ → ℕ → Bool
under h G i j = G i j && lower_than h i j

-- entry i is a read lower than an entry in its past
unfoldable pub low : List ℕ → Grid → ℕ → Bool
low h G i = some (entries h) (under h G i)
