-- A book is a list of words. A part of it is a run of words at a place.
-- Assumes nothing.
use Rattle.std.specs.Prelude.{ℕ, ◌+◌, ◌≤◌, ◌⊎◌, List, take, drop}
use Rattle.std.proofs.lemmas.List.Edits.{sets}

-- the n words of l from the place a on
unfoldable pub part : List ℕ → ℕ → ℕ → List ℕ
part l a n = take n (drop a l)

-- l, in which the words v stand from the place a on
unfoldable pub put : List ℕ → ℕ → List ℕ → List ℕ
put l a v = sets l a v

-- the n words from a on and the m words from b on have none in common
abbrev pub Apart : ℕ → ℕ → ℕ → ℕ → Type 0
Apart a n b m = (a + n ≤ b) ⊎ (b + m ≤ a)

-- the n words from a on can be copied to the place b on, one after the other: no word is written before it is read
abbrev pub Forward : ℕ → ℕ → ℕ → Type 0
Forward a b n = (b ≤ a) ⊎ (a + n ≤ b)
