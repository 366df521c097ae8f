-- How bytes go out: a run of stores from a place on, and the place after it.
-- Assumes nothing.
use Rattle.std.specs.Prelude.{ℕ, ◌+◌, ◌≤◌, ◌≡◌, List, length}
use Rattle.std.proofs.lemmas.List.Edits.{sets}

-- the bytes have room in the output o from the place at on
pub record Room (o : List ℕ) (at : ℕ) (bytes : List ℕ) : Type 0 where
  pub room : at + length bytes ≤ length o

-- the output o has become o', with the bytes from the place at on and nothing else changed, and next is the place after them
pub record Wrote (o : List ℕ) (at : ℕ) (bytes : List ℕ) (o' : List ℕ) (next : ℕ) : Type 0 where
  pub stored : o' ≡ sets o at bytes
  pub after : next ≡ at + length bytes
