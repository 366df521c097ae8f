-- A caller's buffer, and what stands in it after a call.
-- Assumes nothing.
use Rattle.std.specs.Prelude.{ℕ, List, leb, length}
use Rattle.std.proofs.lemmas.List.Edits.{sets}
use Rattle.loops.specs.Loops.{pick}

-- the number for a buffer that is too short for the answer
abbrev pub no_room : ℕ
no_room = 100

-- what comes of a call whose answer takes n places of the buffer o: a where o has them, else b
unfoldable pub in_room : {A : Type 0} → ℕ → List ℕ → A → A → A
in_room n o a b = pick (leb n (length o)) a b

-- o with the words w at its start, where it has room for them all; else as it was
unfoldable pub filled : List ℕ → List ℕ → List ℕ
filled w o = pick (leb (length w) (length o)) (sets o 0 w) o
