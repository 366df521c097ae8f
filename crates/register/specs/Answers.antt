-- What a read and a write answer where they are done, on paper.
-- Assumes nothing.
use Rattle.std.specs.Prelude.{ℕ, Bool, List, [], ◌∷◌, ltb, take}
use Rattle.loops.specs.Loops.{pick}
use Rattle.order.specs.Vector.{Vec, zeros}
use Rattle.order.specs.Record.{value_of, diameter_of, width_of, vector_of}
use Rattle.paper.specs.declared.answer.Payload.{Payload}
use Rattle.paper.specs.Calls.{Told, read_value, read_unwritten, Answer, current, superseded}

-- the first n entries of a vector, in room for four
unfoldable pub cut : ℕ → Vec → List ℕ
cut n v = pick (ltb 0 n) (v 0) 0 ∷ pick (ltb 1 n) (v 1) 0 ∷ pick (ltb 2 n) (v 2) 0 ∷ pick (ltb 3 n) (v 3) 0 ∷ []

-- what a record holds of its bearing: the value and the card
abbrev pub payload_of : List ℕ → Payload
payload_of r = record { value = value_of r; diameter = diameter_of r; width = width_of r }

-- what a read tells of the stored record r, with n depots: its payload, or that it is unwritten, and the entries of its vector
unfoldable pub told : ℕ → List ℕ → Told
told n r =
    pick (zeros n (vector_of r)) (read_unwritten (take n (cut n (vector_of r)))) (read_value (payload_of r) (take n (cut n (vector_of r))))

-- what a write answers: the stamp, and whether the version is greater than what was there
unfoldable pub written : ℕ → Bool → Answer
written stamp greater = pick greater (current stamp) (superseded stamp)
