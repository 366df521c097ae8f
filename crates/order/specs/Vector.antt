-- Vectors over D depots. A vector is the function from a depot to its entry; a rule that reads one says how many entries count.
-- Assumes nothing.
use Rattle.std.specs.Prelude.{ℕ, zero, suc, ◌+◌, max, Bool, ◌||◌, List, leb, eqb, get_or, set}
use Rattle.loops.specs.Loops.{times, every, pick}

abbrev pub Vec : Type 0
Vec = ℕ → ℕ

-- the vector that the words w are
abbrev pub vector_in : List ℕ → Vec
vector_in w x = get_or w x 0

-- the vector that stands in the words w from the place at on
abbrev pub vector_at : List ℕ → ℕ → Vec
vector_at w at x = get_or w (at + x) 0

-- u is covered by v in all of the n entries but that of depot d
unfoldable pub covered : ℕ → ℕ → Vec → Vec → Bool
covered n d u v = every n (λ x. eqb x d || leb (u x) (v x))

-- the n entries are all 0
unfoldable pub zeros : ℕ → Vec → Bool
zeros n u = every n (λ x. eqb (u x) 0)

-- u and v agree in the n entries
unfoldable pub agree : ℕ → Vec → Vec → Bool
agree n u v = every n (λ x. eqb (u x) (v x))

-- the sum of the n entries
unfoldable pub sum : ℕ → Vec → ℕ
sum zero u = 0
sum (suc i) u = sum i u + u i

-- the entrywise maximum
unfoldable pub merged : Vec → Vec → Vec
merged u v x = max (u x) (v x)

-- the words l, in which the entry of depot x, unless x is d, has become the larger of itself and v
unfoldable pub merge_one : ℕ → ℕ → ℕ → ℕ → List ℕ → List ℕ
merge_one d at x v l = pick (eqb x d) l (set l (at + x) (max (get_or l (at + x) 0) v))

-- the same for each of the n entries from the place at on, with the entries of u
unfoldable pub merged_at : ℕ → ℕ → Vec → ℕ → List ℕ → List ℕ
merged_at n d u at l = times n (λ x m. merge_one d at x (u x) m) l
