-- A history as words: eleven an entry, at most 256 entries, each crew's in its own order.
--   0 kind: 0 a write, 1 a read · 1 crew · 2 .. 10 the version record: 2 bearing · 3 value · 4, 5 card · 6 origin · 7 .. 10 the vector
-- Assumes nothing.
use Rattle.std.specs.Prelude.{ℕ, ◌+◌, ◌*◌, ◌/◌, Bool, ◌&&◌, not, List, ltb, eqb, length, get_or}
use Rattle.order.specs.Vector.{Vec, vector_at, agree}
use Rattle.order.specs.Order.{Rank}

abbrev pub entry_words : ℕ
entry_words = 11

abbrev pub most_entries : ℕ
most_entries = 256

-- how many entries the words are
abbrev pub entries : List ℕ → ℕ
entries h = length h / entry_words

abbrev pub kind : List ℕ → ℕ → ℕ
kind h i = get_or h (i * entry_words) 0

abbrev pub crew : List ℕ → ℕ → ℕ
crew h i = get_or h (i * entry_words + 1) 0

abbrev pub bearing : List ℕ → ℕ → ℕ
bearing h i = get_or h (i * entry_words + 2) 0

abbrev pub origin : List ℕ → ℕ → ℕ
origin h i = get_or h (i * entry_words + 6) 0

abbrev pub vector : List ℕ → ℕ → Vec
vector h i = vector_at h (i * entry_words + 7)

-- its origin's entry
abbrev pub stamp : List ℕ → ℕ → ℕ
stamp h i = vector h i (origin h i)

-- what the order looks at
abbrev pub rank : List ℕ → ℕ → Rank
rank h i = record { vector = vector h i; origin = origin h i }

abbrev pub is_write : List ℕ → ℕ → Bool
is_write h i = eqb (kind h i) 0

abbrev pub is_read : List ℕ → ℕ → Bool
is_read h i = eqb (kind h i) 1

-- entry j is a write of the version that entry i has: the same bearing, and words 6 to 10, origin and vector
unfoldable pub wrote : List ℕ → ℕ → ℕ → Bool
wrote h i j = is_write h j && (eqb (bearing h i) (bearing h j) && agree 5 (vector_at h (i * entry_words + 6)) (vector_at h (j * entry_words + 6)))

-- and with its value and card: the whole record, words 2 to 10
unfoldable pub source : List ℕ → ℕ → ℕ → Bool
source h i j = is_write h j && agree 9 (vector_at h (i * entry_words + 2)) (vector_at h (j * entry_words + 2))

-- entry j is another write of the version that entry i has
unfoldable pub twin : List ℕ → ℕ → ℕ → Bool
twin h i j = not (eqb i j) && wrote h i j

-- entry j is an earlier one of entry i's crew
unfoldable pub earlier : List ℕ → ℕ → ℕ → Bool
earlier h i j = ltb j i && eqb (crew h i) (crew h j)
