-- The line of an entry, to the byte, and how any bytes are read as one.
--   W crew bearing value diameter width origin e0 e1 e2 e3 · R likewise · R crew bearing - of a bearing that is unwritten
-- Assumes nothing.
use Rattle.std.specs.Prelude.{ℕ, ◌-◌, ◌≡◌, Bool, true, ◌&&◌, List, [], ◌∷◌, ◌++◌, leb, eqb, length, get_or, take, drop, replicate, Option, None, Some}
use Rattle.std.proofs.lemmas.List.Edits.{sets}
use Rattle.loops.specs.Loops.{pick}
use Rattle.line.specs.Grammar.{space_byte, spaced, word_sized}
use Rattle.line.specs.Reading.{numbers_in}
use Rattle.entries.specs.Entries.{entry_words}

abbrev pub write_byte : ℕ
write_byte = 87

abbrev pub read_byte : ℕ
read_byte = 82

abbrev pub dash_byte : ℕ
dash_byte = 45

abbrev pub most_numbers : ℕ
most_numbers = 10

-- ---- the grammar

-- the words of a read of an unwritten bearing, of crew c and bearing k
abbrev pub unwritten : ℕ → ℕ → List ℕ
unwritten c k = 1 ∷ c ∷ k ∷ replicate 8 0

-- the line s is in the grammar and says the entry with these words; a number is at most 4,294,967,295
pub data Says : List ℕ → List ℕ → Type 0 where
  a_write : {ns : List ℕ} → length ns ≡ most_numbers → word_sized ns ≡ true → Says (write_byte ∷ spaced ns) (0 ∷ ns)
  a_read : {ns : List ℕ} → length ns ≡ most_numbers → word_sized ns ≡ true → Says (read_byte ∷ spaced ns) (1 ∷ ns)
  an_unwritten : {c k : ℕ} → word_sized (c ∷ k ∷ []) ≡ true → Says (read_byte ∷ (spaced (c ∷ k ∷ []) ++ (space_byte ∷ dash_byte ∷ []))) (unwritten c k)

-- ---- reading

-- the words of an entry of this kind with the numbers ns, if they are so many; what is left of the eleven is 0
unfoldable pub kinded : ℕ → ℕ → Option (List ℕ) → Option (List ℕ)
kinded kind count None = None
kinded kind count (Some ns) = pick (eqb (length ns) count) (Some (sets (replicate entry_words 0) 0 (kind ∷ ns))) None

-- the line ends in a dash after a space
unfoldable pub dashed : List ℕ → Bool
dashed s = leb 3 (length s) && (eqb (get_or s (length s - 2) 0) space_byte && eqb (get_or s (length s - 1) 0) dash_byte)

-- the entry that the line of a read says
unfoldable pub read_in : List ℕ → Option (List ℕ)
read_in s = pick (dashed s) (kinded 1 2 (numbers_in 2 (drop 1 (take (length s - 2) s)))) (kinded 1 most_numbers (numbers_in most_numbers (drop 1 s)))

-- the entry that a line says, by its first byte; an empty one says none
unfoldable pub entry_in : List ℕ → Option (List ℕ)
entry_in s =
    pick (eqb (length s) 0) None
    (pick (eqb (get_or s 0 0) write_byte) (kinded 0 most_numbers (numbers_in most_numbers (drop 1 s))) (pick (eqb (get_or s 0 0) read_byte) (read_in s) None))

-- what is stored of a line that says no entry: an entry of no kind
abbrev pub bad_words : List ℕ
bad_words = 2 ∷ replicate 10 0

-- and of any line
unfoldable pub stored : Option (List ℕ) → List ℕ
stored None = bad_words
stored (Some ws) = ws
