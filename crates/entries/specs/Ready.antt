-- What the routines on entries ask of their callers.
-- Assumes nothing.
use Rattle.std.specs.Prelude.{ℕ, ◌+◌, ◌*◌, ◌≤◌, ◌≡◌, List, length}
use Rattle.chains.specs.Table.{most_rows, table_words}
use Rattle.entries.specs.Entries.{entry_words, entries}

-- the words have entries i and j
pub record Both (h : List ℕ) (i j : ℕ) : Type 0 where
  pub one : i * entry_words + entry_words ≤ length h
  pub other : j * entry_words + entry_words ≤ length h

-- the words are n entries, and t is a table for them
pub record Ready (h : List ℕ) (n : ℕ) (t : List ℕ) : Type 0 where
  pub count : n ≡ entries h
  pub few : n ≤ most_rows
  pub sized : length t ≡ table_words
