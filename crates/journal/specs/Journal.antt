-- A journal is the records of a history, and recovery replays bytes one by one from a book on.
-- Assumes nothing.
use Rattle.std.specs.Prelude.{ℕ, suc, ◌+◌, ◌-◌, ◌<◌, ◌≡◌, List, [], ◌∷◌, ◌++◌, eqb, leb, length, take, replicate}
use Rattle.std.proofs.Math.Option.{Option, some}
use Rattle.loops.specs.Loops.{pick}
use Rattle.book.specs.Layout.{book_words}
use Rattle.upkeep.specs.Requests.{Request, number_at, book_after, last}
use Rattle.wire.specs.Wire.{word_limit, Below}
use Rattle.journal.specs.declared.record.Kind.{Kind}
use Rattle.journal.specs.declared.recover.Fault.{Fault}
use Rattle.journal.specs.declared.recover.Fault.TheVariants.{Fine, Refused, Strange}
use Rattle.journal.specs.Record.{kind_of, numbers_of, record_bytes, Piece, begun, strange, whole, size, piece}

-- ---- the journal

-- the records of requests, one after the other
unfoldable pub journal : List Request → List ℕ
journal [] = []
journal (r ∷ rs) = record_bytes r ++ journal rs

-- a history from the book l on: requests that were done, one after the other; their numbers are words
pub data Done : List ℕ → List Request → Type 0 where
  none : {l : List ℕ} → Done l []
  more : {l : List ℕ} {r : Request} {rs : List Request} → Below word_limit (numbers_of r) → number_at l r ≡ 0 → Done (book_after l r) rs → Done l (r ∷ rs)

-- of the first m bytes of a journal: how many records are whole, and the bytes behind them
unfoldable pub whole_in : ℕ → List Request → ℕ
whole_in m [] = 0
whole_in m (r ∷ rs) = pick (leb (length (record_bytes r)) m) (suc (whole_in (m - length (record_bytes r)) rs)) 0

unfoldable pub rest_in : ℕ → List Request → List ℕ
rest_in m [] = []
rest_in m (r ∷ rs) = pick (leb (length (record_bytes r)) m) (rest_in (m - length (record_bytes r)) rs) (take m (record_bytes r))

-- ---- recovery

-- the book, how many records were done and how many bytes they have, the bytes of the record that is not done, and the fault
pub record Recovered : Type 0 where
  pub book : List ℕ
  pub done : ℕ
  pub bytes : ℕ
  pub rest : List ℕ
  pub fault : Fault

-- n records of m bytes are done; of the next one the bytes p are there
abbrev pub within : List ℕ → ℕ → ℕ → List ℕ → Recovered
within l n m p = record { book = l; done = n; bytes = m; rest = p; fault = Fine }

-- and these bytes are the fault e
abbrev pub stopped : List ℕ → ℕ → ℕ → List ℕ → Fault → Recovered
stopped l n m p e = record { book = l; done = n; bytes = m; rest = p; fault = e }

-- without an image recovery starts from the book of zeros
abbrev pub zero_book : List ℕ
zero_book = replicate book_words 0

-- before the first byte
abbrev pub start : List ℕ → Recovered
start l = within l 0 0 []

-- the bytes p of the record are there, and this is what they are
unfoldable pub take_in : Recovered → List ℕ → Piece → Recovered
take_in s p begun = within s.book s.done s.bytes p
take_in s p strange = stopped s.book s.done s.bytes p Strange
take_in s p (whole r) =
    pick (eqb (number_at s.book r) 0) (within (book_after s.book r) (s.done + 1) (s.bytes + length p) [])
    (stopped s.book s.done s.bytes p (Refused (number_at s.book r)))

-- one byte more; after a fault nothing happens
unfoldable pub step_by : Fault → Recovered → ℕ → Recovered
step_by Fine s b = take_in s (s.rest ++ (b ∷ [])) (piece (s.rest ++ (b ∷ [])))
step_by (Refused n) s b = s
step_by Strange s b = s

unfoldable pub step : Recovered → ℕ → Recovered
step s b = step_by s.fault s b

unfoldable pub replay : Recovered → List ℕ → Recovered
replay s [] = s
replay s (b ∷ f) = replay (step s b) f

-- how recovery ended, as docs/JOURNAL.md numbers it: whole, cut, refused or no kind
unfoldable pub end_by : Fault → List ℕ → ℕ
end_by Fine [] = 0
end_by Fine (b ∷ p) = 111
end_by (Refused n) p = n
end_by Strange p = 110

unfoldable pub end_of : Recovered → ℕ
end_of s = end_by s.fault s.rest

-- the same, n records of m bytes further on
unfoldable pub further : ℕ → ℕ → Recovered → Recovered
further n m s = record { book = s.book; done = n + s.done; bytes = m + s.bytes; rest = s.rest; fault = s.fault }

-- ---- whatever the bytes are

-- how recovery ends, with the bytes that it did not look at: behind a whole record, or before any; within a record whose first byte is a kind and which has more
-- bytes than are there; at a record that is whole and is refused; at a byte that is no kind
pub data Ended : Recovered → List ℕ → Type 0 where
  ends_whole : {l : List ℕ} {n m : ℕ} → Ended (within l n m []) []
  ends_cut : {l p : List ℕ} {n m b : ℕ} {k : Kind} → kind_of b ≡ some k → length (b ∷ p) < size k (b ∷ p) → Ended (within l n m (b ∷ p)) []
  ends_refused : {l f : List ℕ} {n m : ℕ} (r : Request) → Below word_limit (numbers_of r) → (number_at l r ≡ 0 → ⊥) →
      Ended (stopped l n m (record_bytes r) (Refused (number_at l r))) f
  ends_strange : {l f : List ℕ} {n m b : ℕ} → kind_of b ≡ Option.none → Ended (stopped l n m (b ∷ []) Strange) f

-- what the state s, recovered of the bytes f from the book l on, tells of them
pub record Told (l f : List ℕ) (s : Recovered) : Type 0 where
  -- the requests of a history from that book on, as many as are told and with as many bytes; the book is theirs
  pub requests : List Request
  pub history : Done l requests
  pub book : s.book ≡ last l requests
  pub done : s.done ≡ length requests
  pub bytes : s.bytes ≡ length (journal requests)
  -- their records are the first of the bytes, the rest comes behind them, and then what was not looked at
  pub unread : List ℕ
  pub splits : f ≡ journal requests ++ (s.rest ++ unread)
  pub ended : Ended s unread
