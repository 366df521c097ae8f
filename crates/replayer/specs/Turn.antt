-- What is promised of one record of a journal.
-- Assumes nothing.
use Rattle.std.specs.Prelude.{ℕ, ◌≤◌, ◌<◌, ◌≡◌, List, length, get_or}
use Rattle.std.proofs.Math.Option.{none, some}
use Rattle.upkeep.specs.Requests.{number_at, book_after}
use Rattle.journal.specs.declared.record.Kind.{Kind}
use Rattle.journal.specs.Record.{kind_of, size, request_in}
use Rattle.replayer.specs.declared.Next.{Next}

-- the most numbers that a record has
abbrev pub most_numbers : ℕ
most_numbers = 259

-- what the first of the bytes f make of the book l: they name no kind, they are fewer than their record has, or they are a record whose call is made
pub data Turn (l f : List ℕ) (r : Next) (l' : List ℕ) : Type 0 where
  no_kind : kind_of (get_or f 0 0) ≡ none → r.end ≡ 110 → l' ≡ l → Turn l f r l'
  too_few : {k : Kind} → kind_of (get_or f 0 0) ≡ some k → length f < size k f → r.end ≡ 111 → l' ≡ l → Turn l f r l'
  a_record : {k : Kind} → kind_of (get_or f 0 0) ≡ some k → size k f ≤ length f → r.end ≡ number_at l (request_in k f) → r.size ≡ size k f →
      l' ≡ book_after l (request_in k f) → Turn l f r l'
