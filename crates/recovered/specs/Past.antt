-- What a recovered book stands for: the history that it is the end of, and what is promised of that.
-- Assumes nothing.
use Rattle.std.specs.Prelude.{ℕ, ◌≡◌, ◌⊎◌, false, List, ◌++◌, map, reverse}
use Rattle.paper.specs.Calls.{Call}
use Rattle.book.specs.declared.parts.Counts.{Counts}
use Rattle.named.specs.Named.{base_fit}
use Rattle.upkeep.specs.Requests.{Request, setup, call, number_at}
use Rattle.model.specs.System.{after}
use Rattle.bridge.specs.Histories.{book, NoneSetUp, calls_in}
use Rattle.bridge.specs.Systems.{of_books, Since}
use Rattle.bridge.specs.Demands.{Demands}
use Rattle.journal.specs.Journal.{Recovered, Told}

-- a book's own history: a setup that was done, of whatever book, and the calls since, newest first, which leave l
pub record OwnHistory (l : List ℕ) : Type 0 where
  pub counts : Counts
  pub homes : List ℕ
  pub before : List ℕ
  pub done : number_at before (setup counts homes) ≡ 0
  pub calls : List Call
  pub leaves : l ≡ after (of_books counts homes) calls

-- b is the book of the history of calls, newest first, from a setup with the counts n and these homes
pub record HistoryOf (b : List ℕ) (n : Counts) (homes : List ℕ) (calls : List Call) : Type 0 where
  pub leaves : b ≡ after (of_books n homes) calls
  -- whatever is called later, newest first, goes on from there
  pub goes_on : (later : List Call) → book b (map call later) ≡ after (of_books n homes) (later ++ calls)
  -- and every demand holds of all histories from that setup, so of this one and of each that goes on from it: `others` has demands 2 and 3, `links` that
  -- nothing is lost on a link
  pub demands : Demands n homes

-- the requests of records, oldest first, as a history has them
abbrev pub newest : List Request → List Request
newest rs = reverse rs

-- what the state s, recovered of the bytes f from the book l on, stands for
pub record StandsFor (l f : List ℕ) (s : Recovered) : Type 0 where
  -- the records that were done, and how recovery ended
  pub told : Told l f s
  -- no setup is among them, or one is
  pub setups : NoneSetUp l (newest told.requests) ⊎ Since l (newest told.requests)
  -- with one the history starts at the last, whatever the book l was
  pub from_setup : (since : Since l (newest told.requests)) → HistoryOf s.book since.counts since.homes (calls_in since.later)
  -- without one it is the own history of the book l, if it has one, and then the calls of the records
  pub from_start : NoneSetUp l (newest told.requests) → (own : OwnHistory l)
      → HistoryOf s.book own.counts own.homes (calls_in (newest told.requests) ++ own.calls)
  -- of a book that was never set up, as that of zeros: without one no record is done
  pub from_unset : NoneSetUp l (newest told.requests) → base_fit l ≡ false → (s.book ≡ l) × (s.done ≡ 0)
