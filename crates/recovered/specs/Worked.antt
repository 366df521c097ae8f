-- The worked journal of docs/JOURNAL.md, recovered: its second table, row by row. The book l has 16,384 words and was never set up, as that of zeros.
-- Assumes nothing.
use Rattle.std.specs.Prelude.{ℕ, ◌≡◌, List, [], ◌∷◌, ◌++◌, take}
use Rattle.paper.specs.Calls.{read, write, tick}
use Rattle.register.specs.Calls.{set_up}
use Rattle.upkeep.specs.Requests.{Request, call}
use Rattle.bridge.specs.Listing.{counts, homes}
use Rattle.journal.specs.Record.{record_bytes}
use Rattle.journal.specs.Journal.{journal, start, replay}
use Rattle.journal.specs.Worked.{listing, Row}
use Rattle.recovered.specs.Past.{HistoryOf}

-- the line of the listing that is refused: 8, WAIT
abbrev pub refused_line : Request
refused_line = call (write 0 1 (record { value = 30; diameter = 1065353216; width = 1065353216 }))

pub record WorkedJournal (l : List ℕ) : Type 0 where
  pub no_bytes : Row (replay (start l) []) 0 0 0
  pub first_25 : Row (replay (start l) (take 25 (journal listing))) 0 0 111
  pub no_record : (replay (start l) (take 25 (journal listing))).book ≡ l
  pub first_26 : Row (replay (start l) (take 26 (journal listing))) 1 26 0
  pub first_27 : Row (replay (start l) (take 27 (journal listing))) 1 26 111
  pub waits : Row (replay (start l) (take 56 (journal listing) ++ record_bytes refused_line)) 3 56 8
  pub no_kind : (f : List ℕ) → Row (replay (start l) (take 35 (journal listing) ++ (9 ∷ f))) 2 35 110
  -- a list of bearings 0 and 1, and one of none
  pub list_of_two : Row (replay (start l) (take 35 (journal listing) ++ (8 ∷ 2 ∷ 0 ∷ 0 ∷ 0 ∷ 0 ∷ 0 ∷ 0 ∷ 0 ∷ 0 ∷ 1 ∷ 0 ∷ 0 ∷ 0 ∷ []))) 3 49 0
  pub list_of_none : Row (replay (start l) (take 35 (journal listing) ++ (8 ∷ 0 ∷ 0 ∷ 0 ∷ 0 ∷ 0 ∷ []))) 2 35 15
  pub no_setup : Row (replay (start l) (2 ∷ 0 ∷ 0 ∷ 0 ∷ 0 ∷ 0 ∷ 0 ∷ 0 ∷ 0 ∷ [])) 0 0 1
  -- three crews, two homes
  pub bad_counts :
      Row (replay (start l) (1 ∷ 2 ∷ 2 ∷ 0 ∷ 0 ∷ 0 ∷ 2 ∷ 0 ∷ 0 ∷ 0 ∷ 4 ∷ 0 ∷ 0 ∷ 0 ∷ 3 ∷ 0 ∷ 0 ∷ 0 ∷ 0 ∷ 0 ∷ 0 ∷ 0 ∷ 1 ∷ 0 ∷ 0 ∷ 0 ∷ [])) 0 0 11
  pub all_of_it : Row (replay (start l) (journal listing)) 11 148 0

-- from the image of the book that the setup leaves, with the records of a read and of a tick: the history that goes on has both calls, the newest first
unfoldable pub WorkedImage : Type 0
WorkedImage = HistoryOf (replay (start (set_up counts homes)) (journal (call (read 0 0) ∷ call (tick 0 1) ∷ []))).book counts homes (tick 0 1 ∷ read 0 0 ∷ [])
