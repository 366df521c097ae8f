-- Each answer as the paper has it: the number of a refusal, and of what is done its values.
-- Assumes nothing.
use Rattle.std.specs.Prelude.{ℕ, zero, suc, ◌≡◌, List, [], ◌∷◌, ◌++◌, eqb, length, get_or, take, drop, replicate, Option, Some, None, Result, Ok, Err}
use Rattle.loops.specs.Loops.{pick}
use Rattle.paper.specs.declared.answer.Refusal.{Refusal}
use Rattle.paper.specs.declared.answer.Refusal.TheVariants.{BadBook, BadDepot, BadShelf, BadKey, BadCrew, SameDepot, EmptyLink, Wait}
use Rattle.paper.specs.declared.answer.Refusal.TheVariants.{LinkFull, ClockAtEnd, BadCounts, NotHereYet, BadDate, BadCard, BadList}
use Rattle.paper.specs.declared.answer.Payload.{Payload}
use Rattle.paper.specs.declared.answer.Reading.{Reading}
use Rattle.paper.specs.declared.answer.Written.{Written}
use Rattle.paper.specs.declared.answer.Page.{Page}
use Rattle.paper.specs.Calls.{Told, read_value, read_unwritten, Answer, refused, done, reads, current, superseded, listed}

-- the number of a refusal
unfoldable pub number_of : Refusal → ℕ
number_of BadBook = 1
number_of BadDepot = 2
number_of BadShelf = 3
number_of BadKey = 4
number_of BadCrew = 5
number_of SameDepot = 6
number_of EmptyLink = 7
number_of Wait = 8
number_of LinkFull = 9
number_of ClockAtEnd = 10
number_of BadCounts = 11
number_of NotHereYet = 12
number_of BadDate = 16
number_of BadCard = 14
number_of BadList = 15

-- the answer of a setup, a tick, a take, a refresh or a move
unfoldable pub paper : Result Unit Refusal → Answer
paper (Ok u) = done
paper (Err r) = refused (number_of r)

-- what a read found, with the entries u of its vector
unfoldable pub paper_found : Option Payload → List ℕ → Answer
paper_found (Some p) u = reads (read_value p u)
paper_found None u = reads (read_unwritten u)

-- the answer of a read
unfoldable pub paper_read : Result Reading Refusal → Answer
paper_read (Ok a) = paper_found a.payload (take a.depots a.vector)
paper_read (Err r) = refused (number_of r)

-- the answer of a write
unfoldable pub paper_write : Result Written Refusal → Answer
paper_write (Ok (Written.Current stamp)) = current stamp
paper_write (Ok (Written.Superseded stamp)) = superseded stamp
paper_write (Err r) = refused (number_of r)

-- what eight words tell of a bearing, of whose last four the first n are entries: whether it is written, the value, the bits of diameter and width
unfoldable pub told_in : ℕ → List ℕ → Told
told_in n w =
    pick (eqb (get_or w 0 0) 0)
    (read_unwritten (take n (drop 4 w)))
    (read_value (record { value = get_or w 1 0; diameter = get_or w 2 0; width = get_or w 3 0 }) (take n (drop 4 w)))

-- and what the first so many runs of eight words tell
unfoldable pub told_all : ℕ → ℕ → List ℕ → List Told
told_all n zero w = []
told_all n (suc i) w = told_in n (take 8 w) ∷ told_all n i (drop 8 w)

-- the answer of a list, with what it tells
unfoldable pub paper_list : Result Page Refusal → Answer
paper_list (Ok a) = listed (told_all a.depots a.bearings a.words)
paper_list (Err r) = refused (number_of r)

-- ---- the room of a vector

-- the entries that an answer tells
unfoldable pub entries_in : Answer → List ℕ
entries_in (refused n) = []
entries_in done = []
entries_in (reads (read_value p u)) = u
entries_in (reads (read_unwritten u)) = u
entries_in (current stamp) = []
entries_in (superseded stamp) = []
entries_in (listed told) = []

-- entries in room for four, 0 where there is none
unfoldable pub padded : List ℕ → List ℕ
padded u = get_or u 0 0 ∷ get_or u 1 0 ∷ get_or u 2 0 ∷ get_or u 3 0 ∷ []

-- a vector v in room for four, of which the first n entries count, holds the entries that the answer a tells and nothing else
pub record Holds (a : Answer) (v : List ℕ) (n : ℕ) : Type 0 where
  pub vector : v ≡ padded (entries_in a)
  pub count : n ≡ length (entries_in a)

-- ---- the room of a list

-- what an answer tells of each listed bearing
unfoldable pub tellings : Answer → List Told
tellings (refused n) = []
tellings done = []
tellings (reads t) = []
tellings (current stamp) = []
tellings (superseded stamp) = []
tellings (listed ts) = ts

-- the entries that are told of a bearing
unfoldable pub entries_told : Told → List ℕ
entries_told (read_value p u) = u
entries_told (read_unwritten u) = u

-- how many they are, the same for each bearing of a list
unfoldable pub depots_told : List Told → ℕ
depots_told [] = 0
depots_told (t ∷ ts) = length (entries_told t)

-- what is told of a bearing as eight words
unfoldable pub told_words : Told → List ℕ
told_words (read_value p u) = 1 ∷ p.value ∷ p.diameter ∷ p.width ∷ padded u
told_words (read_unwritten u) = 0 ∷ 0 ∷ 0 ∷ 0 ∷ padded u

-- what is told of each in room for so many bearings, 0 where there is none
unfoldable pub page_words : ℕ → List Told → List ℕ
page_words zero ts = []
page_words (suc i) [] = replicate 8 0 ++ page_words i []
page_words (suc i) (t ∷ ts) = told_words t ++ page_words i ts

-- the room of a list's answer holds what the answer a tells and nothing else
pub record HoldsAll (a : Answer) (r : Page) : Type 0 where
  pub words : r.words ≡ page_words 8 (tellings a)
  pub bearings : r.bearings ≡ length (tellings a)
  pub depots : r.depots ≡ depots_told (tellings a)
