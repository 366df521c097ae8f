-- What stands on paper settles the answer: each is got back from it, by tables that serve this proof alone.
-- Assumes nothing.
use Prim.Native.Nat.{ℕ}
use mathlib.Core.Path.{◌≡◌, refl, sym, ◌∙◌, ap}
use mathlib.Core.List.{List, [], ◌∷◌}
use lib.Dec.{eqb}
use lib.ListN.{length, take}
use Rattle.std.specs.Prelude.{Option, Some, None, Result, Ok, Err, IfOk}
use Rattle.loops.specs.Loops.{pick}
use Rattle.paper.specs.Calls.{Told, read_value, read_unwritten, Answer, refused, done, reads, current, superseded, listed}
use Rattle.paper.specs.declared.answer.Refusal.{Refusal}
use Rattle.paper.specs.declared.answer.Refusal.TheVariants.{BadBook, BadDepot, BadShelf, BadKey, BadCrew, SameDepot, EmptyLink, Wait}
use Rattle.paper.specs.declared.answer.Refusal.TheVariants.{LinkFull, ClockAtEnd, BadCounts, NotHereYet, BadDate, BadCard, BadList}
use Rattle.paper.specs.declared.answer.Payload.{Payload}
use Rattle.paper.specs.declared.answer.Reading.{Reading}
use Rattle.paper.specs.declared.answer.Written.{Written}
use Rattle.paper.specs.declared.answer.Page.{Page}
use Rattle.paper.specs.Answers.{number_of, paper, paper_found, paper_read, paper_write, told_all, paper_list, entries_in, padded, Holds, tellings, depots_told, page_words, HoldsAll}

-- ---- refusals

-- the one of a list that has the number n
numbered : List Refusal → ℕ → Refusal
numbered [] n = BadBook
numbered (r ∷ rs) n = pick (eqb (number_of r) n) r (numbered rs n)

pub refusal_at : ℕ → Refusal
refusal_at = numbered (BadBook ∷ BadDepot ∷ BadShelf ∷ BadKey ∷ BadCrew ∷ SameDepot ∷ EmptyLink ∷ Wait ∷ LinkFull ∷ ClockAtEnd ∷ BadCounts ∷ NotHereYet ∷ BadDate ∷ BadCard ∷ BadList ∷ [])

pub refusal_back : (r : Refusal) → refusal_at (number_of r) ≡ r
unfolding number_of refusal_at numbered pick
refusal_back BadBook = refl
refusal_back BadDepot = refl
refusal_back BadShelf = refl
refusal_back BadKey = refl
refusal_back BadCrew = refl
refusal_back SameDepot = refl
refusal_back EmptyLink = refl
refusal_back Wait = refl
refusal_back LinkFull = refl
refusal_back ClockAtEnd = refl
refusal_back BadCounts = refl
refusal_back NotHereYet = refl
refusal_back BadDate = refl
refusal_back BadCard = refl
refusal_back BadList = refl

-- each refusal has its own number
pub number_settles : (r r' : Refusal) → number_of r ≡ number_of r' → r ≡ r'
number_settles r r' e = sym (refusal_back r) ∙ ap refusal_at e ∙ refusal_back r'

-- ---- the answer of each call

plain_at : Answer → Result Unit Refusal
plain_at (refused n) = Err (refusal_at n)
plain_at done = Ok tt
plain_at (reads t) = Ok tt
plain_at (current stamp) = Ok tt
plain_at (superseded stamp) = Ok tt
plain_at (listed told) = Ok tt

plain_back : (a : Result Unit Refusal) → plain_at (paper a) ≡ a
unfolding paper plain_at
plain_back (Ok u) = refl
plain_back (Err r) = ap Err (refusal_back r)

pub plain_settles : (a b : Result Unit Refusal) → paper a ≡ paper b → a ≡ b
plain_settles a b e = sym (plain_back a) ∙ ap plain_at e ∙ plain_back b

-- what a read tells, with what was found and its entries
pub reading_of : Option Payload → List ℕ → Reading
reading_of f u = record { payload = f; vector = padded u; depots = length u }

entries_found : (f : Option Payload) (u : List ℕ) → entries_in (paper_found f u) ≡ u
unfolding paper_found entries_in
entries_found (Some p) u = refl
entries_found None u = refl

pub reading_back : (a : Reading) → Holds (paper_read (Ok a)) a.vector a.depots → reading_of a.payload (take a.depots a.vector) ≡ a
unfolding paper_read reading_of
reading_back a h =
    let u = entries_found a.payload (take a.depots a.vector) in
    let v = ap padded (sym u) ∙ sym h.vector in
    let n = ap (λ (x : List ℕ). length x) (sym u) ∙ sym h.count in
    λ i. record { payload = a.payload; vector = v i; depots = n i }

unfoldable pub reading_at : Told → Reading
reading_at (read_value p u) = reading_of (Some p) u
reading_at (read_unwritten u) = reading_of None u

read_at : Answer → Result Reading Refusal
read_at (refused n) = Err (refusal_at n)
read_at done = Err BadBook
read_at (reads t) = Ok (reading_at t)
read_at (current stamp) = Err BadBook
read_at (superseded stamp) = Err BadBook
read_at (listed told) = Err BadBook

found_back : (f : Option Payload) (u : List ℕ) → read_at (paper_found f u) ≡ Ok (reading_of f u)
unfolding paper_found read_at reading_at
found_back (Some p) u = refl
found_back None u = refl

read_back : (a : Result Reading Refusal) → IfOk a (λ x. Holds (paper_read a) x.vector x.depots) → read_at (paper_read a) ≡ a
unfolding paper_read read_at
read_back (Ok a) h = found_back a.payload _ ∙ ap Ok (reading_back a h)
read_back (Err r) h = ap Err (refusal_back r)

pub read_settles :
    (a b : Result Reading Refusal) → paper_read a ≡ paper_read b → IfOk a (λ x. Holds (paper_read a) x.vector x.depots) → IfOk b (λ x. Holds (paper_read b) x.vector x.depots) → a ≡ b
read_settles a b e h k = sym (read_back a h) ∙ ap read_at e ∙ read_back b k

written_at : Answer → Result Written Refusal
written_at (refused n) = Err (refusal_at n)
written_at done = Ok (Written.Current 0)
written_at (reads t) = Ok (Written.Current 0)
written_at (current stamp) = Ok (Written.Current stamp)
written_at (superseded stamp) = Ok (Written.Superseded stamp)
written_at (listed told) = Ok (Written.Current 0)

written_back : (a : Result Written Refusal) → written_at (paper_write a) ≡ a
unfolding paper_write written_at
written_back (Ok (Written.Current stamp)) = refl
written_back (Ok (Written.Superseded stamp)) = refl
written_back (Err r) = ap Err (refusal_back r)

pub written_settles : (a b : Result Written Refusal) → paper_write a ≡ paper_write b → a ≡ b
written_settles a b e = sym (written_back a) ∙ ap written_at e ∙ written_back b

-- what a list tells, got back from what is told of each bearing
pub page_of : List Told → Page
page_of ts = record { bearings = length ts; depots = depots_told ts; words = page_words 8 ts }

pub page_back : (a : Page) → HoldsAll (paper_list (Ok a)) a → page_of (told_all a.depots a.bearings a.words) ≡ a
unfolding paper_list tellings page_of
page_back a h =
    let m = sym h.bearings in
    let n = sym h.depots in
    let w = sym h.words in
    λ i. record { bearings = m i; depots = n i; words = w i }

listed_at : Answer → Result Page Refusal
listed_at (refused n) = Err (refusal_at n)
listed_at done = Err BadBook
listed_at (reads t) = Err BadBook
listed_at (current stamp) = Err BadBook
listed_at (superseded stamp) = Err BadBook
listed_at (listed told) = Ok (page_of told)

listed_back : (a : Result Page Refusal) → IfOk a (λ x. HoldsAll (paper_list a) x) → listed_at (paper_list a) ≡ a
unfolding paper_list listed_at
listed_back (Ok a) h = ap Ok (page_back a h)
listed_back (Err r) h = ap Err (refusal_back r)

pub list_settles :
    (a b : Result Page Refusal) → paper_list a ≡ paper_list b → IfOk a (λ x. HoldsAll (paper_list a) x) → IfOk b (λ x. HoldsAll (paper_list b) x) → a ≡ b
list_settles a b e h k = sym (listed_back a h) ∙ ap listed_at e ∙ listed_back b k
