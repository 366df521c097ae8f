-- When the desk says no: the checks of each call in their order, as the paper's table has them. The number of a call is that of the first
-- check that fails it, and 0, done, otherwise.
-- Assumes nothing.
use Rattle.std.specs.Prelude.{ℕ, ◌%◌, Bool, ◌||◌, not, List, [], ◌∷◌, eqb, ltb, leb, length, get_or}
use Rattle.loops.specs.Loops.{every}
use Rattle.order.specs.Vector.{covered}
use Rattle.card.specs.Card.{card_fit}
use Rattle.paper.specs.declared.answer.Payload.{Payload}
use Rattle.paper.specs.Calls.{last_day, first}
use Rattle.book.specs.declared.parts.Counts.{Counts}
use Rattle.book.specs.Layout.{end, book_words, counts_of, home, crew_vector, clock, link_of, held, taken}
use Rattle.fit.specs.Fit.{counts_fit}
use Rattle.named.specs.Named.{tick_fit, take_fit, refresh_fit, read_fit, write_fit, move_fit, is_list, all_below, list_fit}
use Rattle.links.specs.Send.{roomy, lowest_seen}

-- bearing k lies on shelf k mod P
abbrev pub shelf_of : List ℕ → ℕ → ℕ
shelf_of l k = k % (counts_of l).shelves

-- setup, of four counts and a list of homes
unfoldable pub setup_number : List ℕ → Counts → List ℕ → ℕ
setup_number l n homes = first
    ((not (eqb (length l) book_words), 1)
    ∷ (not (counts_fit n) || not (eqb (length homes) n.crews), 11)
    ∷ (not (every n.crews (λ c. ltb (get_or homes c 0) n.depots)), 2)
    ∷ [])

-- read, by crew c of bearing k
unfoldable pub read_number : List ℕ → ℕ → ℕ → ℕ
read_number l c k = first
    ((not (read_fit l c k), 1)
    ∷ (leb (counts_of l).crews c, 5)
    ∷ (leb (counts_of l).bearings k, 4)
    ∷ [])

-- write, by crew c of bearing k: a value past the last day is no date, and not every two words are a card
unfoldable pub write_number : List ℕ → ℕ → ℕ → Payload → ℕ
write_number l c k payload = first
    ((not (write_fit l c k), 1)
    ∷ (leb (counts_of l).crews c, 5)
    ∷ (leb (counts_of l).bearings k, 4)
    ∷ (ltb last_day payload.value, 16)
    ∷ (not (card_fit payload.diameter payload.width), 14)
    ∷ (ltb (clock l (home l c) (shelf_of l k)) (crew_vector l c (home l c)), 8)
    ∷ (leb end (clock l (home l c) (shelf_of l k)), 10)
    ∷ (not (roomy (counts_of l).depots (home l c) (shelf_of l k) l), 9)
    ∷ [])

-- tick, of shelf s of depot d
unfoldable pub tick_number : List ℕ → ℕ → ℕ → ℕ
tick_number l d s = first
    ((not (tick_fit l d s), 1)
    ∷ (leb (counts_of l).depots d, 2)
    ∷ (leb (counts_of l).shelves s, 3)
    ∷ (leb end (clock l d s), 10)
    ∷ (not (roomy (counts_of l).depots d s l), 9)
    ∷ [])

-- take, at depot d, shelf s, from a depot
unfoldable pub take_number : List ℕ → ℕ → ℕ → ℕ → ℕ
take_number l d s from = first
    ((not (take_fit l d s from), 1)
    ∷ (leb (counts_of l).depots d || leb (counts_of l).depots from, 2)
    ∷ (leb (counts_of l).shelves s, 3)
    ∷ (eqb d from, 6)
    ∷ (leb (held l (link_of s from d)) (taken l (link_of s from d)), 7)
    ∷ [])

-- refresh, of shelf s of depot d
unfoldable pub refresh_number : List ℕ → ℕ → ℕ → ℕ
refresh_number l d s = first
    ((not (refresh_fit l d s), 1)
    ∷ (leb (counts_of l).depots d, 2)
    ∷ (leb (counts_of l).shelves s, 3)
    ∷ [])

-- depot d has seen crew c's vector: for every other depot, the crew's entry is at most the lowest stamp that any shelf of d has seen from it
unfoldable pub arrived : List ℕ → ℕ → ℕ → Bool
arrived l c d = covered (counts_of l).depots d (crew_vector l c) (lowest_seen (counts_of l).depots (counts_of l).shelves d l)

-- move, of crew c to depot d
unfoldable pub move_number : List ℕ → ℕ → ℕ → ℕ
move_number l c d = first
    ((not (move_fit l c d), 1)
    ∷ (leb (counts_of l).crews c, 5)
    ∷ (leb (counts_of l).depots d, 2)
    ∷ (not (eqb d (home l c) || arrived l c d), 12)
    ∷ [])

-- list, by crew c of the bearings ks
unfoldable pub list_number : List ℕ → ℕ → List ℕ → ℕ
list_number l c ks = first
    ((not (list_fit l c ks), 1)
    ∷ (leb (counts_of l).crews c, 5)
    ∷ (not (is_list ks), 15)
    ∷ (not (all_below (counts_of l).bearings ks), 4)
    ∷ [])
