-- The parts of a book that each call looks at before it does anything, each a conjunction of parts of `fit`: the length, the counts, the homes, and
-- the parts that the call reads or writes. A number out of range names no part.
-- Assumes nothing.
use Rattle.std.specs.Prelude.{ℕ, ◌+◌, ◌-◌, ◌%◌, Bool, ◌&&◌, ◌||◌, not, List, leb, ltb, eqb, length, get_or}
use Rattle.loops.specs.Loops.{every}
use Rattle.order.specs.Record.{bearing_of}
use Rattle.book.specs.declared.parts.Counts.{Counts}
use Rattle.book.specs.Layout.{book_words, end, counts_of, home, seen, link_of, held, taken, slot, record_of}
use Rattle.fit.specs.Fit.{counts_fit, homes_fit, crew_fit, clock_fit, stable_fit, seen_fit, message_fit, head_fit, link_fit, stored_fit}

-- ---- parts together

-- the heads of the links out of shelf s of depot d
unfoldable pub heads_out_fit : Counts → List ℕ → ℕ → ℕ → Bool
heads_out_fit n l d s = every n.depots (λ to. eqb to d || head_fit l (link_of s d to))

-- the head of link q of shelf s out of a depot, and its untaken messages
unfoldable pub waiting_fit : Counts → List ℕ → ℕ → ℕ → ℕ → Bool
waiting_fit n l s from q = head_fit l q && every (held l q - taken l q) (λ i. message_fit n s from (slot l q (taken l q + i)))

-- the stored versions at depot d of the bearings of link q's taken copies
unfoldable pub places_fit : Counts → List ℕ → ℕ → ℕ → Bool
places_fit n l d q = every (taken l q) (λ i. stored_fit n l d (bearing_of (record_of (slot l q i))))

-- the link into shelf s of depot d from a depot, and those stored versions
unfoldable pub arrival_fit : Counts → List ℕ → ℕ → ℕ → ℕ → Bool
arrival_fit n l d s from = link_fit n l s from (link_of s from d) && places_fit n l d (link_of s from d)

-- what raise and show reads and writes at shelf s of depot d: the stable vector, and all that arrives
unfoldable pub show_fit : Counts → List ℕ → ℕ → ℕ → Bool
show_fit n l d s = stable_fit n l d s && every n.depots (λ from. eqb from d || arrival_fit n l d s from)

-- ---- what each call reads and writes

unfoldable pub tick_parts : Counts → List ℕ → ℕ → ℕ → Bool
tick_parts n l d s = clock_fit l d s && heads_out_fit n l d s

unfoldable pub take_parts : Counts → List ℕ → ℕ → ℕ → ℕ → Bool
take_parts n l d s from = leb (seen l d s from) end && waiting_fit n l s from (link_of s from d)

unfoldable pub refresh_parts : Counts → List ℕ → ℕ → ℕ → Bool
refresh_parts n l d s = every n.shelves (seen_fit n l d) && show_fit n l d s

-- crew c and bearing k at shelf s of depot d
unfoldable pub home_parts : Counts → List ℕ → ℕ → ℕ → ℕ → ℕ → Bool
home_parts n l c k d s = crew_fit n l c && (stored_fit n l d k && show_fit n l d s)

unfoldable pub read_parts : Counts → List ℕ → ℕ → ℕ → Bool
read_parts n l c k = home_parts n l c k (home l c) (k % n.shelves)

-- as a read, and as a tick of the home shelf
unfoldable pub write_parts : Counts → List ℕ → ℕ → ℕ → Bool
write_parts n l c k = read_parts n l c k && tick_parts n l (home l c) (k % n.shelves)

-- crew c's vector, and the stamps seen on all shelves of its new home d
unfoldable pub move_parts : Counts → List ℕ → ℕ → ℕ → Bool
move_parts n l c d = crew_fit n l c && every n.shelves (seen_fit n l d)

-- at depot d, the stored versions of the bearings ks
unfoldable pub listed_fit : Counts → List ℕ → ℕ → List ℕ → Bool
listed_fit n l d ks = every (length ks) (λ i. stored_fit n l d (get_or ks i 0))

-- crew c and the bearings ks at depot d: as a read, for every shelf and every bearing
unfoldable pub page_parts : Counts → List ℕ → ℕ → List ℕ → ℕ → Bool
page_parts n l c ks d = crew_fit n l c && (listed_fit n l d ks && every n.shelves (show_fit n l d))

unfoldable pub list_parts : Counts → List ℕ → ℕ → List ℕ → Bool
list_parts n l c ks = page_parts n l c ks (home l c)

-- the most bearings that a list may name
abbrev pub most_listed : ℕ
most_listed = 8

-- it names one to eight
unfoldable pub is_list : List ℕ → Bool
is_list ks = leb 1 (length ks) && leb (length ks) most_listed

-- every bearing of the list is below n
unfoldable pub all_below : ℕ → List ℕ → Bool
all_below n ks = every (length ks) (λ i. ltb (get_or ks i 0) n)

-- ---- BAD BOOK is the want of these

-- the length, the counts and the homes
unfoldable pub base_fit : List ℕ → Bool
base_fit l = eqb (length l) book_words && (counts_fit (counts_of l) && homes_fit (counts_of l) l)

unfoldable pub tick_fit : List ℕ → ℕ → ℕ → Bool
tick_fit l d s = base_fit l && (leb (counts_of l).depots d || (leb (counts_of l).shelves s || tick_parts (counts_of l) l d s))

-- a depot has no link to itself
unfoldable pub take_fit : List ℕ → ℕ → ℕ → ℕ → Bool
take_fit l d s from =
    base_fit l
    && (leb (counts_of l).depots d || (leb (counts_of l).depots from || (leb (counts_of l).shelves s || (eqb d from || take_parts (counts_of l) l d s from))))

unfoldable pub refresh_fit : List ℕ → ℕ → ℕ → Bool
refresh_fit l d s = base_fit l && (leb (counts_of l).depots d || (leb (counts_of l).shelves s || refresh_parts (counts_of l) l d s))

unfoldable pub read_fit : List ℕ → ℕ → ℕ → Bool
read_fit l c k = base_fit l && (leb (counts_of l).crews c || (leb (counts_of l).bearings k || read_parts (counts_of l) l c k))

unfoldable pub write_fit : List ℕ → ℕ → ℕ → Bool
write_fit l c k = base_fit l && (leb (counts_of l).crews c || (leb (counts_of l).bearings k || write_parts (counts_of l) l c k))

unfoldable pub move_fit : List ℕ → ℕ → ℕ → Bool
move_fit l c d = base_fit l && (leb (counts_of l).crews c || (leb (counts_of l).depots d || move_parts (counts_of l) l c d))

unfoldable pub list_fit : List ℕ → ℕ → List ℕ → Bool
list_fit l c ks =
    base_fit l
    && (leb (counts_of l).crews c || (not (is_list ks) || (not (all_below (counts_of l).bearings ks) || list_parts (counts_of l) l c ks)))
