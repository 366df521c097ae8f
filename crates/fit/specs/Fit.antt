-- When a book is fit: the paper's list, one definition for each part and their conjunction. Every word that no definition reads is
-- unused and may hold anything.
-- Assumes nothing.
use Rattle.std.specs.Prelude.{ℕ, ◌+◌, ◌-◌, ◌%◌, ◌≤◌, ◌<◌, Bool, ◌&&◌, ◌||◌, List, leb, ltb, eqb, length}
use Rattle.loops.specs.Loops.{every}
use Rattle.order.specs.Vector.{Vec, covered, zeros}
use Rattle.order.specs.Record.{most_depots, bearing_of, diameter_of, width_of, origin_of, vector_of}
use Rattle.card.specs.Card.{card_fit}
use Rattle.book.specs.declared.parts.Counts.{Counts}
use Rattle.book.specs.Layout.{book_words, end, most_shelves, most_crews, bearing_room, link_room, counts_of, home, crew_vector, clock, stable, seen, link_of, held, taken, slot, stored}
use Rattle.book.specs.Layout.{copy_kind, beat_kind, kind_of, beat_of, record_of}

-- how many bearings a register may have
abbrev pub most_bearings : ℕ
most_bearings = 160

-- ---- numbers and vectors

-- a number between two limits, both included
unfoldable pub between : ℕ → ℕ → ℕ → Bool
between low x high = leb low x && leb x high

-- every one of the n entries is in range
unfoldable pub in_range : ℕ → Vec → Bool
in_range n v = every n (λ x. leb (v x) end)

-- every one of them but that of depot d
unfoldable pub others_in_range : ℕ → ℕ → Vec → Bool
others_in_range n d v = covered n d v (λ x. end)

-- ---- the parts

-- the counts are in range
unfoldable pub counts_fit : Counts → Bool
counts_fit n =
    between 1 n.depots most_depots
    && (between 1 n.shelves most_shelves && (between 1 n.bearings most_bearings && between 1 n.crews most_crews))

-- the home of crew c is in range
unfoldable pub home_fit : Counts → List ℕ → ℕ → Bool
home_fit n l c = ltb (home l c) n.depots

-- the vector of crew c is in range
unfoldable pub crew_fit : Counts → List ℕ → ℕ → Bool
crew_fit n l c = in_range n.depots (crew_vector l c)

-- shelf s of depot d: its clock is in range
unfoldable pub clock_fit : List ℕ → ℕ → ℕ → Bool
clock_fit l d s = leb (clock l d s) end

-- its stable vector is in range, and the own entry is 0
unfoldable pub stable_fit : Counts → List ℕ → ℕ → ℕ → Bool
stable_fit n l d s = eqb (stable l d s d) 0 && others_in_range n.depots d (stable l d s)

-- the stamps it has seen are in range
unfoldable pub seen_fit : Counts → List ℕ → ℕ → ℕ → Bool
seen_fit n l d s = others_in_range n.depots d (seen l d s)

-- all three
unfoldable pub shelf_fit : Counts → List ℕ → ℕ → ℕ → Bool
shelf_fit n l d s = clock_fit l d s && (stable_fit n l d s && seen_fit n l d s)

-- a version: its vector is in range, its origin is a depot, its stamp, which is its origin's entry, is above 0, and its card is fit
unfoldable pub version_fit : Counts → List ℕ → Bool
version_fit n r =
    in_range n.depots (vector_of r) && (ltb (origin_of r) n.depots && (ltb 0 (vector_of r (origin_of r)) && card_fit (diameter_of r) (width_of r)))

-- what a link carries: a version whose origin is the link's depot, and whose bearing is one of the link's shelf
unfoldable pub carried_fit : Counts → ℕ → ℕ → List ℕ → Bool
carried_fit n s from r = version_fit n r && (eqb (origin_of r) from && (ltb (bearing_of r) n.bearings && eqb (bearing_of r % n.shelves) s))

-- a copy on a link
unfoldable pub copy_fit : Counts → ℕ → ℕ → List ℕ → Bool
copy_fit n s from m = eqb (kind_of m) copy_kind && carried_fit n s from (record_of m)

-- a heartbeat: its stamp is in range
unfoldable pub beat_fit : List ℕ → Bool
beat_fit m = eqb (kind_of m) beat_kind && leb (beat_of m) end

-- a message that waits: a heartbeat or a copy
unfoldable pub message_fit : Counts → ℕ → ℕ → List ℕ → Bool
message_fit n s from m = beat_fit m || copy_fit n s from m

-- the head of link q: it holds no more than there is room for, and no more are taken than held
unfoldable pub head_fit : List ℕ → ℕ → Bool
head_fit l q = leb (held l q) link_room && leb (taken l q) (held l q)

-- h messages of link q of shelf s out of a depot, of which t are taken: these stand first and are copies
unfoldable pub messages_fit : Counts → List ℕ → ℕ → ℕ → ℕ → ℕ → ℕ → Bool
messages_fit n l s from q t h = every t (λ i. copy_fit n s from (slot l q i)) && every (h - t) (λ i. message_fit n s from (slot l q (t + i)))

-- link q of shelf s out of a depot
unfoldable pub link_fit : Counts → List ℕ → ℕ → ℕ → ℕ → Bool
link_fit n l s from q = head_fit l q && messages_fit n l s from q (taken l q) (held l q)

-- a record stored for bearing k: unwritten, or a version of that very bearing
unfoldable pub kept_fit : Counts → ℕ → List ℕ → Bool
kept_fit n k r = zeros n.depots (vector_of r) || (version_fit n r && eqb (bearing_of r) k)

-- the stored version of bearing k at depot d
unfoldable pub stored_fit : Counts → List ℕ → ℕ → ℕ → Bool
stored_fit n l d k = kept_fit n k (stored l d k)

-- what counts in range give: the layout has every part that they name, and there is a shelf
pub record Within (n : Counts) : Type 0 where
  pub depots : n.depots ≤ most_depots
  pub shelf : 0 < n.shelves
  pub shelves : n.shelves ≤ most_shelves
  pub bearings : n.bearings ≤ bearing_room
  pub crews : n.crews ≤ most_crews

-- ---- the whole

-- every crew, every shelf, every link and every stored version
unfoldable pub homes_fit : Counts → List ℕ → Bool
homes_fit n l = every n.crews (home_fit n l)

unfoldable pub crews_fit : Counts → List ℕ → Bool
crews_fit n l = every n.crews (crew_fit n l)

unfoldable pub shelves_fit : Counts → List ℕ → Bool
shelves_fit n l = every n.depots (λ d. every n.shelves (shelf_fit n l d))

-- a depot has no link to itself
unfoldable pub links_fit : Counts → List ℕ → Bool
links_fit n l = every n.shelves (λ s. every n.depots (λ from. every n.depots (λ to. eqb from to || link_fit n l s from (link_of s from to))))

unfoldable pub stores_fit : Counts → List ℕ → Bool
stores_fit n l = every n.depots (λ d. every n.bearings (stored_fit n l d))

-- every part but the counts
unfoldable pub parts_fit : Counts → List ℕ → Bool
parts_fit n l = homes_fit n l && (crews_fit n l && (shelves_fit n l && (links_fit n l && stores_fit n l)))

-- a book is fit when it has its length and every part is fit
unfoldable pub fit : List ℕ → Bool
fit l = eqb (length l) book_words && (counts_fit (counts_of l) && parts_fit (counts_of l) l)
