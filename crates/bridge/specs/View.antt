-- The view of a book as a state of the model: what docs/LAYOUT.md says of each word, told in the model's terms. Every place that may hold anything
-- in a fit book is looked at only where the counts say that it is in use.
-- Assumes nothing.
use Rattle.std.specs.Prelude.{ℕ, zero, suc, ◌+◌, ◌-◌, ◌%◌, ◌<◌, ◌≡◌, false, ◌&&◌, List, [], ◌∷◌, ◌++◌, eqb, ltb, get_or}
use Rattle.loops.specs.Loops.{pick}
use Rattle.order.specs.Vector.{Vec, zeros}
use Rattle.order.specs.Order.{above}
use Rattle.order.specs.Record.{bearing_of, origin_of, vector_of, rank_of}
use Rattle.book.specs.declared.parts.Counts as book
use Rattle.book.specs.Layout.{crew_at, stable_at, link_of, home, clock, seen, held, taken, slot, stored, beat_kind, kind_of, beat_of, record_of}
use Rattle.register.specs.Answers.{payload_of}
use Rattle.model.specs.Parts.{Counts, Version, Write, Message, copy, heartbeat, Shelf, State, rank, other, unwritten, empty_shelf}

-- the counts that a setup asks for, as the model has them
abbrev pub to_model : book.Counts → Counts
to_model n = record { depots = n.depots; shelves = n.shelves; bearings = n.bearings; crews = n.crews }

-- the four counts of the book l
abbrev pub counts_in : List ℕ → Counts
counts_in l = record { depots = get_or l 0 0; shelves = get_or l 1 0; bearings = get_or l 2 0; crews = get_or l 3 0 }

-- the vector whose n entries stand in l from the place a on
unfoldable pub entries_at : ℕ → List ℕ → ℕ → Vec
entries_at n l a x = pick (ltb x n) (get_or l (a + x) 0) 0

-- the version that the record r is, with n depots: with the zero vector it is unwritten
unfoldable pub version_of : ℕ → List ℕ → Version
version_of n r = pick (zeros n (vector_of r)) unwritten (record { payload = payload_of r; origin = origin_of r; vector = entries_at n r 5 })

-- two records hold the same version: value and card, origin and the n entries
pub record SameVersion (n : ℕ) (r s : List ℕ) : Type 0 where
  pub payload : payload_of r ≡ payload_of s
  pub origin : origin_of r ≡ origin_of s
  pub entries : (x : ℕ) → x < n → vector_of r x ≡ vector_of s x

-- nothing of a record is lost: one that is written is told from every other, and versions compare as their records do
pub record VersionKept (n : ℕ) : Type 0 where
  pub told_apart : (r s : List ℕ) → zeros n (vector_of r) ≡ false → version_of n r ≡ version_of n s → SameVersion n r s
  pub the_same : (r s : List ℕ) → SameVersion n r s → version_of n r ≡ version_of n s
  pub compares : (r s : List ℕ) → above n (rank (version_of n r)) (rank (version_of n s)) ≡ above n (rank_of r) (rank_of s)

unfoldable pub write_of : ℕ → List ℕ → Write
write_of n r = record { bearing = bearing_of r; version = version_of n r }

-- the message that ten words are
unfoldable pub message_of : ℕ → List ℕ → Message
message_of n m = pick (eqb (kind_of m) beat_kind) (heartbeat (beat_of m)) (copy (write_of n (record_of m)))

-- f 0, f 1, .. and f (n - 1)
unfoldable pub listed : {A : Type 0} → ℕ → (ℕ → A) → List A
listed zero f = []
listed (suc n) f = listed n f ++ (f n ∷ [])

-- the taken copies on link q, and its untaken messages, oldest first
unfoldable pub taken_on : ℕ → List ℕ → ℕ → List Write
taken_on n l q = listed (taken l q) (λ i. write_of n (record_of (slot l q i)))

unfoldable pub untaken_on : ℕ → List ℕ → ℕ → List Message
untaken_on n l q = listed (held l q - taken l q) (λ i. message_of n (slot l q (taken l q + i)))

module _ (π : Counts) (l : List ℕ) where
  -- what shelf s of depot d stores: the bearings that lie on it
  unfoldable pub store_at : ℕ → ℕ → ℕ → Version
  store_at d s k = pick (ltb k π.bearings && eqb (k % π.shelves) s) (version_of π.depots (stored l d k)) unwritten

  -- shelf s of depot d, with the links into it from each other depot
  unfoldable pub shelf_at : ℕ → ℕ → Shelf
  shelf_at d s = record {
    clock = clock l d s;
    stable = entries_at π.depots l (stable_at d s);
    seen = λ x. pick (other π.depots d x) (seen l d s x) 0;
    store = store_at d s;
    taken = λ o. pick (other π.depots d o) (taken_on π.depots l (link_of s o d)) [];
    untaken = λ o. pick (other π.depots d o) (untaken_on π.depots l (link_of s o d)) [];
  }

  -- the whole register, with the counts π
  unfoldable pub view_by : State
  view_by = record {
    shelf = λ d s. pick (ltb d π.depots && ltb s π.shelves) (shelf_at d s) empty_shelf;
    crew = λ c. pick (ltb c π.crews) (entries_at π.depots l (crew_at c)) (λ x. 0);
    home = λ c. pick (ltb c π.crews) (home l c) 0;
  }

unfoldable pub view : List ℕ → State
view l = view_by (counts_in l) l
