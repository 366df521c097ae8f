-- Has everybody got it? What `who_has` tells of a book that was set up with the counts n and the homes, after every history of calls from there,
-- newest call first, in the words of the demands.
-- Assumes nothing.
use Rattle.std.specs.Prelude.{ℕ, ◌+◌, ◌-◌, ◌^◌, ◌<◌, ◌≡◌, true, List, [], ◌∷◌, ◌++◌, leb}
use Rattle.book.specs.declared.parts.Counts.{Counts}
use Rattle.paper.specs.Calls.{Call, first}
use Rattle.model.specs.Parts.{Version, Write, stamp}
use Rattle.model.specs.Demands.{AtLeast, Made, Rounds, lowest_clock}
use Rattle.bridge.specs.View.{to_model}
use Rattle.bridge.specs.Systems.{of_books}
use Rattle.bridge.specs.Demands.{book_of}
use Rattle.who.specs.Who.{has_it, who_number, Told, has, who_told}

module _ (n : Counts) (homes : List ℕ) where
  -- depot d's present version of bearing k
  abbrev pub present : List Call → ℕ → ℕ → Version
  present h d k = (of_books n homes).store (book_of n homes h) d k

  -- all D bits are set, and D is their number
  abbrev pub everyone : Told
  everyone = has (2 ^ n.depots - 1) n.depots

  pub record Everybody : Type 0 where
    -- it is never BAD BOOK: only a number out of range is refused
    pub numbers : (h : List Call) (d k : ℕ) → who_number (book_of n homes h) d k ≡ first ((leb n.depots d, 2) ∷ (leb n.bearings k, 4) ∷ [])
    -- bit x is set exactly if depot x stores depot d's present version or a greater one
    pub has_it_there : (h : List Call) (d k x : ℕ) → d < n.depots → k < n.bearings → x < n.depots → has_it n.depots (book_of n homes h) d k x ≡ true
        → AtLeast n.depots (present h x k) (present h d k)
    pub it_has : (h : List Call) (d k x : ℕ) → AtLeast n.depots (present h x k) (present h d k) → has_it n.depots (book_of n homes h) d k x ≡ true
    -- a write made, t its stamp and m the lowest clock of its depot at any later moment g: after max(0, t - m) + 1 rounds everybody has it, if it is
    -- then still depot d's present version
    pub delivered : (g h : List Call) (w : Write) (d : ℕ) → d < n.depots → Made (of_books n homes) g w
        → Rounds (to_model n) (of_books n homes) (stamp w.version - lowest_clock (to_model n) (of_books n homes) g w.version.origin + 1) g h
        → present h d w.bearing ≡ w.version → who_told (book_of n homes h) d w.bearing ≡ everyone
    -- a bit that is set stays set as long as the version is the depot's present one; so once everybody has it, everybody keeps it
    pub keeps : (l h : List Call) (d k x : ℕ) → d < n.depots → k < n.bearings → x < n.depots → present (l ++ h) d k ≡ present h d k
        → has_it n.depots (book_of n homes h) d k x ≡ true → has_it n.depots (book_of n homes (l ++ h)) d k x ≡ true
    pub all_keep : (l h : List Call) (d k : ℕ) → d < n.depots → k < n.bearings → present (l ++ h) d k ≡ present h d k
        → who_told (book_of n homes h) d k ≡ everyone → who_told (book_of n homes (l ++ h)) d k ≡ everyone
