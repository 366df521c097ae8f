-- What the routines of a shelf ask of the parts that they touch: far less than that the book is fit.
-- Assumes nothing.
use Rattle.std.specs.Prelude.{ℕ, ◌≤◌, ◌<◌, ◌≡◌, List}
use Rattle.order.specs.Record.{most_depots, bearing_of}
use Rattle.book.specs.Layout.{most_shelves, bearing_room, link_room, link_of, slot, held, taken, record_of}

-- a link that holds no more than there is room for, no more taken than held, each taken copy of a bearing that has a place
pub record Sound (l : List ℕ) (q : ℕ) : Type 0 where
  pub room : held l q ≤ link_room
  pub first : taken l q ≤ held l q
  pub bearings : (i : ℕ) → i < taken l q → bearing_of (record_of (slot l q i)) < bearing_room

-- depot d and shelf s, of at most four, and every link into the shelf is sound
pub record Ready (n d s : ℕ) (l : List ℕ) : Type 0 where
  pub depots : n ≤ most_depots
  pub depot : d < most_depots
  pub shelf : s < most_shelves
  pub links : (from : ℕ) → from < n → (from ≡ d → ⊥) → Sound l (link_of s from d)

-- depot d and shelf s, of at most four, and every link out of the shelf has room
pub record Free (n d s : ℕ) (l : List ℕ) : Type 0 where
  pub depots : n ≤ most_depots
  pub depot : d < most_depots
  pub shelf : s < most_shelves
  pub room : (to : ℕ) → to < n → (to ≡ d → ⊥) → held l (link_of s d to) < link_room
