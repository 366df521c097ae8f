-- What comes of a call with room, and without it.
-- Assumes nothing.
use Prim.Native.Nat.{ℕ, ◌≤◌, ◌<◌}
use native.Mathlib.Omega.{arith}
use mathlib.Core.Path.{◌≡◌, sym}
use mathlib.Core.List.{List, []}
use lib.ListN.{length}
use lib.Seq.{sets}
use borrow.Author.Tests.{le-leb, lt-leb}
use Rattle.loops.proofs.BoolLaws.{pick_true, pick_false}
use Rattle.room.specs.Room.{in_room, filled}

module _ {A : Type 0} (n : ℕ) (o : List ℕ) (a b : A) where
  pub with_room : n ≤ length o → a ≡ in_room n o a b
  unfolding in_room
  with_room h = sym (pick_true _ _ (le-leb _ _ h))

  pub no_room_law : length o < n → b ≡ in_room n o a b
  unfolding in_room
  no_room_law h = sym (pick_false _ _ (lt-leb _ _ h))

pub filled_none : (o : List ℕ) → o ≡ filled [] o
unfolding filled
filled_none o = sym (pick_true _ _ (le-leb 0 (length o) (omega arith)))

-- words that have room stand at the start
pub filled_whole : (w o : List ℕ) → length w ≤ length o → filled w o ≡ sets o 0 w
unfolding filled
filled_whole w o h = pick_true _ _ (le-leb _ _ h)
