-- Of the model the same holds where no count names the place: of every crew and shelf, and of every bearing on every shelf.
-- Assumes nothing.
use Rattle.std.specs.Prelude.{ℕ, ◌≤◌, ◌<◌, ◌≡◌, ◌⊎◌, true, false, List, ◌++◌}
use Rattle.order.specs.Vector.{covered}
use Rattle.order.specs.Order.{above}
use Rattle.model.specs.Parts.{Counts, Shelf, rank, unwritten, room}
use Rattle.model.specs.Rules.{holds}
use Rattle.paper.specs.Calls.{Call}
use Rattle.model.specs.System.{of_model, run}
use Rattle.model.specs.Demands.{Made}

module _ (π : Counts) (homes : List ℕ) where
  -- shelf s of depot d after history h
  abbrev pub shelf_after : List Call → ℕ → ℕ → Shelf
  shelf_after h d s = (run π homes h).shelf d s

  pub record Everywhere : Type 0 where
    -- what a shelf stores is covered by its stable vector in all entries but the depot's own, and is unwritten or was written to that very bearing
    pub hidden : (h : List Call) (d s k : ℕ) → d < π.depots → s < π.shelves
        → covered π.depots d ((shelf_after h d s).store k).vector (shelf_after h d s).stable ≡ true
    pub not_invented : (h : List Call) (d s k : ℕ) → d < π.depots → s < π.shelves
        → ((shelf_after h d s).store k ≡ unwritten) ⊎ Made (of_model π homes) h (record { bearing = k; version = (shelf_after h d s).store k })
    -- nothing goes down
    pub crew_rises : (l h : List Call) (c x : ℕ) → (run π homes h).crew c x ≤ (run π homes (l ++ h)).crew c x
    pub store_rises : (l h : List Call) (d s k : ℕ) → above π.depots (rank ((shelf_after h d s).store k)) (rank ((shelf_after (l ++ h) d s).store k)) ≡ false
    pub stable_rises : (l h : List Call) (d s x : ℕ) → (shelf_after h d s).stable x ≤ (shelf_after (l ++ h) d s).stable x
    pub seen_rises : (l h : List Call) (d s x : ℕ) → (shelf_after h d s).seen x ≤ (shelf_after (l ++ h) d s).seen x
    pub clock_rises : (l h : List Call) (d s : ℕ) → (shelf_after h d s).clock ≤ (shelf_after (l ++ h) d s).clock
    -- no link holds more than it has room for, and a stable vector's own entry is 0
    pub links : (h : List Call) (d s o : ℕ) → holds o (shelf_after h d s) ≤ room
    pub own : (h : List Call) (d s : ℕ) → (shelf_after h d s).stable d ≡ 0
