-- Which of two records is the greater, as a number: none for no depots and for more than four, else by the order of versions.
-- Assumes nothing.
use Prim.Native.Nat.{ℕ, ◌≤◌, ◌<◌}
use mathlib.Core.Path.{◌≡◌, sym, ◌∙◌, ap}
use mathlib.Core.List.{List}
use mathlib.Core.Bool.{Bool}
use lib.Dec.{eqb, ltb}
use borrow.Author.Tests.{eq-eqb, ne_eqb, lt-ltb, le-ltb}
use Rattle.loops.specs.Loops.{pick}
use Rattle.order.specs.Order.{above}
use Rattle.order.specs.Record.{most_depots, rank_in}
use Rattle.loops.proofs.BoolLaws.{pick_true, pick_false, or_left, or_right, or_next}
use Rattle.export.specs.Numbers.{greater_number}

module _ (n : ℕ) (a b : List ℕ) where
  pub greater_none : n ≡ 0 → 0 ≡ greater_number n a b
  unfolding greater_number
  greater_none e = sym (pick_true _ _ (or_left _ _ (eq-eqb n 0 e)))

  pub greater_many : most_depots < n → 0 ≡ greater_number n a b
  unfolding greater_number
  greater_many h = sym (pick_true _ _ (or_right (eqb n 0) (ltb most_depots n) (lt-ltb _ _ h)))

  pub greater_by : {r : Bool} → (n ≡ 0 → ⊥) → n ≤ most_depots → r ≡ above n (rank_in b) (rank_in a) → pick r 1 0 ≡ greater_number n a b
  unfolding greater_number
  greater_by {r} e h q = ap (λ (x : Bool). pick x 1 0) q ∙ sym (pick_false _ _ (or_next _ (ne_eqb n 0 e) ∙ le-ltb _ _ h))
