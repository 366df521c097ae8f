-- What a comparison of the sums, and then one entry by entry, says of the order. Only this crate sees it: it opens the definition.
-- Assumes nothing.
use Prim.Native.Nat.{ℕ, ◌≤◌, ◌<◌}
use native.Mathlib.Omega.{arith}
use mathlib.Core.Path.{◌≡◌, sym, ◌∙◌}
use mathlib.Core.Logic.{⊎_elim}
use mathlib.Core.Bool.{true, false, not}
use lib.Dec.{ltb}
use borrow.Author.Tests.{lt-ltb, le-ltb}
use Rattle.order.specs.Vector.{zeros, sum}
use Rattle.order.specs.Order.{Rank, above}
use Rattle.loops.proofs.BoolLaws.{decided, failed, le_or_lt}
use Rattle.order.proofs.OrderForm.{heavier, earlier, ahead_never, Above, leading, higher, open_above, close_above}
use Rattle.order.proofs.OrderLaws.{above_asym, above_unwritten}

-- sums that differ decide
pub above_sum : (n : ℕ) (a b : Rank) → (sum n a.vector ≡ sum n b.vector → ⊥) → ltb (sum n b.vector) (sum n a.vector) ≡ above n a b
above_sum n a b differ =
    ⊎_elim
    (λ (h : sum n a.vector ≤ sum n b.vector). le-ltb _ _ h ∙ sym (above_asym n b a (close_above (leading (heavier (less h))))))
    (λ (h : sum n b.vector < sum n a.vector). lt-ltb _ _ h ∙ sym (close_above (leading (heavier h))))
    (le_or_lt (sum n a.vector) (sum n b.vector))
  where
    less : sum n a.vector ≤ sum n b.vector → sum n a.vector < sum n b.vector
    less h = let k : (sum n a.vector ≡ sum n b.vector) → ⊥ = differ in omega arith

-- where the sums are equal the first difference decides
pub above_first :
    (n : ℕ) (a b : Rank) → sum n a.vector ≡ sum n b.vector → (x : ℕ) → x < n → ((y : ℕ) → y < x → a.vector y ≡ b.vector y) →
    (a.vector x ≡ b.vector x → ⊥) → ltb (b.vector x) (a.vector x) ≡ above n a b
above_first n a b sums x l before differ =
    ⊎_elim
    (λ (h : a.vector x ≤ b.vector x).
    le-ltb _ _ h
    ∙ sym
    (above_asym n b a (close_above (leading (earlier (sym sums) (record { place = x; inside = l; greater = less h; equal = λ y k. sym (before y k) }))))))
    (λ (h : b.vector x < a.vector x).
    lt-ltb _ _ h ∙ sym (close_above (leading (earlier sums (record { place = x; inside = l; greater = h; equal = before })))))
    (le_or_lt (a.vector x) (b.vector x))
  where
    less : a.vector x ≤ b.vector x → a.vector x < b.vector x
    less h = let k : (a.vector x ≡ b.vector x) → ⊥ = differ in omega arith

-- equal vectors go by the higher origin
pub above_tie_low : (n : ℕ) (a b : Rank) → ((y : ℕ) → y < n → a.vector y ≡ b.vector y) → a.origin ≤ b.origin → false ≡ above n a b
above_tie_low n a b same h = sym (failed _ λ p. never (open_above p))
  where
    never : Above n a b → ⊥
    never (leading f) = ahead_never same f
    never (higher w e l) = omega arith

pub above_tie_high : (n : ℕ) (a b : Rank) → ((y : ℕ) → y < n → a.vector y ≡ b.vector y) → b.origin < a.origin → not (zeros n a.vector) ≡ above n a b
above_tie_high n a b same h =
    ⊎_elim
    (λ (z : zeros n a.vector ≡ true). rw z (sym (above_unwritten n a b z)))
    (λ (z : zeros n a.vector ≡ false). rw z (sym (close_above (higher z same h))))
    (decided (zeros n a.vector))
