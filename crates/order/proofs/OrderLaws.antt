-- The laws of the order of versions: all that anybody outside this crate may use of it. Each is over the number n of depots.
-- Assumes nothing.
use Prim.Native.Nat.{ℕ, ◌≤◌, ◌<◌}
use native.Mathlib.Omega.{arith}
use mathlib.Core.Path.{◌≡◌, refl, sym, ◌∙◌}
use mathlib.Core.Logic.{◌⊎◌, inl, inr, ⊎_elim}
use mathlib.Core.Bool.{true, false, not}
use Rattle.order.specs.Vector.{Vec, zeros}
use Rattle.order.specs.Order.{Rank, above, above_is}
use Rattle.loops.proofs.BoolLaws.{decided, failed, both_ways, le_or_lt}
use Rattle.order.proofs.VectorLaws.{zeros_same, sum_less}
use Rattle.order.proofs.OrderForm.{heavier, ahead_never, ahead_trans, ahead_same, ahead_written, Compared, equal, ahead, behind, compared}
use Rattle.order.proofs.OrderForm.{Above, leading, higher, open_above, close_above}

-- a written vector on the strength of another with the same entries
carried : (n : ℕ) (u v : Vec) → ((x : ℕ) → x < n → u x ≡ v x) → zeros n u ≡ false → zeros n v ≡ false
carried n u v e w = sym (zeros_same n u v e) ∙ w

joined : {n : ℕ} {a b c : Rank} → Above n a b → Above n b c → Above n a c
joined {n} {a} {b} {c} (higher w e l) (higher w' e' l') = higher w (λ x h. e x h ∙ e' x h) (omega arith)
joined {n} {a} {b} {c} (higher w e l) (leading f) = leading (ahead_same (λ x h. sym (e x h)) (λ x h. refl) f)
joined {n} {a} {b} {c} (leading f) (higher w e l) = leading (ahead_same (λ x h. refl) e f)
joined {n} {a} {b} {c} (leading f) (leading g) = leading (ahead_trans f g)

-- ---- the laws

-- nothing is above itself
pub above_irrefl : (n : ℕ) (a : Rank) → above n a a ≡ false
above_irrefl n a = failed _ λ h. never (open_above h)
  where
    never : Above n a a → ⊥
    never (leading f) = ahead_never (λ x l. refl) f
    never (higher w e l) = omega arith

pub above_trans : (n : ℕ) (a b c : Rank) → above n a b ≡ true → above n b c ≡ true → above n a c ≡ true
above_trans n a b c p q = close_above (joined (open_above p) (open_above q))

-- of two, one at most is above the other
pub above_asym : (n : ℕ) (a b : Rank) → above n a b ≡ true → above n b a ≡ false
above_asym n a b p = failed _ λ q. both_ways (above_trans n a b a p q) (above_irrefl n a)

-- of two written versions that differ in vector or origin one is above: where neither is, they agree in both
pub above_total :
    (n : ℕ) (a b : Rank) → zeros n a.vector ≡ false → zeros n b.vector ≡ false → above n a b ≡ false → above n b a ≡ false →
    ((x : ℕ) → x < n → a.vector x ≡ b.vector x) × (a.origin ≡ b.origin)
above_total n a b wa wb p q = go (compared n a.vector b.vector)
  where
    go : Compared n a.vector b.vector → ((x : ℕ) → x < n → a.vector x ≡ b.vector x) × (a.origin ≡ b.origin)
    go (ahead f) = absurd (both_ways (close_above (leading f)) p)
    go (behind f) = absurd (both_ways (close_above (leading f)) q)
    go (equal e) = (
      e,
      ⊎_elim
          (λ (h : a.origin ≤ b.origin).
          ⊎_elim
          (λ (k : b.origin ≤ a.origin). omega arith)
          (λ (k : a.origin < b.origin). absurd (both_ways (close_above (higher wb (λ x l. sym (e x l)) k)) q))
          (le_or_lt b.origin a.origin))
          (λ (h : b.origin < a.origin). absurd (both_ways (close_above (higher wa e h)) p))
          (le_or_lt a.origin b.origin),
    )

-- entrywise at least as great, with a difference, is above: so a version that rests on another is the greater
pub above_entrywise :
    (n : ℕ) (a b : Rank) → ((x : ℕ) → x < n → b.vector x ≤ a.vector x) → (x : ℕ) → x < n → b.vector x < a.vector x → above n a b ≡ true
above_entrywise n a b all x l more = close_above (leading (heavier (sum_less n b.vector a.vector all x l more)))

-- an unwritten one is above nothing, and below every written one
pub above_unwritten : (n : ℕ) (a b : Rank) → zeros n a.vector ≡ true → above n a b ≡ false
above_unwritten n a b z = above_is n a b ∙ rw z

pub above_written : (n : ℕ) (a b : Rank) → zeros n a.vector ≡ false → zeros n b.vector ≡ true → above n a b ≡ true
above_written n a b w z = go (compared n a.vector b.vector)
  where
    go : Compared n a.vector b.vector → above n a b ≡ true
    go (ahead f) = close_above (leading f)
    go (behind f) = absurd (both_ways z (ahead_written f))
    go (equal e) = absurd (both_ways z (carried n _ _ e w))

-- so what is above an unwritten one is whatever is written
pub above_nothing : (n : ℕ) (a b : Rank) → zeros n b.vector ≡ true → above n a b ≡ not (zeros n a.vector)
above_nothing n a b z =
    ⊎_elim
    (λ (e : zeros n a.vector ≡ true). rw e (above_unwritten n a b e))
    (λ (e : zeros n a.vector ≡ false). rw e (above_written n a b e z))
    (decided (zeros n a.vector))

-- the order looks at the n entries and the origin alone
pub above_cong :
    (n : ℕ) (a b c d : Rank) → ((x : ℕ) → x < n → a.vector x ≡ c.vector x) → a.origin ≡ c.origin →
    ((x : ℕ) → x < n → b.vector x ≡ d.vector x) → b.origin ≡ d.origin → above n a b ≡ above n c d
above_cong n a b c d ea oa eb ob = go (decided (above n a b)) (decided (above n c d))
  where
    moved :
        {a b c d : Rank} → ((x : ℕ) → x < n → a.vector x ≡ c.vector x) → a.origin ≡ c.origin →
        ((x : ℕ) → x < n → b.vector x ≡ d.vector x) → b.origin ≡ d.origin → Above n a b → Above n c d
    moved ea oa eb ob (leading f) = leading (ahead_same ea eb f)
    moved ea oa eb ob (higher w e l) = higher (carried n _ _ ea w) (λ x h. sym (ea x h) ∙ e x h ∙ eb x h) (omega arith)

    back : {u v : Vec} → ((x : ℕ) → x < n → u x ≡ v x) → (x : ℕ) → x < n → v x ≡ u x
    back e x h = sym (e x h)

    go : (above n a b ≡ true) ⊎ (above n a b ≡ false) → (above n c d ≡ true) ⊎ (above n c d ≡ false) → above n a b ≡ above n c d
    go (inl p) (inl q) = p ∙ sym q
    go (inr p) (inr q) = p ∙ sym q
    go (inl p) (inr q) = absurd (both_ways (close_above (moved ea oa eb ob (open_above p))) q)
    go (inr p) (inl q) = absurd (both_ways (close_above (moved (back ea) (sym oa) (back eb) (sym ob) (open_above q))) p)

-- between two, whatever stands in the middle is below the one or above the other: so `not above` is transitive
pub above_split : (n : ℕ) (a b c : Rank) → above n a c ≡ true → (above n a b ≡ true) ⊎ (above n b c ≡ true)
above_split n a b c h = go (compared n a.vector b.vector)
  where
    written : Above n a c → zeros n a.vector ≡ false
    written (leading f) = ahead_written f
    written (higher w e l) = w

    go : Compared n a.vector b.vector → (above n a b ≡ true) ⊎ (above n b c ≡ true)
    go (ahead f) = inl (close_above (leading f))
    go (behind f) = inr (above_trans n b a c (close_above (leading f)) h)
    go (equal e) =
        ⊎_elim
        (λ (p : a.origin ≤ b.origin).
        ⊎_elim
        (λ (q : b.origin ≤ a.origin). inr (sym (above_cong n a c b c e (omega arith) (λ x l. refl) refl) ∙ h))
        (λ (q : a.origin < b.origin).
        inr (above_trans n b a c (close_above (higher (carried n _ _ e (written (open_above h))) (λ x l. sym (e x l)) q)) h))
        (le_or_lt b.origin a.origin))
        (λ (p : b.origin < a.origin). inl (close_above (higher (written (open_above h)) e p)))
        (le_or_lt a.origin b.origin)
