-- Entries that are 0 in both versions do not count: the order over m depots is that over the first n, where the entries from n on are 0.
-- Assumes nothing.
use Prim.Native.Nat.{ℕ, zero, suc, ◌≤◌, ◌<◌}
use native.Mathlib.Nat.{le_refl, le_step, add-zero}
use native.Mathlib.Omega.{arith}
use mathlib.Core.Path.{◌≡◌, refl, sym, ◌∙◌, ap, ap₂}
use mathlib.Core.Logic.{⊎_elim}
use mathlib.Core.Bool.{Bool, ◌&&◌, ◌||◌, not, and-true, or-false, and-false}
use lib.Dec.{ltb, eqb}
use borrow.Author.Tests.{eq-eqb, le-ltb}
use Rattle.loops.specs.Loops.{every}
use Rattle.loops.proofs.BoolLaws.{eq_or_ne}
use Rattle.order.specs.Vector.{Vec, agree, zeros, sum}
use Rattle.order.specs.Order.{Rank, above, leads, outweighs, above_is}

-- one entry more that is 0 in both
module _ (m : ℕ) (u v : Vec) (p : u m ≡ 0) (q : v m ≡ 0) where
  zeros_one : zeros (suc m) u ≡ zeros m u
  unfolding zeros every
  zeros_one = ap (λ (b : Bool). zeros m u && b) (eq-eqb (u m) 0 p) ∙ and-true (zeros m u)

  sum_one : sum (suc m) u ≡ sum m u
  unfolding sum
  sum_one = rw p (add-zero (sum m u))

  agree_one : agree (suc m) u v ≡ agree m u v
  unfolding agree every
  agree_one = ap (λ (b : Bool). agree m u v && b) (eq-eqb (u m) (v m) (p ∙ sym q)) ∙ and-true (agree m u v)

  leads_one : leads (suc m) u v ≡ leads m u v
  unfolding leads
  leads_one =
      ap (λ (b : Bool). leads m u v || b) (ap (λ (b : Bool). agree m u v && b) (le-ltb (v m) (u m) (omega arith)) ∙ and-false (agree m u v)) ∙ or-false (leads m u v)

above_one : (m : ℕ) (a b : Rank) → a.vector m ≡ 0 → b.vector m ≡ 0 → above (suc m) a b ≡ above m a b
unfolding outweighs
above_one m a b p q =
    above_is (suc m) a b
    ∙ ap₂ (λ (x y : Bool). not x && y) (zeros_one m a.vector b.vector p q)
    (ap₂ (λ (x y : Bool). x || y)
    (ap₂ (λ (x y : Bool). x || y) (ap₂ (λ (s t : ℕ). ltb s t) (sum_one m b.vector a.vector q p) (sum_one m a.vector b.vector p q))
    (ap₂ (λ (x y : Bool). x && y) (ap₂ (λ (s t : ℕ). eqb s t) (sum_one m a.vector b.vector p q) (sum_one m b.vector a.vector q p)) (leads_one m a.vector b.vector p q)))
    (ap (λ (x : Bool). x && ltb b.origin a.origin) (agree_one m a.vector b.vector p q)))
    ∙ sym (above_is m a b)

pub above_padded : (n m : ℕ) (a b : Rank) → n ≤ m → ((x : ℕ) → n ≤ x → x < m → (a.vector x ≡ 0) × (b.vector x ≡ 0)) → above m a b ≡ above n a b
above_padded n zero a b l z = let e : n ≡ 0 = omega arith in rw e refl
above_padded n (suc m) a b l z =
    ⊎_elim
    (λ (e : n ≡ suc m). rw e refl)
    (λ (e : n ≡ suc m → ⊥).
    let here = z m (omega arith) (le_refl _) in
    above_one m a b here.0 here.1 ∙ above_padded n m a b (omega arith) (λ x p q. z x p (le_step q)))
    (eq_or_ne n (suc m))
