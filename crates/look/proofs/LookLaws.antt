-- What a look at the entries tells: the highest whether all are in range and whether all are 0, and the stamp whether the origin is a depot with an
-- entry above 0.
-- Assumes nothing.
use Prim.Native.Nat.{ℕ, zero, suc, ◌+◌, ◌%◌, ◌≤◌, ◌<◌, max}
use native.Mathlib.Nat.{le_trans, le_refl, le_step, le-max_left, le-max_right, max-le}
use native.Mathlib.Omega.{arith}
use mathlib.Core.Path.{◌≡◌, refl, sym, ◌∙◌, ap, ap₂}
use mathlib.Core.Logic.{⊎_elim}
use mathlib.Core.List.{List}
use mathlib.Core.Bool.{Bool, true, false, ◌&&◌, ◌||◌}
use lib.Dec.{leb, ltb, eqb}
use borrow.Author.Tests.{leb-true, le-leb, eqb-true, eq-eqb}
use Rattle.loops.specs.Loops.{times, pick}
use Rattle.order.specs.Vector.{Vec, zeros}
use Rattle.order.specs.Record.{bearing_of, diameter_of, width_of, origin_of, vector_of}
use Rattle.card.specs.Card.{card_fit}
use Rattle.loops.proofs.BoolLaws.{together, eq_or_ne}
use Rattle.loops.proofs.LoopLaws.{times_none, times_more, every_at, every_intro}
use Rattle.order.proofs.VectorLaws.{zeros_at, zeros_intro}
use Rattle.book.specs.declared.parts.Counts.{Counts}
use Rattle.book.specs.Layout.{end}
use Rattle.fit.specs.Fit.{in_range, version_fit, carried_fit, kept_fit}
use Rattle.look.specs.Look.{highest, entry_of}

-- a number that is not 0
pub positive : (n : ℕ) → (n ≡ 0 → ⊥) → 0 < n
positive n h = omega arith

-- ---- turn by turn

pub highest_none : (v : Vec) → 0 ≡ highest 0 v
unfolding highest
highest_none v = times_none _ _

pub highest_more : (x : ℕ) (v : Vec) {m t : ℕ} → m ≡ highest x v → t ≡ max m (v x) → t ≡ highest (x + 1) v
unfolding highest
highest_more x v p q = times_more x _ _ p q

-- the entry of a depot by another name
pub entry_by : (n : ℕ) (v : Vec) {o p e : ℕ} → e ≡ entry_of n o v → o ≡ p → e ≡ entry_of n p v
entry_by n v q r = q ∙ ap (λ (x : ℕ). entry_of n x v) r

-- ---- what the highest entry tells

highest_at : (n : ℕ) (v : Vec) (x : ℕ) → x < n → v x ≤ highest n v
unfolding highest times
highest_at zero v x h = absurd (omega arith)
highest_at (suc n) v x h =
    ⊎_elim
    (λ (e : x ≡ n). rw e (le-max_right (highest n v) (v n)))
    (λ (e : x ≡ n → ⊥). le_trans (highest_at n v x (omega arith)) (le-max_left (highest n v) (v n)))
    (eq_or_ne x n)

highest_under : (n : ℕ) (v : Vec) (b : ℕ) → ((x : ℕ) → x < n → v x ≤ b) → highest n v ≤ b
unfolding highest times
highest_under zero v b h = omega arith
highest_under (suc n) v b h = max-le (highest_under n v b (λ x l. h x (le_step l))) (h n (le_refl _))

pub highest_range : (n : ℕ) (v : Vec) → in_range n v ≡ leb (highest n v) end
unfolding in_range
highest_range n v =
    together _ _
    (λ p. le-leb _ _ (highest_under n v end (λ x l. leb-true _ _ (every_at n _ p x l))))
    (λ p. every_intro n _ (λ x l. le-leb _ _ (le_trans (highest_at n v x l) (leb-true _ _ p))))

pub highest_zero : (n : ℕ) (v : Vec) → zeros n v ≡ eqb (highest n v) 0
highest_zero n v =
    together _ _
    (λ p. eq-eqb (highest n v) 0 (let k = highest_under n v 0 (λ x l. let z = zeros_at n v p x l in omega arith) in omega arith))
    (λ p. zeros_intro n v (λ x l. let k = highest_at n v x l in let z = eqb-true (highest n v) 0 p in omega arith))

-- ---- and the stamp

stamp_looked : (n o : ℕ) (v : Vec) (k : Bool) → ltb o n && (ltb 0 (v o) && k) ≡ ltb 0 (entry_of n o v) && k
unfolding entry_of pick
stamp_looked n o v k = go (ltb o n)
  where
    go : (b : Bool) → b && (ltb 0 (v o) && k) ≡ ltb 0 (pick b (v o) 0) && k
    go true = refl
    go false = refl

-- the same of a record, by its highest entry h, its stamp e, and whether it holds a card, k
module _ (n : Counts) (r : List ℕ) {h e : ℕ} {k : Bool} (p : h ≡ highest n.depots (vector_of r)) (q : e ≡ entry_of n.depots (origin_of r) (vector_of r))
    (card : k ≡ card_fit (diameter_of r) (width_of r)) where
  version_looked : version_fit n r ≡ leb h end && (ltb 0 e && k)
  unfolding version_fit
  version_looked =
      ap₂ (λ (a b : Bool). a && b)
      (highest_range n.depots (vector_of r) ∙ ap (λ (m : ℕ). leb m end) (sym p))
      (stamp_looked n.depots (origin_of r) (vector_of r) _ ∙ ap₂ (λ (m : ℕ) (t : Bool). ltb 0 m && t) (sym q) (sym card))

  pub carried_looked : (s from : ℕ) {o b : ℕ} → o ≡ origin_of r → b ≡ bearing_of r
      → carried_fit n s from r ≡ leb h end && (ltb 0 e && k) && (eqb o from && (ltb b n.bearings && eqb (b % n.shelves) s))
  unfolding carried_fit
  carried_looked s from o b = rw (version_looked, o, b)

  pub kept_looked : (j : ℕ) {b : ℕ} → b ≡ bearing_of r → kept_fit n j r ≡ eqb h 0 || (leb h end && (ltb 0 e && k) && eqb b j)
  unfolding kept_fit
  kept_looked j b = rw (highest_zero n.depots (vector_of r), ← p, version_looked, b)
