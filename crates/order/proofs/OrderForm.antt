-- The order as a relation: where two vectors first differ, what it is to be ahead, by the sum and then there, and what it is to be above.
-- Only this crate sees it.
-- Assumes nothing.
use Prim.Native.Nat.{ℕ, zero, suc, ◌≤◌, ◌<◌}
use native.Mathlib.Nat.{le_refl, le_step}
use native.Mathlib.Omega.{arith}
use mathlib.Core.Path.{◌≡◌, refl, sym, ◌∙◌, subst}
use mathlib.Core.Logic.{◌⊎◌, inl, inr, ⊎_elim}
use mathlib.Core.Bool.{true, false, ◌&&◌, ◌||◌, not}
use lib.Dec.{ltb, eqb}
use borrow.Author.Tests.{lt-ltb, ltb-true, eq-eqb, eqb-true}
use Rattle.order.specs.Vector.{Vec, agree, zeros, sum}
use Rattle.order.specs.Order.{Rank, leads, outweighs, above, above_is}
use Rattle.loops.proofs.BoolLaws.{both_ways, failed, and_left, and_right, and_intro, or_cases, or_left, or_right, not_passed, not_failed, le_or_lt, eq_or_ne}
use Rattle.order.proofs.VectorLaws.{agree_at, agree_intro, written_at, sum_same, sum_zeros}

-- ---- the first difference

-- u and v differ first at `place`, and u is greater there
pub record First (n : ℕ) (u v : Vec) : Type 0 where
  pub place : ℕ
  pub inside : place < n
  pub greater : v place < u place
  pub equal : (y : ℕ) → y < place → u y ≡ v y

pub first_of : (n : ℕ) (u v : Vec) → leads n u v ≡ true → First n u v
unfolding leads
first_of zero u v h = absurd (both_ways h refl)
first_of (suc n) u v h =
    ⊎_elim
    (λ (e : leads n u v ≡ true). let f = first_of n u v e in record { place = f.place; inside = le_step f.inside; greater = f.greater; equal = f.equal })
    (λ (e : agree n u v && ltb (v n) (u n) ≡ true).
    record { place = n; inside = le_refl _; greater = ltb-true _ _ (and_right (agree n u v) _ e); equal = agree_at n u v (and_left (agree n u v) _ e) })
    (or_cases (leads n u v) _ h)

pub leads_of : (n : ℕ) (u v : Vec) → First n u v → leads n u v ≡ true
unfolding leads
leads_of zero u v f = let l = f.inside in absurd (omega arith)
leads_of (suc n) u v f =
    ⊎_elim
    (λ (e : f.place ≡ n).
    or_right (leads n u v) _ (and_intro (agree_intro n u v (λ y l. f.equal y (rw e l))) (lt-ltb (v n) (u n) (subst (λ (x : ℕ). v x < u x) e f.greater))))
    (λ (e : f.place ≡ n → ⊥).
    let l = f.inside in
    or_left (leads n u v) _ (leads_of n u v (record { place = f.place; inside = omega arith; greater = f.greater; equal = f.equal })))
    (eq_or_ne f.place n)

-- the first difference of equal entries is the same
first_same : {n : ℕ} {u v u' v' : Vec} → ((x : ℕ) → x < n → u x ≡ u' x) → ((x : ℕ) → x < n → v x ≡ v' x) → First n u v → First n u' v'
first_same p q f =
    record {
      place = f.place;
      inside = f.inside;
      greater = let g = f.greater in let i = p f.place f.inside in let j = q f.place f.inside in omega arith;
      equal = λ y h. let i = f.inside in sym (p y (omega arith)) ∙ f.equal y h ∙ q y (omega arith);
    }

-- of two first differences the earlier is that between the outer two
first_trans : {n : ℕ} {u v w : Vec} → First n u v → First n v w → First n u w
first_trans {n} {u} {v} {w} f g = go (le_or_lt f.place g.place)
  where
    go : (f.place ≤ g.place) ⊎ (g.place < f.place) → First n u w
    go (inr l) =
        record { place = g.place; inside = g.inside; greater = rw (f.equal g.place l) g.greater; equal = λ y h. f.equal y (omega arith) ∙ g.equal y h }
    go (inl l) = record { place = f.place; inside = f.inside; greater = at (eq_or_ne f.place g.place); equal = λ y h. f.equal y h ∙ g.equal y (omega arith) }
      where
        at : (f.place ≡ g.place) ⊎ (f.place ≡ g.place → ⊥) → w f.place < u f.place
        at (inl e) = let p = f.greater in let q : w f.place < v f.place = rw e g.greater in omega arith
        at (inr e) = let p = f.greater in let q = g.equal f.place (omega arith) in omega arith

-- two vectors agree, or one of them has the first difference
data Differ (n : ℕ) (u v : Vec) : Type 0 where
  nowhere : ((x : ℕ) → x < n → u x ≡ v x) → Differ n u v
  up : First n u v → Differ n u v
  down : First n v u → Differ n u v

differ : (n : ℕ) (u v : Vec) → Differ n u v
differ zero u v = nowhere (λ x l. absurd (omega arith))
differ (suc n) u v = go (differ n u v)
  where
    further : {u v : Vec} → First n u v → First (suc n) u v
    further f = record { place = f.place; inside = le_step f.inside; greater = f.greater; equal = f.equal }

    last : (u v : Vec) → ((x : ℕ) → x < n → u x ≡ v x) → v n < u n → First (suc n) u v
    last u v e l = record { place = n; inside = le_refl _; greater = l; equal = e }

    same : ((x : ℕ) → x < n → u x ≡ v x) → u n ≡ v n → (x : ℕ) → x < suc n → u x ≡ v x
    same e q x l = ⊎_elim (λ (k : x ≡ n). rw k q) (λ (k : x ≡ n → ⊥). e x (omega arith)) (eq_or_ne x n)

    go : Differ n u v → Differ (suc n) u v
    go (up f) = up (further f)
    go (down f) = down (further f)
    go (nowhere e) =
        ⊎_elim
        (λ (p : u n ≤ v n).
        ⊎_elim
        (λ (q : v n ≤ u n). nowhere (same e (omega arith)))
        (λ (q : u n < v n). down (last v u (λ x l. sym (e x l)) q))
        (le_or_lt (v n) (u n)))
        (λ (p : v n < u n). up (last u v e p))
        (le_or_lt (u n) (v n))

-- ---- ahead: the greater sum, or equal sums and the first difference

pub data Ahead (n : ℕ) (u v : Vec) : Type 0 where
  heavier : sum n v < sum n u → Ahead n u v
  earlier : sum n u ≡ sum n v → First n u v → Ahead n u v

ahead_of : (n : ℕ) (u v : Vec) → outweighs n u v ≡ true → Ahead n u v
unfolding outweighs
ahead_of n u v h =
    ⊎_elim
    (λ (e : ltb (sum n v) (sum n u) ≡ true). heavier (ltb-true _ _ e))
    (λ (e : eqb (sum n u) (sum n v) && leads n u v ≡ true).
    earlier (eqb-true _ _ (and_left (eqb (sum n u) (sum n v)) _ e)) (first_of n u v (and_right (eqb (sum n u) (sum n v)) _ e)))
    (or_cases (ltb (sum n v) (sum n u)) _ h)

outweighs_of : (n : ℕ) (u v : Vec) → Ahead n u v → outweighs n u v ≡ true
unfolding outweighs
outweighs_of n u v (heavier l) = or_left (ltb (sum n v) (sum n u)) _ (lt-ltb _ _ l)
outweighs_of n u v (earlier e f) = or_right (ltb (sum n v) (sum n u)) _ (and_intro (eq-eqb _ _ e) (leads_of n u v f))

-- equal entries are not ahead of each other
pub ahead_never : {n : ℕ} {u v : Vec} → ((x : ℕ) → x < n → u x ≡ v x) → Ahead n u v → ⊥
ahead_never {n} {u} {v} same (heavier l) = let e = sum_same n u v same in omega arith
ahead_never {n} {u} {v} same (earlier s f) = let g = f.greater in let e = same f.place f.inside in omega arith

pub ahead_trans : {n : ℕ} {u v w : Vec} → Ahead n u v → Ahead n v w → Ahead n u w
ahead_trans (heavier l) (heavier k) = heavier (omega arith)
ahead_trans (heavier l) (earlier e g) = heavier (omega arith)
ahead_trans (earlier e f) (heavier k) = heavier (omega arith)
ahead_trans (earlier e f) (earlier d g) = earlier (e ∙ d) (first_trans f g)

-- only the n entries count
pub ahead_same : {n : ℕ} {u v u' v' : Vec} → ((x : ℕ) → x < n → u x ≡ u' x) → ((x : ℕ) → x < n → v x ≡ v' x) → Ahead n u v → Ahead n u' v'
ahead_same {n} {u} {v} {u'} {v'} p q (heavier l) = let i = sum_same n u u' p in let j = sum_same n v v' q in heavier (omega arith)
ahead_same {n} {u} {v} {u'} {v'} p q (earlier e f) = earlier (sym (sum_same n u u' p) ∙ e ∙ sum_same n v v' q) (first_same p q f)

-- what is ahead is written
pub ahead_written : {n : ℕ} {u v : Vec} → Ahead n u v → zeros n u ≡ false
ahead_written {n} {u} {v} (heavier l) = failed _ λ z. let e = sum_zeros n u z in omega arith
ahead_written {n} {u} {v} (earlier e f) = let g = f.greater in written_at n u f.place f.inside (omega arith)

-- two vectors agree, or one of them is ahead
pub data Compared (n : ℕ) (u v : Vec) : Type 0 where
  equal : ((x : ℕ) → x < n → u x ≡ v x) → Compared n u v
  ahead : Ahead n u v → Compared n u v
  behind : Ahead n v u → Compared n u v

pub compared : (n : ℕ) (u v : Vec) → Compared n u v
compared n u v =
    ⊎_elim
    (λ (p : sum n u ≤ sum n v).
    ⊎_elim
    (λ (q : sum n v ≤ sum n u). level (omega arith) (differ n u v))
    (λ (q : sum n u < sum n v). behind (heavier q))
    (le_or_lt (sum n v) (sum n u)))
    (λ (p : sum n v < sum n u). ahead (heavier p))
    (le_or_lt (sum n u) (sum n v))
  where
    level : sum n u ≡ sum n v → Differ n u v → Compared n u v
    level s (nowhere e) = equal e
    level s (up f) = ahead (earlier s f)
    level s (down f) = behind (earlier (sym s) f)

-- ---- above, as a relation

-- a's vector is ahead of b's; or a is written, has b's vector and a higher origin
pub data Above (n : ℕ) (a b : Rank) : Type 0 where
  leading : Ahead n a.vector b.vector → Above n a b
  higher : zeros n a.vector ≡ false → ((x : ℕ) → x < n → a.vector x ≡ b.vector x) → b.origin < a.origin → Above n a b

pub open_above : {n : ℕ} {a b : Rank} → above n a b ≡ true → Above n a b
open_above {n} {a} {b} h =
    ⊎_elim
    (λ (e : outweighs n a.vector b.vector ≡ true). leading (ahead_of n _ _ e))
    (λ (e : agree n a.vector b.vector && ltb b.origin a.origin ≡ true).
    higher (not_passed (and_left (not (zeros n a.vector)) _ said)) (agree_at n _ _ (and_left (agree n _ _) _ e)) (ltb-true _ _ (and_right (agree n a.vector b.vector) _ e)))
    (or_cases (outweighs n a.vector b.vector) _ (and_right (not (zeros n a.vector)) _ said))
  where
    said : not (zeros n a.vector) && (outweighs n a.vector b.vector || agree n a.vector b.vector && ltb b.origin a.origin) ≡ true
    said = sym (above_is n a b) ∙ h

pub close_above : {n : ℕ} {a b : Rank} → Above n a b → above n a b ≡ true
close_above {n} {a} {b} (leading f) =
    above_is n a b ∙ and_intro (not_failed (ahead_written f)) (or_left (outweighs n a.vector b.vector) _ (outweighs_of n _ _ f))
close_above {n} {a} {b} (higher w e l) =
    above_is n a b ∙ and_intro (not_failed w) (or_right (outweighs n a.vector b.vector) _ (and_intro (agree_intro n _ _ e) (lt-ltb _ _ l)))
