-- The laws of vectors, each over the number of entries: what the tests say of each entry, and what the entrywise maximum leaves.
-- Assumes nothing.
use Prim.Native.Nat.{ℕ, zero, suc, ◌+◌, ◌≤◌, ◌<◌, max}
use native.Mathlib.Numerals.{add-one}
use native.Mathlib.Nat.{le_refl, le_step}
use native.Mathlib.Omega.{arith}
use mathlib.Core.Path.{◌≡◌, refl, sym, ◌∙◌, ap, ap₂}
use mathlib.Core.Logic.{◌⊎◌, inl, inr, ⊎_elim}
use mathlib.Core.List.{List}
use mathlib.Core.Bool.{Bool, true, false, ◌||◌}
use lib.Dec.{leb, eqb}
use lib.ListN.{length, get_or, set, length-set}
use lib.Seq.{get_or-set_same, get_or-set_other}
use borrow.Author.Tests.{le-leb, leb-true, eq-eqb, eqb-true, ne_eqb}
use Rattle.loops.specs.Loops.{times, pick}
use Rattle.order.specs.Vector.{Vec, covered, zeros, agree, sum, merge_one, merged_at}
use Rattle.loops.proofs.BoolLaws.{failed, or_cases, or_left, or_right, le_or_lt, eq_or_ne, pick_true, pick_false}
use Rattle.loops.proofs.LoopLaws.{times_keeps, every_at, every_intro, every_same}

-- covered in all entries but one
pub covered_at_law : (n d : ℕ) (u v : Vec) → covered n d u v ≡ true → (x : ℕ) → x < n → (x ≡ d → ⊥) → u x ≤ v x
unfolding covered
covered_at_law n d u v h x l other =
    ⊎_elim
    (λ (e : eqb x d ≡ true). absurd (other (eqb-true x d e)))
    (λ (e : leb (u x) (v x) ≡ true). leb-true (u x) (v x) e)
    (or_cases (eqb x d) (leb (u x) (v x)) (every_at n _ h x l))

pub covered_intro : (n d : ℕ) (u v : Vec) → ((x : ℕ) → x < n → (x ≡ d → ⊥) → u x ≤ v x) → covered n d u v ≡ true
unfolding covered
covered_intro n d u v h =
    every_intro n _ λ x l.
    ⊎_elim
    (λ (e : x ≡ d). or_left (eqb x d) _ (eq-eqb x d e))
    (λ (e : x ≡ d → ⊥). or_right (eqb x d) _ (le-leb (u x) (v x) (h x l e)))
    (eq_or_ne x d)

-- an entry that is not covered
pub covered_stop : (n d : ℕ) (u v : Vec) (x : ℕ) → x < n → (x ≡ d → ⊥) → v x < u x → covered n d u v ≡ false
covered_stop n d u v x l other h = failed _ λ e. let k = covered_at_law n d u v e x l other in omega arith

-- covered is a test of the n entries alone
pub covered_same : (n d : ℕ) (u v u' v' : Vec) → ((x : ℕ) → x < n → u x ≡ u' x) → ((x : ℕ) → x < n → v x ≡ v' x) → covered n d u v ≡ covered n d u' v'
unfolding covered
covered_same n d u v u' v' p q = every_same n _ _ λ x l. ap₂ (λ (a b : ℕ). eqb x d || leb a b) (p x l) (q x l)

pub zeros_at : (n : ℕ) (u : Vec) → zeros n u ≡ true → (x : ℕ) → x < n → u x ≡ 0
unfolding zeros
zeros_at n u h x l = eqb-true (u x) 0 (every_at n _ h x l)

pub zeros_intro : (n : ℕ) (u : Vec) → ((x : ℕ) → x < n → u x ≡ 0) → zeros n u ≡ true
unfolding zeros
zeros_intro n u h = every_intro n _ λ x l. eq-eqb (u x) 0 (h x l)

-- an entry that is not 0 is written
pub zeros_stop : (n : ℕ) (u : Vec) (x : ℕ) → x < n → (u x ≡ 0 → ⊥) → zeros n u ≡ false
zeros_stop n u x l h = failed _ λ e. h (zeros_at n u e x l)

pub written_at : (n : ℕ) (u : Vec) (x : ℕ) → x < n → 0 < u x → zeros n u ≡ false
written_at n u x l h = zeros_stop n u x l λ e. omega arith

pub zeros_same : (n : ℕ) (u v : Vec) → ((x : ℕ) → x < n → u x ≡ v x) → zeros n u ≡ zeros n v
unfolding zeros
zeros_same n u v h = every_same n _ _ λ x l. ap (λ (a : ℕ). eqb a 0) (h x l)

pub agree_at : (n : ℕ) (u v : Vec) → agree n u v ≡ true → (x : ℕ) → x < n → u x ≡ v x
unfolding agree
agree_at n u v h x l = eqb-true (u x) (v x) (every_at n _ h x l)

pub agree_intro : (n : ℕ) (u v : Vec) → ((x : ℕ) → x < n → u x ≡ v x) → agree n u v ≡ true
unfolding agree
agree_intro n u v h = every_intro n _ λ x l. eq-eqb (u x) (v x) (h x l)

-- the sum, entry after entry
pub sum_none : (u : Vec) → sum 0 u ≡ 0
unfolding sum
sum_none u = refl

pub sum_more : (x : ℕ) (u : Vec) {t : ℕ} → t ≡ sum x u → t + u x ≡ sum (x + 1) u
unfolding sum
sum_more x u e = ap (λ (t : ℕ). t + u x) e ∙ rw add-one

-- the sum looks at the n entries alone
pub sum_same : (n : ℕ) (u v : Vec) → ((x : ℕ) → x < n → u x ≡ v x) → sum n u ≡ sum n v
unfolding sum
sum_same zero u v h = refl
sum_same (suc n) u v h = ap₂ (λ (s t : ℕ). s + t) (sum_same n u v (λ x l. h x (le_step l))) (h n (le_refl _))

-- the sum of an entrywise larger vector is not smaller
pub sum_le : (n : ℕ) (u v : Vec) → ((x : ℕ) → x < n → u x ≤ v x) → sum n u ≤ sum n v
unfolding sum
sum_le zero u v h = le_refl _
sum_le (suc n) u v h = let rest = sum_le n u v (λ x l. h x (le_step l)) in let last = h n (le_refl _) in omega arith

-- equal sums, with one vector entrywise at most the other, make equal entries
pub sum_equal : (n : ℕ) (u v : Vec) → ((x : ℕ) → x < n → u x ≤ v x) → sum n u ≡ sum n v → (x : ℕ) → x < n → u x ≡ v x
unfolding sum
sum_equal zero u v h e x l = absurd (omega arith)
sum_equal (suc n) u v h e x l =
    let rest = sum_le n u v (λ y k. h y (le_step k)) in
    let last = h n (le_refl _) in
    ⊎_elim
    (λ (k : x ≡ n). rw k (omega arith))
    (λ (k : x ≡ n → ⊥). sum_equal n u v (λ y i. h y (le_step i)) (omega arith) x (omega arith))
    (eq_or_ne x n)

-- so a difference makes the sum of the entrywise larger one greater
pub sum_less : (n : ℕ) (u v : Vec) → ((x : ℕ) → x < n → u x ≤ v x) → (x : ℕ) → x < n → u x < v x → sum n u < sum n v
sum_less n u v h x l more =
    ⊎_elim
    (λ (k : sum n v ≤ sum n u). let some = sum_le n u v h in let same = sum_equal n u v h (omega arith) x l in absurd (omega arith))
    (λ (k : sum n u < sum n v). k)
    (le_or_lt (sum n v) (sum n u))

-- the sum of nothing but zeros is 0
sum_nothing : (n : ℕ) → sum n (λ x. 0) ≡ 0
unfolding sum
sum_nothing zero = refl
sum_nothing (suc n) = ap (λ (t : ℕ). t + 0) (sum_nothing n)

pub sum_zeros : (n : ℕ) (u : Vec) → zeros n u ≡ true → sum n u ≡ 0
sum_zeros n u z = sum_same n u (λ x. 0) (zeros_at n u z) ∙ sum_nothing n

-- one entry's maximum among words: that of depot d stays, and any other becomes the larger
pub merge_one_own : (d at x v : ℕ) (l : List ℕ) → x ≡ d → l ≡ merge_one d at x v l
unfolding merge_one
merge_one_own d at x v l e = sym (pick_true _ _ (eq-eqb x d e))

pub merge_one_rest : (d at x v : ℕ) (l : List ℕ) {m : ℕ} → (x ≡ d → ⊥) → m ≡ max (get_or l (at + x) 0) v → set l (at + x) m ≡ merge_one d at x v l
unfolding merge_one
merge_one_rest d at x v l e h = ap (λ (a : ℕ). set l (at + x) a) h ∙ sym (pick_false _ _ (ne_eqb x d e))

-- the length stays, and so does every other word
pub length_merge_one : (d at x v : ℕ) (l : List ℕ) → length (merge_one d at x v l) ≡ length l
unfolding merge_one pick
length_merge_one d at x v l = go (eqb x d)
  where
    go : (b : Bool) → length (pick b l (set l (at + x) (max (get_or l (at + x) 0) v))) ≡ length l
    go true = refl
    go false = simp length-set

pub merge_one_other : (d at x v : ℕ) (l : List ℕ) (j : ℕ) → (j ≡ at + x → ⊥) ⊎ (x ≡ d) → get_or (merge_one d at x v l) j 0 ≡ get_or l j 0
unfolding merge_one
merge_one_other d at x v l j (inr e) = ap (λ (m : List ℕ). get_or m j 0) (pick_true _ _ (eq-eqb x d e))
merge_one_other d at x v l j (inl other) = go (eqb x d)
  where
    go : (b : Bool) → get_or (pick b l (set l (at + x) (max (get_or l (at + x) 0) v))) j 0 ≡ get_or l j 0
    go true = unfold pick in refl
    go false = unfold pick in get_or-set_other l (at + x) j (max (get_or l (at + x) 0) v) 0 other

pub merge_one_entry : (d at x v : ℕ) (l : List ℕ) → at + x < length l → (x ≡ d → ⊥) → get_or (merge_one d at x v l) (at + x) 0 ≡ max (get_or l (at + x) 0) v
unfolding merge_one
merge_one_entry d at x v l room other =
    ap (λ (m : List ℕ). get_or m (at + x) 0) (pick_false l (set l (at + x) (max (get_or l (at + x) 0) v)) (ne_eqb x d other))
    ∙ get_or-set_same l (at + x) (max (get_or l (at + x) 0) v) 0 room

-- the entrywise maximum among words: the length stays, the n entries but d's become the maximum, and every other word stays
pub length_merged : (n d : ℕ) (u : Vec) (at : ℕ) (l : List ℕ) → length (merged_at n d u at l) ≡ length l
unfolding merged_at
length_merged n d u at l = times_keeps (λ m. length m ≡ length l) n _ l (λ x m h k. length_merge_one d at x (u x) m ∙ k) refl

pub merged_other : (n d : ℕ) (u : Vec) (at : ℕ) (l : List ℕ) (j : ℕ) → (j < at) ⊎ (at + n ≤ j) → get_or (merged_at n d u at l) j 0 ≡ get_or l j 0
unfolding merged_at
merged_other n d u at l j out =
    times_keeps (λ m. get_or m j 0 ≡ get_or l j 0) n _ l (λ x m h k. merge_one_other d at x (u x) m j (inl (apart x h out)) ∙ k) refl
  where
    apart : (x : ℕ) → x < n → (j < at) ⊎ (at + n ≤ j) → j ≡ at + x → ⊥
    apart x h (inl p) e = omega arith
    apart x h (inr p) e = omega arith

pub merged_own : (n d : ℕ) (u : Vec) (at : ℕ) (l : List ℕ) → get_or (merged_at n d u at l) (at + d) 0 ≡ get_or l (at + d) 0
unfolding merged_at
merged_own n d u at l =
    times_keeps (λ m. get_or m (at + d) 0 ≡ get_or l (at + d) 0) n _ l (λ x m h k. merge_one_other d at x (u x) m (at + d) (apart x (eq_or_ne x d)) ∙ k) refl
  where
    apart : (x : ℕ) → (x ≡ d) ⊎ (x ≡ d → ⊥) → (at + d ≡ at + x → ⊥) ⊎ (x ≡ d)
    apart x (inl e) = inr e
    apart x (inr e) = inl (λ q. e (omega arith))

pub merged_entry : (n d : ℕ) (u : Vec) (at : ℕ) (l : List ℕ) → at + n ≤ length l → (x : ℕ) → x < n → (x ≡ d → ⊥) → get_or (merged_at n d u at l) (at + x) 0 ≡ max (get_or l (at + x) 0) (u x)
unfolding merged_at times
merged_entry zero d u at l room x h other = absurd (omega arith)
merged_entry (suc n) d u at l room x h other = go (λ below. merged_entry n d u at l (omega arith) x below other) (eq_or_ne x n)
  where
    before : List ℕ
    before = merged_at n d u at l

    go : (x < n → get_or before (at + x) 0 ≡ max (get_or l (at + x) 0) (u x)) → (x ≡ n) ⊎ (x ≡ n → ⊥) → get_or (merge_one d at n (u n) before) (at + x) 0 ≡ max (get_or l (at + x) 0) (u x)
    go rest (inl e) =
        rw e (merge_one_entry d at n (u n) before (rw length_merged (omega arith)) (λ q. other (e ∙ q)) ∙ ap (λ (a : ℕ). max a (u n)) (merged_other n d u at l (at + n) (inr (le_refl _))))
    go rest (inr e) = merge_one_other d at n (u n) before (at + x) (inl (λ q. e (omega arith))) ∙ rest (omega arith)
