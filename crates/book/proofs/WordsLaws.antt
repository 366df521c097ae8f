-- The laws of parts: a part that was put reads back, and every part that lies apart from it stays. All that is said elsewhere of what a
-- writer leaves alone comes from `put_other`.
-- Assumes nothing.
use Prim.Native.Nat.{ℕ, zero, suc, ◌+◌, ◌-◌, ◌≤◌, ◌<◌, min}
use native.Mathlib.Nat.{add-zero, add-suc, suc-add, le_refl, sub-zero, zero-sub, suc-sub-suc}
use native.Mathlib.Numerals.{add-one}
use native.Mathlib.Omega.{arith}
use mathlib.Core.Path.{◌≡◌, refl, sym, ◌∙◌, ap, subst}
use mathlib.Core.Logic.{◌⊎◌, inl, inr}
use mathlib.Core.List.{List, [], ◌∷◌, ◌++◌, append_assoc}
use lib.ListN.{length, get_or, take, drop, set, length-take, length-drop, length-set}
use lib.Seq.{paste, sets, sets-eq, length-sets, get_or-take, get_or-drop, get_or-set_same, get_or-set_other, take-suc, take-take, take-nil, drop-drop, ext_get_or}
use borrow.Rule.Slice.PartMut.{put_mid}
use Rattle.loops.proofs.BoolLaws.{le_or_lt}
use Rattle.book.specs.Words.{part, put, Apart, Forward}

module _ (l : List ℕ) where
  pub length_part : (a n : ℕ) → a + n ≤ length l → length (part l a n) ≡ n
  unfolding part
  length_part a n h = length-take n (drop a l) ∙ rw length-drop (omega arith)

  pub part_at : (a n i : ℕ) → i < n → get_or (part l a n) i 0 ≡ get_or l (a + i) 0
  unfolding part
  part_at a n i h = get_or-take n (drop a l) i 0 h ∙ get_or-drop a l i 0

  -- the part that a slice from a to e lends
  pub part_lent : (a e n : ℕ) → e ≡ a + n → take (e - a) (drop a l) ≡ part l a n
  unfolding part
  part_lent a e n q = let k : e - a ≡ n = omega arith in rw k

  pub part_from : (n : ℕ) {a at : ℕ} → at ≡ a → take (at + n - at) (drop at l) ≡ part l a n
  part_from n {a} {at} e = part_lent at (at + n) n refl ∙ ap (λ (i : ℕ). part l i n) e

  pub part_none : (a : ℕ) → part l a 0 ≡ []
  unfolding part
  part_none a = refl

  pub part_more : (a i : ℕ) → a + i < length l → part l a (i + 1) ≡ part l a i ++ get_or l (a + i) 0 ∷ []
  unfolding part
  part_more a i h =
      ap (λ (k : ℕ). take k (drop a l)) (add-one i)
      ∙ take-suc (drop a l) i 0 (rw length-drop (omega arith))
      ∙ ap (λ (w : ℕ). take i (drop a l) ++ w ∷ []) (get_or-drop a l i 0)

  pub length_put : (a : ℕ) (v : List ℕ) → length (put l a v) ≡ length l
  unfolding put
  length_put a v = length-sets l a v

  pub put_none : (a : ℕ) → put l a [] ≡ l
  unfolding put
  put_none a = refl

  pub put_one : (a w : ℕ) → put l a (w ∷ []) ≡ set l a w
  unfolding put
  put_one a w = refl

-- one word more
pub put_more : (l : List ℕ) (a : ℕ) (v : List ℕ) (w : ℕ) → set (put l a v) (a + length v) w ≡ put l a (v ++ w ∷ [])
unfolding put
put_more l a [] w = ap (λ (i : ℕ). set l i w) (add-zero a)
put_more l a (u ∷ v) w = ap (λ (i : ℕ). set (sets (set l a u) (suc a) v) i w) (add-suc a (length v) ∙ sym (suc-add a (length v))) ∙ put_more (set l a u) (suc a) v w

-- word by word: outside stands what was there, inside what was put
pub put_out : (l : List ℕ) (a : ℕ) (v : List ℕ) (j : ℕ) → (j < a) ⊎ (a + length v ≤ j) → get_or (put l a v) j 0 ≡ get_or l j 0
unfolding put
put_out l a [] j out = refl
put_out l a (u ∷ v) j (inl p) = put_out (set l a u) (suc a) v j (inl (omega arith)) ∙ get_or-set_other l a j u 0 (omega arith)
put_out l a (u ∷ v) j (inr p) = put_out (set l a u) (suc a) v j (inr (omega arith)) ∙ get_or-set_other l a j u 0 (omega arith)

pub put_in : (l : List ℕ) (a : ℕ) (v : List ℕ) → a + length v ≤ length l → (i : ℕ) → i < length v → get_or (put l a v) (a + i) 0 ≡ get_or v i 0
unfolding put
put_in l a [] room i h = absurd (omega arith)
put_in l a (u ∷ v) room zero h =
    ap (λ (j : ℕ). get_or (sets (set l a u) (suc a) v) j 0) (add-zero a)
    ∙ put_out (set l a u) (suc a) v a (inl (le_refl _))
    ∙ get_or-set_same l a u 0 (omega arith)
put_in l a (u ∷ v) room (suc i) h =
    ap (λ (j : ℕ). get_or (sets (set l a u) (suc a) v) j 0) (add-suc a i ∙ sym (suc-add a i))
    ∙ put_in (set l a u) (suc a) v (rw length-set (omega arith)) i (omega arith)

-- two books that agree from a on for n words have the same part there
pub part_same : (l m : List ℕ) (a n : ℕ) → length l ≡ length m → ((i : ℕ) → i < n → get_or l (a + i) 0 ≡ get_or m (a + i) 0) → part l a n ≡ part m a n
part_same l m a n e h =
    ext_get_or 0 (part l a n) (part m a n) (lengths)
    (λ i k. let j = below i k in part_at l a n i j ∙ h i j ∙ sym (part_at m a n i j))
  where
    lengths : length (part l a n) ≡ length (part m a n)
    lengths = unfold part in length-take n (drop a l) ∙ ap (min n) (length-drop a l ∙ ap (λ (k : ℕ). k - a) e ∙ sym (length-drop a m)) ∙ sym (length-take n (drop a m))

    below : (i : ℕ) → i < length (part l a n) → i < n
    below i k = let t : length (part l a n) ≡ min n (length (drop a l)) = (unfold part in length-take n (drop a l)) in omega arith

-- a part of a part
pub part_part : (l : List ℕ) (a n b m : ℕ) → b + m ≤ n → part (part l a n) b m ≡ part l (a + b) m
unfolding part
part_part l a n b m h =
    ap (take m) (drop_take n b (drop a l)) ∙ take-take m (n - b) (drop b (drop a l)) (omega arith) ∙ ap (take m) (drop-drop b a l)
  where
    drop_take : (n b : ℕ) (k : List ℕ) → drop b (take n k) ≡ take (n - b) (drop b k)
    drop_take n zero k = ap (λ (x : ℕ). take x k) (sym (sub-zero n))
    drop_take zero (suc b) k = refl ∙ sym (ap (λ (x : ℕ). take x (drop (suc b) k)) (zero-sub (suc b)))
    drop_take (suc n) (suc b) [] = sym (take-nil (suc n - suc b))
    drop_take (suc n) (suc b) (x ∷ k) = drop_take n b k ∙ ap (λ (y : ℕ). take y (drop b k)) (sym (suc-sub-suc n b))

-- reads back what was written
pub put_same : (l : List ℕ) (a : ℕ) (v : List ℕ) → a + length v ≤ length l → part (put l a v) a (length v) ≡ v
put_same l a v room =
    ext_get_or 0 _ v size λ i k. part_at (put l a v) a (length v) i (subst (λ (n : ℕ). i < n) size k) ∙ put_in l a v room i (subst (λ (n : ℕ). i < n) size k)
  where
    size : length (part (put l a v) a (length v)) ≡ length v
    size = length_part (put l a v) a (length v) (rw length_put room)

-- leaves every part alone that lies apart: the one lemma on disjoint places
pub put_other : (l : List ℕ) (a : ℕ) (v : List ℕ) (b n : ℕ) → Apart a (length v) b n → part (put l a v) b n ≡ part l b n
put_other l a v b n (inl p) = part_same _ l b n (length_put l a v) λ i h. put_out l a v (b + i) (inr (omega arith))
put_other l a v b n (inr p) = part_same _ l b n (length_put l a v) λ i h. put_out l a v (b + i) (inl (omega arith))

-- ---- what a write to a run of words leaves is that run put there

pub put_is : (l : List ℕ) (a : ℕ) (v : List ℕ) → a + length v ≤ length l → put l a v ≡ take a l ++ v ++ drop (a + length v) l
unfolding put
put_is l a v room = sets-eq v l a room

pub put_run : (l : List ℕ) (a k : ℕ) (v : List ℕ) {w : List ℕ} → w ≡ v → k ≡ length v → a + length v ≤ length l → put_mid a k l w ≡ put l a v
put_run l a k v e size room =
    rw (e, size)
    (ap (λ (d : List ℕ). take a l ++ (v ++ d)) (drop-drop (length v) a l) ∙ sym (append_assoc (take a l) v (drop (a + length v) l)) ∙ sym (put_is l a v room))

pub put_copied : (l : List ℕ) (a e c n : ℕ) → e ≡ a + n → a + n ≤ length l → c + n ≤ length l → paste l c (drop a l) (e - a) ≡ put l c (part l a n)
put_copied l a e c n end room there =
    let size = length_part l a n room in
    ap (λ (v : List ℕ). take c l ++ v ++ drop (c + (e - a)) l) (part_lent l a e n end)
    ∙ ap (λ (k : ℕ). take c l ++ part l a n ++ drop (c + k) l) (omega (arith, size))
    ∙ sym (put_is l c (part l a n) (rw size there))

-- ---- the loops that put words one by one

pub put_step : (l : List ℕ) (a : ℕ) (v : List ℕ) (i w : ℕ) {b : List ℕ} → length v ≡ i → b ≡ put l a v → set b (a + i) w ≡ put l a (v ++ w ∷ [])
put_step l a v i w e h = ap (λ (m : List ℕ). set m (a + i) w) h ∙ ap (λ (k : ℕ). set (put l a v) (a + k) w) (sym e) ∙ put_more l a v w

pub copy_step :
    (l : List ℕ) (a c n i : ℕ) {b : List ℕ} → i < n → a + n ≤ length l → Forward a c n → b ≡ put l c (part l a i) →
    set b (c + i) (get_or b (a + i) 0) ≡ put l c (part l a (i + 1))
copy_step l a c n i {b} h room forward q =
    ap (λ (w : ℕ). set b (c + i) w) (ap (λ (m : List ℕ). get_or m (a + i) 0) q ∙ put_out l c (part l a i) (a + i) (outside forward))
    ∙ put_step l c (part l a i) i (get_or l (a + i) 0) size q
    ∙ ap (put l c) (sym (part_more l a i (omega arith)))
  where
    size : length (part l a i) ≡ i
    size = length_part l a i (omega arith)

    outside : Forward a c n → (a + i < c) ⊎ (c + length (part l a i) ≤ a + i)
    outside (inl p) = inr (rw size (omega arith))
    outside (inr p) = inl (omega arith)

-- a part put where it stands changes nothing
pub put_itself : (l : List ℕ) (a n : ℕ) → a + n ≤ length l → put l a (part l a n) ≡ l
put_itself l a n room = ext_get_or 0 _ l (length_put l a (part l a n)) λ j h. go j (le_or_lt a j) (le_or_lt (a + n) j)
  where
    size : length (part l a n) ≡ n
    size = length_part l a n room

    go : (j : ℕ) → (a ≤ j) ⊎ (j < a) → (a + n ≤ j) ⊎ (j < a + n) → get_or (put l a (part l a n)) j 0 ≡ get_or l j 0
    go j (inr p) q = put_out l a (part l a n) j (inl p)
    go j (inl p) (inl q) = put_out l a (part l a n) j (inr (rw size q))
    go j (inl p) (inr q) =
        let e : a + (j - a) ≡ j = omega arith in
        ap (λ (x : ℕ). get_or (put l a (part l a n)) x 0) (sym e)
        ∙ put_in l a (part l a n) (rw size room) (j - a) (rw size (omega arith))
        ∙ part_at l a n (j - a) (omega arith)
        ∙ ap (λ (x : ℕ). get_or l x 0) e
