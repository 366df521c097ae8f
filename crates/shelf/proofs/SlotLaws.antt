-- A link as the list of its slots, and what putting, closing up and sending make of that list.
-- Assumes nothing.
use Prim.Native.Nat.{ℕ, zero, suc, ◌+◌, ◌*◌, ◌-◌, ◌≤◌, ◌<◌}
use native.Mathlib.Nat.{le_refl, le_step, add-zero, add-suc, zero-add}
use native.Mathlib.Numerals.{add-one}
use native.Mathlib.Omega.{arith}
use mathlib.Core.Path.{◌≡◌, refl, sym, ◌∙◌, ap, ap₂, subst}
use mathlib.Core.Logic.{inl}
use mathlib.Core.List.{List, [], ◌∷◌, ◌++◌, append_assoc}
use lib.ListN.{length, get_or, length-append, replicate}
use lib.Seq.{ext_get_or}
use Rattle.book.specs.Words.{part, put}
use Rattle.book.specs.Layout.{slot_at, slot}
use Rattle.book.proofs.WordsLaws.{length_part, part_at, length_put, put_out, put_in}
use Rattle.shelf.specs.Show.{closed_up}
use Rattle.shelf.proofs.FrameLaws.{part_off, length_closed_up, closed_up_off}

-- f 0, f 1, .. and f (n - 1)
unfoldable pub listed : {A : Type 0} → ℕ → (ℕ → A) → List A
listed zero f = []
listed (suc n) f = listed n f ++ (f n ∷ [])

module _ {A : Type 0} where
  pub length_listed : (n : ℕ) (f : ℕ → A) → length (listed n f) ≡ n
  unfolding listed
  length_listed zero f = refl
  length_listed (suc n) f = length-append (listed n f) (f n ∷ []) ∙ ap (λ (k : ℕ). k + 1) (length_listed n f) ∙ add-one n

  pub listed_same : (n : ℕ) (f g : ℕ → A) → ((i : ℕ) → i < n → f i ≡ g i) → listed n f ≡ listed n g
  unfolding listed
  listed_same zero f g h = refl
  listed_same (suc n) f g h = ap₂ (λ (a : List A) (b : A). a ++ (b ∷ [])) (listed_same n f g (λ i k. h i (le_step k))) (h n (le_refl _))

  pub listed_add : (n m : ℕ) (f : ℕ → A) → listed (n + m) f ≡ listed n f ++ listed m (λ i. f (n + i))
  unfolding listed
  listed_add n zero f = ap (λ (k : ℕ). listed k f) (add-zero n) ∙ sym (mathlib.Core.List.append-nil (listed n f))
  listed_add n (suc m) f =
      ap (λ (k : ℕ). listed k f) (add-suc n m)
      ∙ ap (λ (a : List A). a ++ (f (n + m) ∷ [])) (listed_add n m f)
      ∙ append_assoc (listed n f) (listed m (λ i. f (n + i))) (f (n + m) ∷ [])

-- the n slots of link q from slot a on
unfoldable pub slots : List ℕ → ℕ → ℕ → ℕ → List (List ℕ)
slots l q a n = listed n (λ i. slot l q (a + i))

pub length_slots : (l : List ℕ) (q a n : ℕ) → length (slots l q a n) ≡ n
unfolding slots
length_slots l q a n = length_listed n _

pub slots_none : (l : List ℕ) (q a : ℕ) → slots l q a 0 ≡ []
unfolding slots listed
slots_none l q a = refl

pub slots_suc : (l : List ℕ) (q a n : ℕ) → slots l q a (suc n) ≡ slots l q a n ++ (slot l q (a + n) ∷ [])
unfolding slots listed
slots_suc l q a n = refl

pub slots_more : (l : List ℕ) (q a n : ℕ) → slots l q a (n + 1) ≡ slots l q a n ++ (slot l q (a + n) ∷ [])
slots_more l q a n = ap (slots l q a) (add-one n) ∙ slots_suc l q a n

pub slots_add : (l : List ℕ) (q a n m : ℕ) → slots l q a (n + m) ≡ slots l q a n ++ slots l q (a + n) m
unfolding slots
slots_add l q a n m = listed_add n m _ ∙ ap (λ (r : List (List ℕ)). listed n (λ i. slot l q (a + i)) ++ r) (listed_same m _ _ λ i k. ap (slot l q) (omega arith))

-- the first and the rest
slots_one : (l : List ℕ) (q a : ℕ) → slots l q a 1 ≡ slot l q a ∷ []
unfolding slots listed
slots_one l q a = ap (λ (k : ℕ). slot l q k ∷ []) (add-zero a)

pub slots_first : (l : List ℕ) (q a n : ℕ) → slots l q a (suc n) ≡ slot l q a ∷ slots l q (a + 1) n
slots_first l q a n =
    let e : suc n ≡ 1 + n = omega arith in
    ap (slots l q a) e ∙ slots_add l q a 1 n ∙ ap (λ (r : List (List ℕ)). r ++ slots l q (a + 1) n) (slots_one l q a)

-- links with the same slots, in the same book or another, at the same places or others
pub slots_same : (l m : List ℕ) (q p a b n : ℕ) → ((i : ℕ) → i < n → slot l q (a + i) ≡ slot m p (b + i)) → slots l q a n ≡ slots m p b n
unfolding slots
slots_same l m q p a b n h = listed_same n _ _ h

pub slots_off :
    (l m : List ℕ) (q a n : ℕ) → length m ≡ length l → ((j : ℕ) → slot_at q a ≤ j → j < slot_at q (a + n) → get_or m j 0 ≡ get_or l j 0) → slots m q a n ≡ slots l q a n
slots_off l m q a n e h = slots_same m l q q a a n λ i k. part_off m l (slot_at q (a + i)) 10 e λ j x y. h j (omega arith) (omega arith)

-- two parts with the same words, wherever they stand
pub part_moved :
    (l m : List ℕ) (a b n : ℕ) → a + n ≤ length l → b + n ≤ length m → ((i : ℕ) → i < n → get_or l (a + i) 0 ≡ get_or m (b + i) 0) → part l a n ≡ part m b n
part_moved l m a b n p r h =
    ext_get_or 0 _ _ (length_part l a n p ∙ sym (length_part m b n r)) λ i k.
    let z : i < n = subst (λ (x : ℕ). i < x) (length_part l a n p) k in
    part_at l a n i z ∙ h i z ∙ sym (part_at m b n i z)

-- ---- closing up

module _ (q j g h : ℕ) (l : List ℕ) (room : j + g ≤ h) (full : slot_at q h ≤ length l) where
  -- before the gap
  pub closed_up_before : (i : ℕ) → i < j → slot (closed_up q j g h l) q i ≡ slot l q i
  closed_up_before i k = part_off _ l (slot_at q i) 10 (length_closed_up q j g h l) λ x a b. closed_up_off q j g h l x room (omega arith)

  -- behind it
  pub closed_up_behind : (i : ℕ) → i < h - (j + g) → slot (closed_up q j g h l) q (j + i) ≡ slot l q (j + g + i)
  unfolding closed_up
  closed_up_behind i k =
      part_moved _ l (slot_at q (j + i)) (slot_at q (j + g + i)) 10 (rw (length_put, length_put) (omega arith)) (omega arith) λ y z.
      put_out (put l (slot_at q j) (part l (slot_at q (j + g)) (10 * (h - (j + g))))) (slot_at q (h - g)) (replicate (10 * g) 0) (slot_at q (j + i) + y) (inl (omega arith))
      ∙ ap (λ (x : ℕ). get_or (put l (slot_at q j) (part l (slot_at q (j + g)) (10 * (h - (j + g))))) x 0) (omega arith)
      ∙ put_in l (slot_at q j) (part l (slot_at q (j + g)) (10 * (h - (j + g)))) (rw size (omega arith)) (10 * i + y) (rw size (omega arith))
      ∙ part_at l (slot_at q (j + g)) (10 * (h - (j + g))) (10 * i + y) (omega arith)
      ∙ ap (λ (x : ℕ). get_or l x 0) (omega arith)
    where
      size : length (part l (slot_at q (j + g)) (10 * (h - (j + g)))) ≡ 10 * (h - (j + g))
      size = length_part l (slot_at q (j + g)) (10 * (h - (j + g))) (omega arith)

  -- in lists: the first j slots, then the old ones from j + g on
  pub closed_up_first : slots (closed_up q j g h l) q 0 j ≡ slots l q 0 j
  closed_up_first = slots_same _ l q q 0 0 j λ i k. rw zero-add (closed_up_before i k)

  pub closed_up_rest : slots (closed_up q j g h l) q j (h - (j + g)) ≡ slots l q (j + g) (h - (j + g))
  closed_up_rest = slots_same _ l q q j (j + g) (h - (j + g)) closed_up_behind
