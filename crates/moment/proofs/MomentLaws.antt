-- What is told, as words: of one record, and one more run of words behind those that stand; and the maximum with a part that is a vector.
-- Assumes nothing.
use Prim.Native.Nat.{ℕ, zero, suc, ◌+◌, ◌*◌, ◌-◌, ◌≤◌, ◌<◌}
use native.Mathlib.Nat.{lt_of_lt_of_le}
use native.Mathlib.Omega.{arith}
use native.Mathlib.Numerals.{add-one}
use mathlib.Core.Path.{◌≡◌, refl, sym, ◌∙◌, ap}
use mathlib.Core.Logic.{⊎_elim}
use mathlib.Core.List.{List, [], ◌∷◌, ◌++◌, map}
use mathlib.Core.Bool.{true, false}
use lib.ListN.{length, get_or, take, drop, set, replicate}
use lib.Seq.{sets, get_or-take, get_or-drop}
use Rattle.loops.specs.Loops.{pick}
use Rattle.loops.proofs.BoolLaws.{decided, pick_true, pick_false}
use Rattle.order.specs.Vector.{vector_in, vector_at, merged_at, zeros}
use Rattle.order.specs.Record.{vector_of, value_of, diameter_of, width_of}
use Rattle.book.specs.Words.{part, put}
use Rattle.book.specs.Layout.{crew_at, stored_at, stored}
use Rattle.paper.specs.Calls.{Told, read_value, read_unwritten}
use Rattle.paper.specs.Answers.{padded, told_in, entries_told, told_words, page_words}
use Rattle.register.specs.Answers.{cut, told}
use Rattle.register.proofs.HomeLaws.{cut_padded, cut_count, merged_same}
use Rattle.register.proofs.MadeLaws.{cut_at}

-- ---- one record

module _ (n : ℕ) (r : List ℕ) (h : n ≤ 4) where
  pub words_unwritten : zeros n (vector_of r) ≡ true → told_words (told n r) ≡ 0 ∷ 0 ∷ 0 ∷ 0 ∷ cut n (vector_of r)
  unfolding told told_words
  words_unwritten z = ap told_words (pick_true _ _ z) ∙ ap (λ (v : List ℕ). 0 ∷ 0 ∷ 0 ∷ 0 ∷ v) (sym (cut_padded n (vector_of r) h))

  pub words_value : zeros n (vector_of r) ≡ false → told_words (told n r) ≡ 1 ∷ value_of r ∷ diameter_of r ∷ width_of r ∷ cut n (vector_of r)
  unfolding told told_words
  words_value z = ap told_words (pick_false _ _ z) ∙ ap (λ (v : List ℕ). 1 ∷ value_of r ∷ diameter_of r ∷ width_of r ∷ v) (sym (cut_padded n (vector_of r) h))

  pub record_back : told_in n (told_words (told n r)) ≡ told n r
  unfolding told told_in pick
  record_back =
      ⊎_elim
      (λ (z : zeros n (vector_of r) ≡ true). ap (told_in n) (words_unwritten z) ∙ sym (pick_true _ _ z))
      (λ (z : zeros n (vector_of r) ≡ false). ap (told_in n) (words_value z) ∙ sym (pick_false _ _ z))
      (decided (zeros n (vector_of r)))

  pub record_entries : n ≡ length (entries_told (told n r))
  unfolding told entries_told
  record_entries =
      cut_count n (vector_of r) h
      ∙ ⊎_elim
      (λ (z : zeros n (vector_of r) ≡ true). sym (ap (λ (t : Told). length (entries_told t)) (pick_true _ _ z)))
      (λ (z : zeros n (vector_of r) ≡ false). sym (ap (λ (t : Told). length (entries_told t)) (pick_false _ _ z)))
      (decided (zeros n (vector_of r)))

-- ---- the maximum with a part that is a vector

pub merged_part :
    (n : ℕ) (l w : List ℕ) {d own a at : ℕ} {m : List ℕ} → n ≤ 4 → own ≡ d → at ≡ a → m ≡ merged_at n own (vector_in (take (at + 4 - at) (drop at l))) 0 w → m ≡ merged_at n d (vector_at l a) 0 w
merged_part n l w {d} {own} {a} {at} h eo e em =
    em
    ∙ ap (λ (x : ℕ). merged_at n x (vector_in (take (at + 4 - at) (drop at l))) 0 w) eo
    ∙ merged_same n d 0 _ _ w λ x k.
    let four : at + 4 - at ≡ 4 = omega arith in
    ap (λ (i : ℕ). get_or (take i (drop at l)) x 0) four ∙ get_or-take 4 (drop at l) x 0 (lt_of_lt_of_le k h) ∙ get_or-drop at l x 0 ∙ ap (λ (i : ℕ). get_or l (i + x) 0) e

pub merged_found :
    (n c d k : ℕ) (l : List ℕ) {found m : List ℕ} {at crew : ℕ} → n ≤ 4 → at ≡ stored_at d k → found ≡ cut n (vector_in (take (at + 9 - (at + 5)) (drop (at + 5) l))) → crew ≡ crew_at c →
    m ≡ merged_at n n (vector_in found) crew l → m ≡ merged_at n n (vector_of (stored l d k)) (crew_at c) l
unfolding part
merged_found n c d k l {found} {m} {at} {crew} h ea ef ec em =
    em
    ∙ ap (λ (i : ℕ). merged_at n n (vector_in found) i l) ec
    ∙ merged_same n n (crew_at c) _ _ l λ x z.
    let four : at + 9 - (at + 5) ≡ 4 = omega arith in
    let same : at + 5 + x ≡ stored_at d k + (5 + x) = omega arith in
    ap (λ (v : List ℕ). get_or v x 0) ef
    ∙ cut_at n _ x h z
    ∙ ap (λ (i : ℕ). get_or (take i (drop (at + 5) l)) x 0) four
    ∙ get_or-take 4 (drop (at + 5) l) x 0 (lt_of_lt_of_le z h)
    ∙ get_or-drop (at + 5) l x 0
    ∙ ap (λ (i : ℕ). get_or l i 0) same
    ∙ sym (get_or-drop (stored_at d k) l (5 + x) 0)
    ∙ sym (get_or-take 9 (drop (stored_at d k) l) (5 + x) 0 (omega arith))

-- ---- one more run

set_past : (t : Told) (w : List ℕ) (a x : ℕ) → set (told_words t ++ w) (suc (suc (suc (suc (suc (suc (suc (suc a)))))))) x ≡ told_words t ++ set w a x
unfolding told_words padded
set_past (read_value p u) w a x = refl
set_past (read_unwritten u) w a x = refl

sets_past : (t : Told) (v w : List ℕ) (a : ℕ) → sets (told_words t ++ w) (suc (suc (suc (suc (suc (suc (suc (suc a)))))))) v ≡ told_words t ++ sets w a v
sets_past t [] w a = refl
sets_past t (x ∷ v) w a =
    ap (λ (z : List ℕ). sets z (suc (suc (suc (suc (suc (suc (suc (suc (suc a))))))))) v) (set_past t w a x) ∙ sets_past t v (set w a x) (suc a)

put_first : (t : Told) (w : List ℕ) → put (replicate 8 0 ++ w) 0 (told_words t) ≡ told_words t ++ w
unfolding put told_words padded
put_first (read_value p u) w = refl
put_first (read_unwritten u) w = refl

pub page_put : (m : ℕ) (ts : List Told) (t : Told) → length ts < m → put (page_words m ts) (8 * length ts) (told_words t) ≡ page_words m (ts ++ t ∷ [])
unfolding page_words put
page_put zero ts t h = absurd (omega arith)
page_put (suc m) [] t h = put_first t (page_words m [])
page_put (suc m) (s ∷ ts) t h =
    let e : 8 * suc (length ts) ≡ suc (suc (suc (suc (suc (suc (suc (suc (8 * length ts)))))))) = omega arith in
    ap (λ (a : ℕ). sets (told_words s ++ page_words m ts) a (told_words t)) e
    ∙ sets_past s (told_words t) (page_words m ts) (8 * length ts)
    ∙ ap (λ (w : List ℕ). told_words s ++ w) (page_put m ts t (omega arith))

-- what is told of the first i of a list, and of one more
map_take_more : {A : Type 0} (f : ℕ → A) (ks : List ℕ) (i : ℕ) → i < length ks → map f (take (suc i) ks) ≡ map f (take i ks) ++ f (get_or ks i 0) ∷ []
map_take_more f [] i h = absurd (omega arith)
map_take_more f (k ∷ ks) zero h = refl
map_take_more f (k ∷ ks) (suc i) h = ap (λ (z : List _). f k ∷ z) (map_take_more f ks i (omega arith))

length_map_take : {A : Type 0} (f : ℕ → A) (ks : List ℕ) (i : ℕ) → i ≤ length ks → length (map f (take i ks)) ≡ i
length_map_take f ks zero h = refl
length_map_take f [] (suc i) h = absurd (omega arith)
length_map_take f (k ∷ ks) (suc i) h = ap suc (length_map_take f ks i (omega arith))

take_whole : (ks : List ℕ) (i : ℕ) → length ks ≤ i → take i ks ≡ ks
take_whole [] zero h = refl
take_whole [] (suc i) h = refl
take_whole (k ∷ ks) zero h = absurd (omega arith)
take_whole (k ∷ ks) (suc i) h = ap (λ (z : List ℕ). k ∷ z) (take_whole ks i (omega arith))

module _ (f : ℕ → Told) (ks : List ℕ) where
  pub page_none : replicate 64 0 ≡ page_words 8 (map f (take 0 ks))
  unfolding page_words
  page_none = refl

  pub page_more :
      (i : ℕ) {w v : List ℕ} → i < length ks → length ks ≤ 8 → w ≡ page_words 8 (map f (take i ks)) → v ≡ put w (8 * i) (told_words (f (get_or ks i 0))) →
      v ≡ page_words 8 (map f (take (i + 1) ks))
  page_more i {w} h k e g =
      let n = length_map_take f ks i (omega arith) in
      g
      ∙ ap (λ (x : List ℕ). put x (8 * i) (told_words (f (get_or ks i 0)))) e
      ∙ ap (λ (a : ℕ). put (page_words 8 (map f (take i ks))) (8 * a) (told_words (f (get_or ks i 0)))) (sym n)
      ∙ page_put 8 (map f (take i ks)) (f (get_or ks i 0)) (omega (arith, n))
      ∙ ap (page_words 8) (sym (map_take_more f ks i h))
      ∙ ap (λ (j : ℕ). page_words 8 (map f (take j ks))) (sym (add-one i))

  pub page_done : (i : ℕ) {w : List ℕ} → length ks ≤ i → w ≡ page_words 8 (map f (take i ks)) → w ≡ page_words 8 (map f ks)
  page_done i h e = e ∙ ap (λ (x : List ℕ). page_words 8 (map f x)) (take_whole ks i h)
