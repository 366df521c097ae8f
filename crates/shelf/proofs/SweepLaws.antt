-- What a sweep comes to: of the taken copies those that are not covered stay in order, and those that are covered are shown in order.
-- Assumes nothing.
use Prim.Native.Nat.{ℕ, zero, suc, ◌+◌, ◌≤◌, ◌<◌}
use native.Mathlib.Nat.{le_refl, le_step, zero-add}
use native.Mathlib.Omega.{arith}
use mathlib.Core.Path.{◌≡◌, refl, sym, ◌∙◌, ap, ap₂, subst}
use mathlib.Core.Logic.{⊎_elim}
use mathlib.Core.List.{List, [], ◌∷◌, ◌++◌, append-nil}
use mathlib.Core.Bool.{Bool, true, false}
use lib.Dec.{eqb, lit≤}
use lib.ListN.{length, get_or}
use borrow.Author.Tests.{eq-eqb, ne_eqb}
use Rattle.loops.specs.Loops.{times, pick}
use Rattle.order.specs.Vector.{covered}
use Rattle.order.specs.Order.{above}
use Rattle.order.specs.Record.{bearing_of, vector_of, rank_of}
use Rattle.loops.proofs.BoolLaws.{decided, pick_true, pick_false, eq_or_ne}
use Rattle.order.proofs.VectorLaws.{covered_same}
use Rattle.book.specs.Words.{part, put}
use Rattle.book.specs.Layout.{stable_at, stored_at, slot_at, slot, stored, stable, record_of}
use Rattle.book.proofs.WordsLaws.{length_part, length_put, put_same}
use Rattle.shelf.specs.Show.{kept_in, Sweep, sweep_one, swept}
use Rattle.shelf.proofs.FrameLaws.{pick_cases, part_off, put_off, length_part_le, length_kept_in, kept_in_off, kept_in_low, length_swept, swept_kept, swept_low, swept_later}
use Rattle.shelf.proofs.SlotLaws.{slots, slots_none, slots_suc, slots_more, slots_off}

-- ---- the lists

-- those that do not pass the test, in order
unfoldable pub staying : {A : Type 0} → (A → Bool) → List A → List A
staying test [] = []
staying test (m ∷ l) = pick (test m) (staying test l) (m ∷ staying test l)

pub staying_append : {A : Type 0} (test : A → Bool) (a b : List A) → staying test (a ++ b) ≡ staying test a ++ staying test b
unfolding staying
staying_append test [] b = refl
staying_append {A} test (m ∷ a) b =
    ap (λ (r : List A). pick (test m) r (m ∷ r)) (staying_append test a b)
    ∙ pick_cases (λ (r : List A). pick (test m) (staying test a ++ staying test b) (m ∷ (staying test a ++ staying test b)) ≡ r ++ staying test b) (test m) _ _
    (λ e. pick_true _ _ e)
    λ e. pick_false _ _ e

-- the records st of a depot's bearings, of which that of r's bearing becomes r if r is greater
unfoldable pub record_kept : ℕ → List ℕ → (ℕ → List ℕ) → ℕ → List ℕ
record_kept n r st k = pick (eqb k (bearing_of r)) (pick (above n (rank_of r) (rank_of (st (bearing_of r)))) r (st (bearing_of r))) (st k)

-- the same for each message that passes the test, in order
unfoldable pub records_shown : ℕ → (List ℕ → Bool) → List (List ℕ) → (ℕ → List ℕ) → ℕ → List ℕ
records_shown n test [] st = st
records_shown n test (m ∷ l) st = records_shown n test l (pick (test m) (record_kept n (record_of m) st) st)

pub records_shown_more :
    (n : ℕ) (test : List ℕ → Bool) (l : List (List ℕ)) (m : List ℕ) (st : ℕ → List ℕ) →
    records_shown n test (l ++ (m ∷ [])) st ≡ pick (test m) (record_kept n (record_of m) (records_shown n test l st)) (records_shown n test l st)
unfolding records_shown
records_shown_more n test [] m st = refl
records_shown_more n test (x ∷ l) m st = records_shown_more n test l m (pick (test x) (record_kept n (record_of x) st) st)

-- ---- one record kept, record by record

record_chosen :
    (b : Bool) (d j k : ℕ) (r l : List ℕ) → length r ≡ 9 → stored_at d j + 9 ≤ length l →
    stored (pick b (put l (stored_at d j) r) l) d k ≡ pick (eqb k j) (pick b r (stored l d j)) (stored l d k)
unfolding pick
record_chosen true d j k r l nine room =
    ⊎_elim
    (λ (e : k ≡ j).
    ap (stored (put l (stored_at d j) r) d) e
    ∙ subst (λ (z : ℕ). part (put l (stored_at d j) r) (stored_at d j) z ≡ r) nine (put_same l (stored_at d j) r (rw nine room))
    ∙ sym (pick_true _ _ (eq-eqb k j e)))
    (λ (e : k ≡ j → ⊥).
    part_off _ l (stored_at d k) 9 (length_put l (stored_at d j) r) (λ x a c. put_off l (stored_at d j) r 9 x (rw nine (le_refl _)) (omega arith))
    ∙ sym (pick_false _ _ (ne_eqb k j e)))
    (eq_or_ne k j)
record_chosen false d j k r l nine room =
    ⊎_elim
    (λ (e : k ≡ j). ap (stored l d) e ∙ sym (pick_true _ _ (eq-eqb k j e)))
    (λ (e : k ≡ j → ⊥). sym (pick_false _ _ (ne_eqb k j e)))
    (eq_or_ne k j)

pub kept_in_stored :
    (n d : ℕ) (r l : List ℕ) → length r ≡ 9 → stored_at d (bearing_of r) + 9 ≤ length l → (k : ℕ) →
    stored (kept_in n d r l) d k ≡ record_kept n r (stored l d) k
unfolding kept_in record_kept
kept_in_stored n d r l nine room k = record_chosen (above n (rank_of r) (rank_of (stored l d (bearing_of r)))) d (bearing_of r) k r l nine room

-- the records of every other depot stay
pub kept_in_other : (n d : ℕ) (r l : List ℕ) → length r ≤ 9 → bearing_of r < 160 → (e k : ℕ) → (e ≡ d → ⊥) → k < 160 → stored (kept_in n d r l) e k ≡ stored l e k
kept_in_other n d r l nine low e k f h = part_off _ l (stored_at e k) 9 (length_kept_in n d r l) λ j a b. kept_in_off n d r l j nine (omega arith)

-- where the records agree in the places that there are, so they do when one is kept
pub record_kept_same :
    (n : ℕ) (r : List ℕ) (st su : ℕ → List ℕ) → bearing_of r < 160 → ((k : ℕ) → k < 160 → st k ≡ su k) → (k : ℕ) → k < 160 → record_kept n r st k ≡ record_kept n r su k
unfolding record_kept
record_kept_same n r st su b h k z =
    ap₂ (λ (x y : List ℕ). pick (eqb k (bearing_of r)) (pick (above n (rank_of r) (rank_of x)) r x) y) (h (bearing_of r) b) (h k z)

-- ---- the sweep

-- the copy in the ten words m is covered at shelf s of depot d
unfoldable pub clear_at : ℕ → ℕ → ℕ → List ℕ → List ℕ → Bool
clear_at n d s l m = covered n d (vector_of (record_of m)) (stable l d s)

pub clear_same :
    (n d s : ℕ) (l v : List ℕ) → n ≤ 4 → ((j : ℕ) → stable_at d s ≤ j → j < stable_at d s + 4 → get_or v j 0 ≡ get_or l j 0) → (m : List ℕ) →
    clear_at n d s v m ≡ clear_at n d s l m
unfolding clear_at
clear_same n d s l v h same m = covered_same n d _ _ _ _ (λ x k. refl) λ x k. same (stable_at d s + x) (omega arith) (omega arith)

pub length_record : (l : List ℕ) (q i : ℕ) → slot_at q i + 10 ≤ length l → length (record_of (slot l q i)) ≡ 9
length_record l q i h = length_part (slot l q i) 1 9 (rw (length_part l (slot_at q i) 10 h) (lit≤ tt))

-- one turn, by what its test says, on the slots kept so far and on the records
abbrev turn_of : Bool → ℕ → ℕ → ℕ → ℕ → Sweep → Sweep
turn_of b n d q i w =
    pick b (record { words = kept_in n d (record_of (slot w.words q i)) w.words; kept = w.kept })
    (record { words = put w.words (slot_at q w.kept) (slot w.words q i); kept = w.kept + 1 })

slots_chosen :
    (b : Bool) (n d q i : ℕ) (w : Sweep) → w.kept ≤ i → i < 16 → q < 64 → 10596 ≤ length w.words →
    slots (turn_of b n d q i w).words q 0 (turn_of b n d q i w).kept ≡ slots w.words q 0 w.kept ++ pick b [] (slot w.words q i ∷ [])
unfolding pick
slots_chosen true n d q i w a c hq full =
    slots_off w.words _ q 0 w.kept (length_kept_in n d _ w.words) (λ j x y. kept_in_low n d _ w.words j (omega arith))
    ∙ sym (append-nil (slots w.words q 0 w.kept))
slots_chosen false n d q i w a c hq full =
    slots_more _ q 0 w.kept
    ∙ ap₂ (λ (x : List (List ℕ)) (y : List ℕ). x ++ (y ∷ []))
    (slots_off w.words _ q 0 w.kept (length_put w.words _ _) (λ j x y. put_off w.words (slot_at q w.kept) _ 10 j (length_part_le w.words _ 10) (omega arith)))
    (ap (slot (put w.words (slot_at q w.kept) (slot w.words q i)) q) (zero-add w.kept) ∙ back)
  where
    ten : length (slot w.words q i) ≡ 10
    ten = length_part w.words (slot_at q i) 10 (omega arith)

    back : slot (put w.words (slot_at q w.kept) (slot w.words q i)) q w.kept ≡ slot w.words q i
    back =
        subst (λ (z : ℕ). part (put w.words (slot_at q w.kept) (slot w.words q i)) (slot_at q w.kept) z ≡ slot w.words q i) ten
        (put_same w.words (slot_at q w.kept) (slot w.words q i) (rw ten (omega arith)))

pub sweep_one_slots :
    (n d s q i : ℕ) (w : Sweep) → w.kept ≤ i → i < 16 → q < 64 → 10596 ≤ length w.words →
    slots (sweep_one n d s q i w).words q 0 (sweep_one n d s q i w).kept
    ≡ slots w.words q 0 w.kept ++ pick (clear_at n d s w.words (slot w.words q i)) [] (slot w.words q i ∷ [])
unfolding sweep_one clear_at
sweep_one_slots n d s q i w a c hq full = slots_chosen (covered n d (vector_of (record_of (slot w.words q i))) (stable w.words d s)) n d q i w a c hq full

pub sweep_one_stored :
    (n d s q i : ℕ) (w : Sweep) → w.kept < 16 → i < 16 → q < 64 → d < 4 → length w.words ≡ 16384 → bearing_of (record_of (slot w.words q i)) < 160 → (k : ℕ) →
    stored (sweep_one n d s q i w).words d k
    ≡ pick (clear_at n d s w.words (slot w.words q i)) (record_kept n (record_of (slot w.words q i)) (stored w.words d)) (stored w.words d) k
unfolding sweep_one clear_at
sweep_one_stored n d s q i w a c hq hd full low k =
    ⊎_elim
    (λ (e : covered n d (vector_of (record_of (slot w.words q i))) (stable w.words d s) ≡ true).
    ap (λ (v : Sweep). stored v.words d k) (pick_true _ _ e)
    ∙ kept_in_stored n d _ w.words (length_record w.words q i (omega arith)) (omega arith) k
    ∙ sym (ap (λ (f : ℕ → List ℕ). f k) (pick_true _ _ e)))
    (λ (e : covered n d (vector_of (record_of (slot w.words q i))) (stable w.words d s) ≡ false).
    ap (λ (v : Sweep). stored v.words d k) (pick_false _ _ e)
    ∙ part_off _ w.words (stored_at d k) 9 (length_put w.words _ _) (λ j x y. put_off w.words (slot_at q w.kept) _ 10 j (length_part_le w.words _ 10) (omega arith))
    ∙ sym (ap (λ (f : ℕ → List ℕ). f k) (pick_false _ _ e)))
    (decided (covered n d (vector_of (record_of (slot w.words q i))) (stable w.words d s)))

-- a link at a shelf, in a book of the right length
pub record Placed (n d s q : ℕ) (l : List ℕ) : Type 0 where
  pub depots : n ≤ 4
  pub depot : d < 4
  pub shelf : s < 4
  pub link : q < 64
  pub full : length l ≡ 16384

module _ (n d s q : ℕ) (l : List ℕ) (P : Placed n d s q l) where
  -- no turn changes what the test looks at
  pub swept_clear : (t : ℕ) (m : List ℕ) → clear_at n d s (swept n d s q t l).words m ≡ clear_at n d s l m
  swept_clear t m = let a = P.depot in let b = P.shelf in clear_same n d s l _ P.depots (λ j x y. swept_low n d s q l t j (omega arith) (omega arith)) m

  pub swept_slots : (t : ℕ) → t ≤ 16 → slots (swept n d s q t l).words q 0 (swept n d s q t l).kept ≡ staying (clear_at n d s l) (slots l q 0 t)
  unfolding swept times staying
  swept_slots zero h = slots_none l q 0 ∙ sym (ap (staying (clear_at n d s l)) (slots_none l q 0))
  swept_slots (suc t) h =
      sweep_one_slots n d s q t (swept n d s q t l) (swept_kept n d s q l t) h P.link (rw (length_swept, P.full) (lit≤ tt))
      ∙ ap₂ (λ (a b : List (List ℕ)). a ++ b) (swept_slots t (omega arith))
      (ap₂ (λ (b : Bool) (x : List ℕ). pick b [] (x ∷ [])) (swept_clear t _ ∙ ap (clear_at n d s l) same) same)
      ∙ sym (ap (staying (clear_at n d s l)) (slots_suc l q 0 t) ∙ staying_append (clear_at n d s l) (slots l q 0 t) (slot l q (0 + t) ∷ []))
    where
      same : slot (swept n d s q t l).words q t ≡ slot l q (0 + t)
      same = swept_later n d s q l t t P.link h (le_refl _) ∙ ap (slot l q) (sym (zero-add t))

  pub swept_stored :
      (t : ℕ) → t ≤ 16 → ((i : ℕ) → i < t → bearing_of (record_of (slot l q i)) < 160) → (k : ℕ) → k < 160 →
      stored (swept n d s q t l).words d k ≡ records_shown n (clear_at n d s l) (slots l q 0 t) (stored l d) k
  unfolding swept times records_shown
  swept_stored zero h low k z = sym (ap (λ (x : List (List ℕ)). records_shown n (clear_at n d s l) x (stored l d) k) (slots_none l q 0))
  swept_stored (suc t) h low k z =
      sweep_one_stored n d s q t (swept n d s q t l) (let e = swept_kept n d s q l t in omega arith) h P.link P.depot (length_swept n d s q l t ∙ P.full)
      (subst (λ (m : List ℕ). bearing_of (record_of m) < 160) (sym same) (low t (le_refl _))) k
      ∙ ap₂ (λ (b : Bool) (x : List ℕ). pick b (record_kept n (record_of x) (stored (swept n d s q t l).words d)) (stored (swept n d s q t l).words d) k)
      (swept_clear t _ ∙ ap (clear_at n d s l) same) same
      ∙ step (λ j y. swept_stored t (omega arith) (λ i x. low i (le_step x)) j y) (clear_at n d s l (slot l q t))
      ∙ sym
      (ap (λ (f : ℕ → List ℕ). f k)
      (ap (λ (x : List (List ℕ)). records_shown n (clear_at n d s l) x (stored l d)) (slots_suc l q 0 t ∙ ap (λ (i : ℕ). slots l q 0 t ++ (slot l q i ∷ [])) (zero-add t))
      ∙ records_shown_more n (clear_at n d s l) (slots l q 0 t) (slot l q t) (stored l d)))
    where
      same : slot (swept n d s q t l).words q t ≡ slot l q t
      same = swept_later n d s q l t t P.link h (le_refl _)

      step :
          ((j : ℕ) → j < 160 → stored (swept n d s q t l).words d j ≡ records_shown n (clear_at n d s l) (slots l q 0 t) (stored l d) j) → (b : Bool) →
          pick b (record_kept n (record_of (slot l q t)) (stored (swept n d s q t l).words d)) (stored (swept n d s q t l).words d) k
          ≡ pick b (record_kept n (record_of (slot l q t)) (records_shown n (clear_at n d s l) (slots l q 0 t) (stored l d)))
          (records_shown n (clear_at n d s l) (slots l q 0 t) (stored l d)) k
      step ih true =
          ap (λ (f : ℕ → List ℕ). f k) (pick_true _ _ refl) ∙ record_kept_same n _ _ _ (low t (le_refl _)) ih k z ∙ sym (ap (λ (f : ℕ → List ℕ). f k) (pick_true _ _ refl))
      step ih false = ap (λ (f : ℕ → List ℕ). f k) (pick_false _ _ refl) ∙ ih k z ∙ sym (ap (λ (f : ℕ → List ℕ). f k) (pick_false _ _ refl))
