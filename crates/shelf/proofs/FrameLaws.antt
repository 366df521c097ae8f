-- What a shelf's changes leave alone: each keeps the length, and each word outside the places that it writes.
-- Assumes nothing.
use Prim.Native.Nat.{ℕ, zero, suc, ◌+◌, ◌*◌, ◌-◌, ◌≤◌, ◌<◌}
use native.Mathlib.Nat.{le_refl, le_step, le_of_eq}
use native.Mathlib.Omega.{arith}
use mathlib.Core.Path.{◌≡◌, refl, sym, ◌∙◌, subst}
use mathlib.Core.Logic.{◌⊎◌, inl, inr, ⊎_elim}
use mathlib.Core.List.{List}
use mathlib.Core.Bool.{Bool, true, false}
use lib.ListN.{length, get_or, set, drop, length-take, length-set, length-replicate}
use lib.Seq.{get_or-set_same, get_or-set_other}
use Rattle.loops.specs.Loops.{times, pick}
use Rattle.order.specs.Record.{bearing_of}
use Rattle.loops.proofs.BoolLaws.{le_or_lt}
use Rattle.book.specs.Words.{part, put}
use Rattle.book.specs.Layout.{stored_at, slot_at, held_at, taken_at, slot, held, taken, record_of}
use Rattle.book.proofs.WordsLaws.{length_put, put_out, part_same}
use Rattle.shelf.specs.Show.{kept_in, Sweep, sweep_one, swept, closed_up, with_head, swept_up}

-- word j lies outside the n words from a on; `omega arith` proves it
abbrev pub Off : ℕ → ℕ → ℕ → Type 0
Off a n j = a ≤ j → j < a + n → ⊥

pub off_sides : (a n j : ℕ) → Off a n j → (j < a) ⊎ (a + n ≤ j)
off_sides a n j h =
    ⊎_elim
    (λ (p : a ≤ j). ⊎_elim (λ (q : a + n ≤ j). inr q) (λ (q : j < a + n). absurd (h p q)) (le_or_lt (a + n) j))
    (λ (p : j < a). inl p)
    (le_or_lt a j)

-- what holds of both things holds of the one chosen
pub pick_cases {ℓ κ} : {A : Type ℓ} (P : A → Type κ) (b : Bool) (x y : A) → (b ≡ true → P x) → (b ≡ false → P y) → P (pick b x y)
unfolding pick
pick_cases P true x y f g = f refl
pick_cases P false x y f g = g refl

-- what holds before the first turn and goes from each turn to the next holds at the end
pub times_grows {ℓ κ} : {A : Type ℓ} (P : ℕ → A → Type κ) (n : ℕ) (f : ℕ → A → A) (a : A) → P 0 a → ((i : ℕ) (x : A) → i < n → P i x → P (suc i) (f i x)) → P n (times n f a)
unfolding times
times_grows P zero f a h step = h
times_grows P (suc n) f a h step = step n (times n f a) (le_refl _) (times_grows P n f a h (λ i x l. step i x (le_step l)))

pub length_part_le : (l : List ℕ) (a n : ℕ) → length (part l a n) ≤ n
unfolding part
length_part_le l a n = let e = length-take n (drop a l) in omega arith

pub put_off : (l : List ℕ) (a : ℕ) (v : List ℕ) (n j : ℕ) → length v ≤ n → Off a n j → get_or (put l a v) j 0 ≡ get_or l j 0
put_off l a v n j short h = put_out l a v j (go (off_sides a n j h))
  where
    go : (j < a) ⊎ (a + n ≤ j) → (j < a) ⊎ (a + length v ≤ j)
    go (inl p) = inl p
    go (inr p) = inr (omega arith)

pub part_off : (l m : List ℕ) (a n : ℕ) → length l ≡ length m → ((j : ℕ) → a ≤ j → j < a + n → get_or l j 0 ≡ get_or m j 0) → part l a n ≡ part m a n
part_off l m a n e h = part_same l m a n e λ i k. h (a + i) (omega arith) (omega arith)

-- ---- one record kept

module _ (n d : ℕ) (r l : List ℕ) where
  pub length_kept_in : length (kept_in n d r l) ≡ length l
  unfolding kept_in
  length_kept_in = pick_cases (λ (m : List ℕ). length m ≡ length l) _ _ _ (λ e. length_put l _ r) λ e. refl

  pub kept_in_off : (j : ℕ) → length r ≤ 9 → Off (stored_at d (bearing_of r)) 9 j → get_or (kept_in n d r l) j 0 ≡ get_or l j 0
  unfolding kept_in
  kept_in_off j short h = pick_cases (λ (m : List ℕ). get_or m j 0 ≡ get_or l j 0) _ _ _ (λ e. put_off l _ r 9 j short h) λ e. refl

  -- whatever the record is, all before the stored versions stays
  pub kept_in_low : (j : ℕ) → j < 10596 → get_or (kept_in n d r l) j 0 ≡ get_or l j 0
  unfolding kept_in
  kept_in_low j h = pick_cases (λ (m : List ℕ). get_or m j 0 ≡ get_or l j 0) _ _ _ (λ e. put_out l _ r j (inl (omega arith))) λ e. refl

-- ---- one turn of a sweep, and the sweep

module _ (n d s q : ℕ) where
  pub length_sweep_one : (i : ℕ) (w : Sweep) → length (sweep_one n d s q i w).words ≡ length w.words
  unfolding sweep_one
  length_sweep_one i w =
      pick_cases (λ (v : Sweep). length v.words ≡ length w.words) _ _ _ (λ e. length_kept_in n d _ w.words) λ e. length_put w.words _ _

  pub sweep_one_kept : (i : ℕ) (w : Sweep) → (sweep_one n d s q i w).kept ≤ w.kept + 1
  unfolding sweep_one
  sweep_one_kept i w = pick_cases (λ (v : Sweep). v.kept ≤ w.kept + 1) _ _ _ (λ e. omega arith) λ e. le_refl _

  pub sweep_one_off :
      (i : ℕ) (w : Sweep) (j : ℕ) → Off (slot_at q w.kept) 10 j → Off (stored_at d (bearing_of (record_of (slot w.words q i)))) 9 j →
      get_or (sweep_one n d s q i w).words j 0 ≡ get_or w.words j 0
  unfolding sweep_one
  sweep_one_off i w j a b =
      pick_cases (λ (v : Sweep). get_or v.words j 0 ≡ get_or w.words j 0) _ _ _
      (λ e. kept_in_off n d _ w.words j (length_part_le _ 1 9) b)
      λ e. put_off w.words _ _ 10 j (length_part_le w.words _ 10) a

  pub sweep_one_low : (i : ℕ) (w : Sweep) (j : ℕ) → j < 10596 → Off (slot_at q w.kept) 10 j → get_or (sweep_one n d s q i w).words j 0 ≡ get_or w.words j 0
  sweep_one_low i w j h a = sweep_one_off i w j a (omega arith)

  module _ (l : List ℕ) where
    pub length_swept : (t : ℕ) → length (swept n d s q t l).words ≡ length l
    unfolding swept
    length_swept t = times_grows (λ i (w : Sweep). length w.words ≡ length l) t (sweep_one n d s q) _ refl λ i w h e. length_sweep_one i w ∙ e

    pub swept_kept : (t : ℕ) → (swept n d s q t l).kept ≤ t
    unfolding swept
    swept_kept t =
        times_grows (λ i (w : Sweep). w.kept ≤ i) t (sweep_one n d s q) _ (le_refl _) λ i w h e. let k = sweep_one_kept i w in omega arith

    pub swept_low : (t j : ℕ) → j < 10596 → Off (slot_at q 0) (10 * t) j → get_or (swept n d s q t l).words j 0 ≡ get_or l j 0
    unfolding swept
    swept_low t j low h =
        (times_grows (λ i (w : Sweep). (w.kept ≤ i) × (get_or w.words j 0 ≡ get_or l j 0)) t (sweep_one n d s q) _ (le_refl _, refl)
        (λ i w k e. let m = sweep_one_kept i w in let b = e.0 in (omega arith, sweep_one_low i w j low (λ x y. h (omega arith) (omega arith)) ∙ e.1))).1

    -- the slots behind the first t wait unchanged
    pub swept_later : (t i : ℕ) → q < 64 → i < 16 → t ≤ i → slot (swept n d s q t l).words q i ≡ slot l q i
    swept_later t i hq hi h = part_off _ l (slot_at q i) 10 (length_swept t) λ j a b. swept_low t j (omega arith) (omega arith)

    pub swept_suc : (t : ℕ) → swept n d s q (suc t) l ≡ sweep_one n d s q t (swept n d s q t l)
    unfolding swept times
    swept_suc t = refl

    -- the store too, where no copy's record has its place at j
    pub swept_off :
        (t j : ℕ) → q < 64 → t ≤ 16 → Off (slot_at q 0) (10 * t) j → ((i : ℕ) → i < t → Off (stored_at d (bearing_of (record_of (slot l q i)))) 9 j) →
        get_or (swept n d s q t l).words j 0 ≡ get_or l j 0
    unfolding swept times
    swept_off zero j hq ht h b = refl
    swept_off (suc t) j hq ht h b =
        sweep_one_off t (swept n d s q t l) j (λ x y. let k = swept_kept t in h (omega arith) (omega arith))
        (subst (λ (m : List ℕ). Off (stored_at d (bearing_of (record_of m))) 9 j) (sym (swept_later t t hq (omega arith) (le_refl _))) (b t (le_refl _)))
        ∙ swept_off t j hq (omega arith) (λ x y. h x (omega arith)) λ i k. b i (le_step k)

-- ---- closing up, and the head

module _ (q : ℕ) where
  pub length_closed_up : (j g h : ℕ) (l : List ℕ) → length (closed_up q j g h l) ≡ length l
  unfolding closed_up
  length_closed_up j g h l = length_put (put l _ _) _ _ ∙ length_put l _ _

  pub closed_up_off : (j g h : ℕ) (l : List ℕ) (i : ℕ) → j + g ≤ h → Off (slot_at q j) (10 * (h - j)) i → get_or (closed_up q j g h l) i 0 ≡ get_or l i 0
  unfolding closed_up
  closed_up_off j g h l i room out =
      put_off (put l _ _) _ _ (10 * g) i (le_of_eq (length-replicate (10 * g) 0)) (λ x y. out (omega arith) (omega arith))
      ∙ put_off l _ _ (10 * (h - (j + g))) i (length_part_le l _ _) λ x y. out (omega arith) (omega arith)

  pub length_with_head : (h t : ℕ) (l : List ℕ) → length (with_head q h t l) ≡ length l
  unfolding with_head
  length_with_head h t l = length-set (set l _ _) _ _ ∙ length-set l _ _

  pub with_head_off : (h t : ℕ) (l : List ℕ) (j : ℕ) → Off (held_at q) 2 j → get_or (with_head q h t l) j 0 ≡ get_or l j 0
  unfolding with_head
  with_head_off h t l j out = get_or-set_other (set l (held_at q) h) _ j t 0 (λ e. out (omega arith) (omega arith)) ∙ get_or-set_other l _ j h 0 λ e. out (omega arith) (omega arith)

  pub held_with_head : (h t : ℕ) (l : List ℕ) → taken_at q < length l → held (with_head q h t l) q ≡ h
  unfolding with_head
  held_with_head h t l room = get_or-set_other (set l (held_at q) h) (taken_at q) (held_at q) t 0 (omega arith) ∙ get_or-set_same l (held_at q) h 0 (omega arith)

  pub taken_with_head : (h t : ℕ) (l : List ℕ) → taken_at q < length l → taken (with_head q h t l) q ≡ t
  unfolding with_head
  taken_with_head h t l room = get_or-set_same (set l (held_at q) h) (taken_at q) t 0 (rw length-set (omega arith))

  pub length_swept_up : (h t : ℕ) (w : Sweep) → length (swept_up q h t w) ≡ length w.words
  unfolding swept_up
  length_swept_up h t w = length_with_head _ _ (closed_up q _ _ h w.words) ∙ length_closed_up _ _ h w.words

  pub swept_up_off :
      (h t : ℕ) (w : Sweep) (j : ℕ) → w.kept ≤ t → t ≤ h → Off (slot_at q w.kept) (10 * (h - w.kept)) j → Off (held_at q) 2 j →
      get_or (swept_up q h t w) j 0 ≡ get_or w.words j 0
  unfolding swept_up
  swept_up_off h t w j a b out heads = with_head_off _ _ (closed_up q _ _ h w.words) j heads ∙ closed_up_off _ _ h w.words j (omega arith) out
