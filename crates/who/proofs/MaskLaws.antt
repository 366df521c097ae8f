-- The laws of a mask: each bit is its number's test, and the ones in it are as many as pass.
-- Assumes nothing.
use Prim.Native.Nat.{ℕ, zero, suc, ◌+◌, ◌*◌, ◌-◌, ◌/◌, ◌%◌, ◌^◌, ◌≤◌, ◌<◌}
use native.Mathlib.Omega.{arith}
use native.Mathlib.Nat.{pow-suc, mul_assoc, add_comm, add-mul-div_right, div-eq_of_lt, lt_of_lt_of_le}
use native.Mathlib.Numerals.{add-one}
use mathlib.Core.Path.{◌≡◌, refl, sym, ◌∙◌, ap, ap₂}
use mathlib.Core.Logic.{⊎_elim}
use mathlib.Core.Bool.{Bool, true, false}
use lib.Dec.{eqb, lit<}
use lib.Bits.{bit_or, or_shifted_r, block_odd}
use lib.Count.{ones, ones_cat}
use lib.Pow.{high, pow-add, pow_mono, shl_exact}
use Rattle.loops.specs.Loops.{pick}
use Rattle.loops.proofs.BoolLaws.{le_or_lt, pick_true, pick_false}
use Rattle.who.specs.Bits.{bit_of, mask_of, count_of}

-- one bit more

pub with_bit : (m x : ℕ) {b : Bool} → x < 4 → m < 2 ^ x → b ≡ true → bit_or m (1 * 2 ^ x % 4294967296) ≡ pick b 1 0 * 2 ^ x + m
with_bit m x l h e =
    ap (bit_or m) (shl_exact 1 x 32 (lit< tt) (omega arith)) ∙ or_shifted_r 1 x m h ∙ ap (λ (k : ℕ). k * 2 ^ x + m) (sym (pick_true 1 0 e))

pub without_bit : (m x : ℕ) {b : Bool} → b ≡ false → m ≡ pick b 1 0 * 2 ^ x + m
without_bit m x {b} e = let none : ◌≡◌ {A = ℕ} (pick b 1 0) 0 = pick_false 1 0 e in rw none (omega arith)

bit_lt : (b : Bool) (i m : ℕ) → m < 2 ^ i → pick b 1 0 * 2 ^ i + m < 2 ^ suc i
unfolding pick
bit_lt true i m h = omega (arith, pow-suc 2 i)
bit_lt false i m h = omega (arith, pow-suc 2 i)

bit_ones : (b : Bool) → ones (pick b 1 0) ≡ pick b 1 0
unfolding pick ones lib.Count.ones_in
bit_ones true = refl
bit_ones false = refl

bit_told : (b : Bool) → eqb (pick b 1 0 % 2) 1 ≡ b
unfolding pick
bit_told true = refl
bit_told false = refl

module _ (p : ℕ → Bool) where
  pub mask_none : 0 ≡ mask_of 0 p
  unfolding mask_of
  mask_none = refl

  pub mask_more : (x : ℕ) {m r : ℕ} {b : Bool} → m ≡ mask_of x p → b ≡ p x → r ≡ pick b 1 0 * 2 ^ x + m → r ≡ mask_of (x + 1) p
  unfolding mask_of
  mask_more x {m} {r} {b} e t h =
      h ∙ ap₂ (λ (c : Bool) (k : ℕ). pick c 1 0 * 2 ^ x + k) t e ∙ ap (λ (k : ℕ). mask_of k p) (sym (add-one x))

  -- n bits have room for it
  pub mask_lt : (n : ℕ) → mask_of n p < 2 ^ n
  unfolding mask_of
  mask_lt zero = lit< tt
  mask_lt (suc i) = bit_lt (p i) i (mask_of i p) (mask_lt i)

  -- the language's count of ones counts the numbers that pass
  pub mask_ones : (n : ℕ) → ones (mask_of n p) ≡ count_of n p
  unfolding mask_of count_of
  mask_ones zero = unfold ones lib.Count.ones_in in refl
  mask_ones (suc i) = ones_cat i (pick (p i) 1 0) (mask_of i p) (mask_lt i) ∙ ap₂ (λ (a b : ℕ). a + b) (bit_ones (p i)) (mask_ones i)

  bit_here : (i : ℕ) → bit_of (mask_of (suc i) p) i ≡ p i
  unfolding bit_of mask_of
  bit_here i = ap (λ (k : ℕ). eqb (k % 2) 1) (high (pick (p i) 1 0) i (mask_lt i)) ∙ bit_told (p i)

  bit_below : (i x : ℕ) → x < i → bit_of (mask_of (suc i) p) x ≡ bit_of (mask_of i p) x
  unfolding bit_of mask_of
  bit_below i x l =
      let b : ℕ = pick (p i) 1 0 in
      let j = i - x - 1 in
      let split : b * 2 ^ i ≡ b * 2 ^ suc j * 2 ^ x =
      ap (λ (k : ℕ). b * 2 ^ k) (omega arith) ∙ ap (λ (k : ℕ). b * k) (pow-add 2 (suc j) x) ∙ sym (mul_assoc b (2 ^ suc j) (2 ^ x)) in
      ap (λ (k : ℕ). eqb ((k + mask_of i p) / 2 ^ x % 2) 1) split
      ∙ ap (λ (k : ℕ). eqb (k / 2 ^ x % 2) 1) (add_comm (b * 2 ^ suc j * 2 ^ x) (mask_of i p))
      ∙ ap (λ (k : ℕ). eqb (k % 2) 1) (add-mul-div_right (mask_of i p) (b * 2 ^ suc j) (pow_pos x) ∙ add_comm _ _)
      ∙ ap (λ (k : ℕ). eqb k 1) (block_odd b j (mask_of i p / 2 ^ x))
    where
      pow_pos : (k : ℕ) → 0 < 2 ^ k
      pow_pos k = let least : 0 ≤ k = omega arith in lt_of_lt_of_le (lit< tt) (pow_mono least)

  pub bit_in : (n x : ℕ) → x < n → bit_of (mask_of n p) x ≡ p x
  bit_in zero x l = absurd (omega arith)
  bit_in (suc i) x l =
      ⊎_elim
      (λ (h : i ≤ x). let e : x ≡ i = omega arith in rw e (bit_here i))
      (λ (h : x < i). bit_below i x h ∙ bit_in i x h)
      (le_or_lt i x)

  pub bit_out : (n x : ℕ) → n ≤ x → bit_of (mask_of n p) x ≡ false
  unfolding bit_of
  bit_out n x l = ap (λ (k : ℕ). eqb (k % 2) 1) (div-eq_of_lt (lt_of_lt_of_le (mask_lt n) (pow_mono l)))

  -- where all pass, all n bits are set
  pub mask_all : (n : ℕ) → ((x : ℕ) → x < n → p x ≡ true) → mask_of n p ≡ 2 ^ n - 1
  unfolding mask_of
  mask_all zero h = refl
  mask_all (suc i) h =
      let here : ◌≡◌ {A = ℕ} (pick (p i) 1 0) 1 = pick_true 1 0 (h i (omega arith)) in
      let below = mask_all i (λ x l. h x (omega arith)) in
      ap₂ (λ (a b : ℕ). a * 2 ^ i + b) here below ∙ (let room = mask_lt i in omega (arith, pow-suc 2 i))

  pub count_all : (n : ℕ) → ((x : ℕ) → x < n → p x ≡ true) → count_of n p ≡ n
  unfolding count_of
  count_all zero h = refl
  count_all (suc i) h =
      let here : ◌≡◌ {A = ℕ} (pick (p i) 1 0) 1 = pick_true 1 0 (h i (omega arith)) in
      let below = count_all i (λ x l. h x (omega arith)) in
      omega arith
