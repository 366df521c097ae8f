-- The bits of words: of `|`, and of a word with one bit.
-- Assumes nothing.
use Prim.Native.Nat.{ℕ, suc, ◌+◌, ◌*◌, ◌-◌, ◌/◌, ◌%◌, ◌^◌, ◌≤◌, ◌<◌, max}
use native.Mathlib.Omega.{arith}
use native.Mathlib.Nat.{one-mul, div-eq_of_lt}
use mathlib.Core.Path.{◌≡◌, sym, ◌∙◌, ap}
use mathlib.Core.Logic.{⊎_elim}
use mathlib.Core.Bool.{true, ◌||◌}
use lib.Dec.{eqb, lit<}
use lib.Bits.{bit_or, or_shr, or_step, shifted_even}
use lib.Pow.{shl-shr, shl_exact, pow-add, pow-lt}
use borrow.Author.Tests.{eqb-true, eq-eqb, ne_eqb}
use Rattle.loops.proofs.BoolLaws.{together, or_cases, or_left, or_right, le_or_lt, eq_or_ne}
use Rattle.chains.specs.Table.{bit_of}

-- of two numbers that are 0 or 1 the larger is 1 if one of them is
max_one : (p q : ℕ) → p < 2 → q < 2 → eqb (max p q) 1 ≡ eqb p 1 || eqb q 1
max_one p q l m =
    together _ _
    (λ h.
    ⊎_elim
    (λ (e : p ≡ 1). or_left (eqb p 1) _ (eq-eqb p 1 e))
    (λ (e : p ≡ 1 → ⊥). or_right (eqb p 1) _ (eq-eqb q 1 (omega (arith, eqb-true (max p q) 1 h))))
    (eq_or_ne p 1))
    (λ h.
    eq-eqb (max p q) 1
    (⊎_elim (λ (e : eqb p 1 ≡ true). omega (arith, eqb-true p 1 e)) (λ (e : eqb q 1 ≡ true). omega (arith, eqb-true q 1 e)) (or_cases (eqb p 1) _ h)))

or_odd : (a b : ℕ) → bit_or a b % 2 ≡ max (a % 2) (b % 2)
or_odd a b = omega (arith, or_step a b)

pub bit_or_law : (u v x : ℕ) → bit_of (bit_or u v) x ≡ bit_of u x || bit_of v x
unfolding bit_of
bit_or_law u v x =
    ap (λ (k : ℕ). eqb (k % 2) 1) (or_shr u v x) ∙ ap (λ (k : ℕ). eqb k 1) (or_odd (u / 2 ^ x) (v / 2 ^ x))
    ∙ max_one (u / 2 ^ x % 2) (v / 2 ^ x % 2) (omega arith) (omega arith)

-- the word with bit s alone, looked at below and above s
bit_under : (s t : ℕ) → t < s → 1 * 2 ^ s / 2 ^ t % 2 ≡ 0
bit_under s t l =
    let e : s ≡ suc (s - t - 1) + t = omega arith in
    let p : 1 * 2 ^ s ≡ 1 * 2 ^ suc (s - t - 1) * 2 ^ t =
    one-mul (2 ^ s) ∙ ap (λ (k : ℕ). 2 ^ k) e ∙ pow-add 2 (suc (s - t - 1)) t ∙ ap (λ (k : ℕ). k * 2 ^ t) (sym (one-mul (2 ^ suc (s - t - 1)))) in
    ap (λ (k : ℕ). k / 2 ^ t % 2) p ∙ ap (λ (k : ℕ). k % 2) (shl-shr (1 * 2 ^ suc (s - t - 1)) t) ∙ shifted_even 1 (s - t - 1)

bit_over : (s t : ℕ) → s < t → 1 * 2 ^ s / 2 ^ t % 2 ≡ 0
bit_over s t l = ap (λ (k : ℕ). k % 2) (div-eq_of_lt (rw one-mul (pow-lt l)))

pub bit_one : (s t : ℕ) → bit_of (1 * 2 ^ s) t ≡ eqb t s
unfolding bit_of
bit_one s t =
    ⊎_elim
    (λ (e : t ≡ s). eq-eqb (1 * 2 ^ s / 2 ^ t % 2) 1 (rw e (ap (λ (k : ℕ). k % 2) (shl-shr 1 s))) ∙ sym (eq-eqb t s e))
    (λ (e : t ≡ s → ⊥).
    ap (λ (k : ℕ). eqb k 1) (⊎_elim (λ (l : t ≤ s). bit_under s t (omega arith)) (λ (l : s < t). bit_over s t l) (le_or_lt t s)) ∙ sym (ne_eqb t s e))
    (eq_or_ne t s)

-- that word as the machine makes it
pub mask_is : (s : ℕ) → s < 64 → (1 * 2 ^ s) % 18446744073709551616 ≡ 1 * 2 ^ s
mask_is s l = shl_exact 1 s 64 (lit< tt) (omega arith)
