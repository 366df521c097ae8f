-- Numbers have one spelling: a number's digits are read back as that number, and digits without a spare zero are the spelling of what
-- they are read as. Both go from the front, with the value so far as an accumulator.
-- Assumes nothing.
use Prim.Native.Nat.{ℕ, zero, suc, ◌+◌, ◌*◌, ◌/◌, ◌%◌, ◌^◌, ◌≤◌, ◌<◌}
use native.Mathlib.Nat.{pow-suc}
use native.Mathlib.Omega.{arith}
use mathlib.Core.Path.{◌≡◌, refl, sym, ◌∙◌, ap, ap₂}
use mathlib.Core.Logic.{⊎_elim}
use mathlib.Core.List.{List, [], ◌∷◌, ◌++◌, append_assoc}
use mathlib.Core.Bool.{true, false}
use lib.ListN.{length, get_or, length-append}
use borrow.Author.Tests.{lt-ltb, le-ltb}
use Rattle.loops.proofs.BoolLaws.{le_or_lt, decided, pick_true, pick_false}
use Rattle.line.specs.Number.{spelled, decimal, is_digit, digit_run, value_from, is_number}
use Rattle.line.proofs.DigitLaws.{digit_yes, run_digit, value_digit, value_other}
use Rattle.line.proofs.NumberLaws.{number_whole, spare_none, spare_other}

-- ---- how a number is spelled

pub spelled_one : (k n : ℕ) → n < 10 → spelled (suc k) n ≡ (48 + n) ∷ []
unfolding spelled
spelled_one k n h = pick_true _ _ (lt-ltb n 10 h)

pub spelled_more : (k n : ℕ) → 10 ≤ n → spelled (suc k) n ≡ spelled k (n / 10) ++ ((48 + n % 10) ∷ [])
unfolding spelled
spelled_more k n h = pick_false _ _ (le-ltb n 10 h)

-- room for more digits than a number has changes nothing
pub spelled_room : (k n : ℕ) → n < 10 ^ suc k → spelled (suc (suc k)) n ≡ spelled (suc k) n
spelled_room zero n h = spelled_one 1 n (omega arith) ∙ sym (spelled_one 0 n (omega arith))
spelled_room (suc k) n h =
    let h' : n < 10 ^ suc k * 10 = rw pow-suc at h in
    ⊎_elim
    (λ (l : 10 ≤ n). spelled_more (suc (suc k)) n l ∙ ap (λ (ds : List ℕ). ds ++ ((48 + n % 10) ∷ [])) (spelled_room k (n / 10) (omega arith)) ∙ sym (spelled_more (suc k) n l))
    (λ (l : n < 10). spelled_one (suc (suc k)) n l ∙ sym (spelled_one (suc k) n l))
    (le_or_lt 10 n)

pub decimal_one : (n : ℕ) → n < 10 → decimal n ≡ (48 + n) ∷ []
unfolding decimal
decimal_one n h = spelled_one 9 n h

pub decimal_more : (n : ℕ) → 10 ≤ n → n < 10_000_000_000 → decimal n ≡ decimal (n / 10) ++ ((48 + n % 10) ∷ [])
unfolding decimal
decimal_more n h l = spelled_more 9 n h ∙ ap (λ (ds : List ℕ). ds ++ ((48 + n % 10) ∷ [])) (sym (spelled_room 8 (n / 10) (omega arith)))

-- the next digit
pub decimal_next : (v d : ℕ) → 0 < v → d < 10 → v * 10 + d < 10_000_000_000 → decimal (v * 10 + d) ≡ decimal v ++ ((48 + d) ∷ [])
decimal_next v d p q l =
    decimal_more (v * 10 + d) (omega arith) l
    ∙ ap₂ (λ (x y : ℕ). decimal x ++ ((48 + y) ∷ [])) (omega arith) (omega arith)

-- ---- a number's digits are read back as that number

pub digit_of : (d : ℕ) → d < 10 → is_digit (48 + d) ≡ true
digit_of d h = digit_yes (48 + d) (omega arith) (omega arith)

-- one digit more at the end of a spelling is one digit more in front of what follows
snoc : (ds : List ℕ) (x : ℕ) (t : List ℕ) → (ds ++ (x ∷ [])) ++ t ≡ ds ++ (x ∷ t)
snoc ds x t = append_assoc ds (x ∷ []) t

pub spelled_run : (k n : ℕ) (t : List ℕ) → digit_run (spelled k n ++ t) ≡ length (spelled k n) + digit_run t
unfolding spelled
spelled_run zero n t = omega arith
spelled_run (suc k) n t =
    ⊎_elim
    (λ (l : 10 ≤ n).
    rw (spelled_more k n l, snoc)
    (spelled_run k (n / 10) ((48 + n % 10) ∷ t)
    ∙ ap (λ (r : ℕ). length (spelled k (n / 10)) + r) (run_digit _ t (digit_of (n % 10) (omega arith)))
    ∙ simp length-append (omega arith)))
    (λ (l : n < 10). rw (spelled_one k n l) (run_digit _ t (digit_of n l) ∙ omega arith))
    (le_or_lt 10 n)

pub spelled_value : (k n : ℕ) (t : List ℕ) → n < 10 ^ suc k → value_from 0 (spelled (suc k) n ++ t) ≡ value_from n t
spelled_value zero n t h =
    let l : n < 10 = omega arith in
    rw (spelled_one 0 n l) (value_digit 0 _ t (digit_of n l) ∙ ap (λ (v : ℕ). value_from v t) (omega arith))
spelled_value (suc k) n t h =
    let h' : n < 10 ^ suc k * 10 = rw pow-suc at h in
    ⊎_elim
    (λ (l : 10 ≤ n).
    rw (spelled_more (suc k) n l, snoc)
    (spelled_value k (n / 10) ((48 + n % 10) ∷ t) (omega arith)
    ∙ value_digit (n / 10) _ t (digit_of (n % 10) (omega arith))
    ∙ ap (λ (v : ℕ). value_from v t) (omega arith)))
    (λ (l : n < 10). rw (spelled_one (suc k) n l) (value_digit 0 _ t (digit_of n l) ∙ ap (λ (v : ℕ). value_from v t) (omega arith)))
    (le_or_lt 10 n)

-- only 0 is spelled with a 0 in front
pub spelled_head : (k n : ℕ) (t : List ℕ) → 0 < n → n < 10 ^ suc k → get_or (spelled (suc k) n ++ t) 0 0 ≡ 48 → ⊥
spelled_head zero n t p h e =
    let l : n < 10 = omega arith in
    let e' : 48 + n ≡ 48 = rw (spelled_one 0 n l) at e in
    omega arith
spelled_head (suc k) n t p h e =
    let h' : n < 10 ^ suc k * 10 = rw pow-suc at h in
    ⊎_elim
    (λ (l : 10 ≤ n). spelled_head k (n / 10) ((48 + n % 10) ∷ t) (omega arith) (omega arith) (rw (spelled_more (suc k) n l, snoc) at e))
    (λ (l : n < 10). let e' : 48 + n ≡ 48 = rw (spelled_one (suc k) n l) at e in omega arith)
    (le_or_lt 10 n)

pub spelled_length : (k n : ℕ) → length (spelled k n) ≤ k
unfolding spelled
spelled_length zero n = omega arith
spelled_length (suc k) n =
    ⊎_elim
    (λ (l : 10 ≤ n). rw (spelled_more k n l) (simp length-append (omega (arith, spelled_length k (n / 10)))))
    (λ (l : n < 10). rw (spelled_one k n l) (omega arith))
    (le_or_lt 10 n)

pub spelled_some : (k n : ℕ) → 1 ≤ length (spelled (suc k) n)
spelled_some k n =
    ⊎_elim
    (λ (l : 10 ≤ n). rw (spelled_more k n l) (simp length-append (omega arith)))
    (λ (l : n < 10). rw (spelled_one k n l) (omega arith))
    (le_or_lt 10 n)

-- where no digit follows, the value stays
pub value_stopped : (v : ℕ) (t : List ℕ) → digit_run t ≡ 0 → value_from v t ≡ v
unfolding value_from
value_stopped v [] h = refl
value_stopped v (b ∷ t) h =
    ⊎_elim
    (λ (d : is_digit b ≡ true). absurd (omega (arith, run_digit b t d)))
    (λ (d : is_digit b ≡ false). value_other v b t d)
    (decided (is_digit b))

module _ (n : ℕ) (t : List ℕ) (small : n ≤ 4_294_967_295) (stop : digit_run t ≡ 0) where
  pub decimal_run : digit_run (decimal n ++ t) ≡ length (decimal n)
  unfolding decimal
  decimal_run = let e = spelled_run 10 n t in omega arith

  pub decimal_value : value_from 0 (decimal n ++ t) ≡ n
  unfolding decimal
  decimal_value = spelled_value 9 n t (omega arith) ∙ value_stopped n t stop

  pub decimal_is_number : is_number (decimal n ++ t) ≡ true
  unfolding decimal
  decimal_is_number =
      number_whole (decimal n ++ t)
      (record {
        some_digit = omega (arith, decimal_run, spelled_some 9 n);
        few_digits = omega (arith, decimal_run, spelled_length 10 n);
        no_spare =
            ⊎_elim
            (λ (l : 10 ≤ n). spare_other (decimal n ++ t) (spelled_head 9 n t (omega arith) (omega arith)))
            (λ (l : n < 10). spare_none (decimal n ++ t) (omega (arith, decimal_run, ap length (spelled_one 9 n l))))
            (le_or_lt 10 n);
        small = omega (arith, decimal_value);
      })
