-- Digits without a spare zero are the spelling of the number that they are read as: from the front, each digit read goes to the end of
-- the spelling of what was read before it.
-- Assumes nothing.
use Prim.Native.Nat.{ℕ, ◌+◌, ◌*◌, ◌-◌, ◌≤◌, ◌<◌}
use native.Mathlib.Nat.{le_refl}
use native.Mathlib.Omega.{arith}
use mathlib.Core.Path.{◌≡◌, sym, ◌∙◌, ap}
use mathlib.Core.Logic.{⊎_elim}
use mathlib.Core.List.{List, [], ◌∷◌, ◌++◌, append_assoc, append-nil}
use mathlib.Core.Bool.{true, false}
use lib.ListN.{take}
use Rattle.loops.proofs.BoolLaws.{decided, both_ways, le_or_lt}
use Rattle.line.specs.Number.{decimal, is_digit, digit_run, value_from}
use Rattle.line.proofs.DigitLaws.{digit_bounds, run_digit, run_other, value_digit, value_other}
use Rattle.line.proofs.NumberLaws.{Numeral, spare_zero_law}
use Rattle.line.proofs.SpellingLaws.{decimal_one, decimal_next, value_stopped}

-- reading on never makes a number smaller
pub value_up : (v : ℕ) (l : List ℕ) → v ≤ value_from v l
unfolding value_from
value_up v [] = le_refl v
value_up v (b ∷ l) =
    ⊎_elim
    (λ (d : is_digit b ≡ true). let h = value_up (v * 10 + (b - 48)) l in rw (value_digit v b l d) (omega arith))
    (λ (d : is_digit b ≡ false). rw (value_other v b l d) (le_refl v))
    (decided (is_digit b))

-- digits read after a number above 0 are those of its spelling
pub decimal_onward : (v : ℕ) (l : List ℕ) → 0 < v → value_from v l < 10_000_000_000 → decimal (value_from v l) ≡ decimal v ++ take (digit_run l) l
unfolding value_from digit_run
decimal_onward v [] p h = sym (append-nil (decimal v))
decimal_onward v (b ∷ l) p h =
    ⊎_elim
    (λ (d : is_digit b ≡ true).
    let w = v * 10 + (b - 48) in
    let bounds = digit_bounds b d in
    let h' : value_from w l < 10_000_000_000 = rw (value_digit v b l d) at h in
    let up = value_up w l in
    let byte : 48 + (b - 48) ≡ b = omega arith in
    ap decimal (value_digit v b l d)
    ∙ decimal_onward w l (omega arith) h'
    ∙ ap (λ (ds : List ℕ). ds ++ take (digit_run l) l) (decimal_next v (b - 48) p (omega arith) (omega arith) ∙ ap (λ (x : ℕ). decimal v ++ (x ∷ [])) byte)
    ∙ append_assoc (decimal v) (b ∷ []) (take (digit_run l) l)
    ∙ ap (λ (n : ℕ). decimal v ++ take n (b ∷ l)) (sym (run_digit b l d)))
    (λ (d : is_digit b ≡ false).
    ap decimal (value_other v b l d)
    ∙ sym (append-nil (decimal v))
    ∙ ap (λ (n : ℕ). decimal v ++ take n (b ∷ l)) (sym (run_other b l d)))
    (decided (is_digit b))

-- the digits of a number are its spelling
pub number_is_decimal : (l : List ℕ) → Numeral l → take (digit_run l) l ≡ decimal (value_from 0 l)
unfolding digit_run
number_is_decimal [] n = absurd (omega (arith, n.some_digit))
number_is_decimal (b ∷ l) n =
    ⊎_elim
    (λ (d : is_digit b ≡ true).
    let bounds = digit_bounds b d in
    let e = run_digit b l d in
    let byte : 48 + (b - 48) ≡ b = omega arith in
    let first : decimal (b - 48) ≡ b ∷ [] = decimal_one (b - 48) (omega arith) ∙ ap (λ (x : ℕ). x ∷ []) byte in
    let value : value_from 0 (b ∷ l) ≡ value_from (b - 48) l = value_digit 0 b l d ∙ ap (λ (v : ℕ). value_from v l) (omega arith) in
    let small : value_from (b - 48) l ≤ 4_294_967_295 = rw value at n.small in
    ap (λ (k : ℕ). take k (b ∷ l)) e
    ∙ ⊎_elim
    (λ (h : digit_run l ≤ 0).
    let none : digit_run l ≡ 0 = omega arith in
    ap (λ (k : ℕ). b ∷ take k l) none ∙ sym first ∙ ap decimal (sym (value_stopped (b - 48) l none) ∙ sym value))
    (λ (h : 0 < digit_run l).
    let other : b ≡ 48 → ⊥ = λ z. both_ways (spare_zero_law (b ∷ l) (omega arith) z) n.no_spare in
    sym (ap decimal value ∙ decimal_onward (b - 48) l (omega arith) (omega arith) ∙ ap (λ (ds : List ℕ). ds ++ take (digit_run l) l) first))
    (le_or_lt (digit_run l) 0))
    (λ (d : is_digit b ≡ false). absurd (omega (arith, run_other b l d, n.some_digit)))
    (decided (is_digit b))
