-- The laws of digits as a reader meets them: at a digit the run and the value go on, at anything else and at the end they stop.
-- Assumes nothing.
use Prim.Native.Nat.{ℕ, suc, ◌+◌, ◌*◌, ◌-◌, ◌^◌, ◌≤◌, ◌<◌}
use native.Mathlib.Numerals.{add-one}
use native.Mathlib.Nat.{lt_of_lt_of_le, pow-suc, pow-le-pow_right}
use native.Mathlib.Omega.{arith}
use mathlib.Core.Path.{◌≡◌, sym, ◌∙◌, ap}
use mathlib.Core.Logic.{⊎_elim}
use mathlib.Core.List.{List, [], ◌∷◌}
use mathlib.Core.Bool.{Bool, true, false}
use lib.Dec.{leb}
use lib.ListN.{length, get_or, drop, length-drop, drop_of_length-le}
use lib.Seq.{drop-cons}
use Rattle.std.specs.Char.{is_ascii_digit}
use borrow.Author.Tests.{le-leb, lt-leb, leb-true}
use Rattle.loops.proofs.BoolLaws.{decided, and_intro, and_left, and_right, pick_true, pick_false}
use Rattle.line.specs.Number.{is_digit, digit_run, value_from}

pub digit_yes : (b : ℕ) → 48 ≤ b → b < 58 → is_digit b ≡ true
unfolding is_digit
digit_yes b p q = and_intro (le-leb 48 b p) (le-leb b 57 (omega arith))

pub digit_low : (b : ℕ) → b < 48 → is_digit b ≡ false
unfolding is_digit
digit_low b p = rw (lt-leb 48 b p)

pub digit_bounds : (b : ℕ) → is_digit b ≡ true → (48 ≤ b) × (b ≤ 57)
unfolding is_digit
digit_bounds b h = (leb-true 48 b (and_left (leb 48 b) (leb b 57) h), leb-true b 57 (and_right (leb 48 b) (leb b 57) h))

-- the library's test, told by what it answered
pub digit_told : (b : ℕ) {r t : Bool} → r ≡ is_ascii_digit b → r ≡ t → is_digit b ≡ t
unfolding is_digit
digit_told b p q = sym p ∙ q

-- at a digit
pub run_digit : (b : ℕ) (l : List ℕ) → is_digit b ≡ true → digit_run (b ∷ l) ≡ suc (digit_run l)
unfolding digit_run
run_digit b l d = pick_true _ _ d

pub run_other : (b : ℕ) (l : List ℕ) → is_digit b ≡ false → digit_run (b ∷ l) ≡ 0
unfolding digit_run
run_other b l d = pick_false _ _ d

pub value_digit : (v b : ℕ) (l : List ℕ) → is_digit b ≡ true → value_from v (b ∷ l) ≡ value_from (v * 10 + (b - 48)) l
unfolding value_from
value_digit v b l d = pick_true _ _ d

pub value_other : (v b : ℕ) (l : List ℕ) → is_digit b ≡ false → value_from v (b ∷ l) ≡ v
unfolding value_from
value_other v b l d = pick_false _ _ d

-- no more digits than bytes
pub run_le : (l : List ℕ) → digit_run l ≤ length l
unfolding digit_run
run_le [] = omega arith
run_le (b ∷ l) =
    let h = run_le l in
    ⊎_elim
    (λ (d : is_digit b ≡ true). let e = run_digit b l d in omega arith)
    (λ (d : is_digit b ≡ false). let e = run_other b l d in omega arith)
    (decided (is_digit b))

module _ (s : List ℕ) (i : ℕ) where
  -- the text from i on, where i is within it
  pub from_here : i < length s → drop i s ≡ get_or s i 0 ∷ drop (i + 1) s
  from_here h = rw (add-one, drop-cons s i 0)

  pub run_more : i < length s → is_digit (get_or s i 0) ≡ true → digit_run (drop i s) ≡ digit_run (drop (i + 1) s) + 1
  run_more h d = ap digit_run (from_here h) ∙ run_digit _ _ d ∙ sym (add-one _)

  pub run_stop : i < length s → is_digit (get_or s i 0) ≡ false → digit_run (drop i s) ≡ 0
  run_stop h d = ap digit_run (from_here h) ∙ run_other _ _ d

  pub run_end : length s ≤ i → digit_run (drop i s) ≡ 0
  unfolding digit_run
  run_end h = ap digit_run (drop_of_length-le s h)

  pub value_more : (v : ℕ) → i < length s → is_digit (get_or s i 0) ≡ true → value_from v (drop i s) ≡ value_from (v * 10 + (get_or s i 0 - 48)) (drop (i + 1) s)
  value_more v h d = ap (value_from v) (from_here h) ∙ value_digit v _ _ d

  pub value_stop : (v : ℕ) → i < length s → is_digit (get_or s i 0) ≡ false → value_from v (drop i s) ≡ v
  value_stop v h d = ap (value_from v) (from_here h) ∙ value_other v _ _ d

  pub value_end : (v : ℕ) → length s ≤ i → value_from v (drop i s) ≡ v
  unfolding value_from
  value_end v h = ap (value_from v) (drop_of_length-le s h)

  -- the digits from i on lie within the text
  pub run_within : i + digit_run (drop i s) ≤ length s + i
  run_within = let h = run_le (drop i s) in let e = length-drop i s in omega arith

  pub run_inside : 0 < digit_run (drop i s) → i + digit_run (drop i s) ≤ length s
  run_inside p = let h = run_le (drop i s) in let e = length-drop i s in omega arith

-- k digits spell less than 10 ^ k
pub value_small : (v k : ℕ) → v < 10 ^ k → k < 10 → v < 1_000_000_000
value_small v k h l = let le : k ≤ 9 = omega arith in lt_of_lt_of_le h (pow-le-pow_right {n = 10} (omega arith) le)

pub value_grows : (v d i at : ℕ) → v < 10 ^ (i - at) → at ≤ i → d < 10 → v * 10 + d < 10 ^ (i + 1 - at)
value_grows v d i at h l p =
    let e : i + 1 - at ≡ suc (i - at) = omega arith in
    rw (e, pow-suc 10 (i - at)) (omega arith)

pub value_start : (at : ℕ) → 0 < 10 ^ (at - at)
value_start at = let e : at - at ≡ 0 = omega arith in rw e (omega arith)
