-- What a number reader finds, by the tests that it makes in their order: how many digits, a spare zero, how large.
-- Assumes nothing.
use Prim.Native.Nat.{ℕ, ◌+◌, ◌≤◌, ◌<◌}
use native.Mathlib.Nat.{add-zero}
use native.Mathlib.Omega.{arith}
use mathlib.Core.Path.{◌≡◌, sym, ◌∙◌, ap, ap₂}
use mathlib.Core.Logic.{◌⊎◌, ⊎_elim}
use mathlib.Core.List.{List}
use mathlib.Core.Bool.{Bool, true, false, ◌&&◌, not, and-false}
use Rattle.std.specs.Prelude.{Some, None}
use lib.Dec.{leb, ltb}
use lib.ListN.{get_or, drop}
use lib.Seq.{get_or-drop}
use Rattle.std.proofs.lemmas.Option.{none-some, same_Some}
use borrow.Author.Tests.{le-leb, lt-ltb, le-ltb, eq-eqb, ne_eqb, leb-true}
use Rattle.loops.proofs.BoolLaws.{failed, passed, both_ways, and_intro, and_left, and_right, not_passed, not_failed, pick_true, pick_false}
use Rattle.line.specs.Number.{digit_run, value_from, spare_zero, is_number, number_from, most_digits, most_number}
use Rattle.line.specs.declared.digits.Number.{Number}

-- what a number is, part by part
pub record Numeral (l : List ℕ) : Type 0 where
  pub some_digit : 1 ≤ digit_run l
  pub few_digits : digit_run l ≤ most_digits
  pub no_spare : spare_zero l ≡ false
  pub small : value_from 0 l ≤ most_number

pub number_parts : (l : List ℕ) → is_number l ≡ true → Numeral l
unfolding is_number
number_parts l h =
    let few = leb (digit_run l) most_digits in
    let own = not (spare_zero l) in
    let small = leb (value_from 0 l) most_number in
    let h₁ = and_right (leb 1 (digit_run l)) (few && (own && small)) h in
    let h₂ = and_right few (own && small) h₁ in
    record {
      some_digit = leb-true 1 (digit_run l) (and_left (leb 1 (digit_run l)) (few && (own && small)) h);
      few_digits = leb-true (digit_run l) most_digits (and_left few (own && small) h₁);
      no_spare = not_passed (and_left own small h₂);
      small = leb-true (value_from 0 l) most_number (and_right own small h₂);
    }

pub number_whole : (l : List ℕ) → Numeral l → is_number l ≡ true
unfolding is_number
number_whole l n =
    and_intro (le-leb _ _ n.some_digit) (and_intro (le-leb _ _ n.few_digits) (and_intro (not_failed n.no_spare) (le-leb _ _ n.small)))

-- a text is no number where a part fails
pub not_number : (l : List ℕ) → (Numeral l → ⊥) → is_number l ≡ false
not_number l h = failed (is_number l) λ e. h (number_parts l e)

pub spare_none : (l : List ℕ) → digit_run l ≤ 1 → spare_zero l ≡ false
unfolding spare_zero
spare_none l h = rw (le-ltb 1 (digit_run l) h)

pub spare_other : (l : List ℕ) → (get_or l 0 0 ≡ 48 → ⊥) → spare_zero l ≡ false
unfolding spare_zero
spare_other l h = ap (λ (t : Bool). ltb 1 (digit_run l) && t) (ne_eqb _ _ h) ∙ and-false (ltb 1 (digit_run l))

pub spare_zero_law : (l : List ℕ) → 1 < digit_run l → get_or l 0 0 ≡ 48 → spare_zero l ≡ true
unfolding spare_zero
spare_zero_law l h e = and_intro (lt-ltb _ _ h) (eq-eqb _ _ e)

abbrev standing : ℕ → ℕ → Number
standing v next = record { value = v; next = next }

module _ (s : List ℕ) (at : ℕ) where
  -- the first byte from here on
  pub first_here : get_or (drop at s) 0 0 ≡ get_or s at 0
  first_here = get_or-drop at s 0 0 ∙ ap (λ (i : ℕ). get_or s i 0) (add-zero at)

  no_number : (Numeral (drop at s) → ⊥) → None ≡ number_from s at
  unfolding number_from
  no_number h = sym (pick_false _ _ (not_number (drop at s) h))

  pub found_no_digit : {n : ℕ} → n ≡ digit_run (drop at s) → n ≡ 0 → None ≡ number_from s at
  found_no_digit e z = no_number λ k. omega (arith, k.some_digit)

  pub found_too_long : {n : ℕ} → n ≡ digit_run (drop at s) → 10 < n → None ≡ number_from s at
  found_too_long e l = no_number λ k. omega (arith, k.few_digits)

  pub found_spare_zero : {n : ℕ} → n ≡ digit_run (drop at s) → 1 < n → get_or s at 0 ≡ 48 → None ≡ number_from s at
  found_spare_zero e l z = no_number λ k. both_ways (spare_zero_law (drop at s) (rw e at l) (first_here ∙ z)) k.no_spare

  pub found_too_large : {v : ℕ} → v ≡ value_from 0 (drop at s) → 4_294_967_295 < v → None ≡ number_from s at
  found_too_large e l = no_number λ k. omega (arith, k.small)

  pub found_number : {n v : ℕ}
      → n ≡ digit_run (drop at s)
      → v ≡ value_from 0 (drop at s)
      → (n ≡ 0 → ⊥)
      → n ≤ 10
      → (n ≤ 1) ⊎ (get_or s at 0 ≡ 48 → ⊥)
      → v ≤ 4_294_967_295
      → Some (record { value = v; next = at + n }) ≡ number_from s at
  unfolding number_from
  found_number {n} {v} e f p q z l =
      ap₂ (λ (x y : ℕ). Some (standing x (at + y))) f e
      ∙ sym
      (pick_true _ _
      (number_whole
      (drop at s)
      (record {
        some_digit = omega arith;
        few_digits = omega arith;
        no_spare =
            ⊎_elim
            (λ (h : n ≤ 1). spare_none (drop at s) (omega arith))
            (λ (h : get_or s at 0 ≡ 48 → ⊥). spare_other (drop at s) (λ k. h (sym first_here ∙ k)))
            z;
        small = omega arith;
      })))

  -- what the finding says, by its two cases
  number : Number
  number = standing (value_from 0 (drop at s)) (at + digit_run (drop at s))

  pub missed : number_from s at ≡ None → is_number (drop at s) ≡ false
  unfolding number_from number
  missed e = failed (is_number (drop at s)) λ t. none-some number (sym e ∙ pick_true (Some number) None t)

  pub found : {n : Number} → number_from s at ≡ Some n
      → (is_number (drop at s) ≡ true) × (n.value ≡ value_from 0 (drop at s)) × (n.next ≡ at + digit_run (drop at s))
  unfolding number_from number
  found {n} e =
      let is = passed (is_number (drop at s)) λ t. none-some n (sym (pick_false (Some number) None t) ∙ e) in
      let same : n ≡ number = same_Some n number (sym e ∙ pick_true (Some number) None is) in
      (is, ap (λ (x : Number). x.value) same, ap (λ (x : Number). x.next) same)
