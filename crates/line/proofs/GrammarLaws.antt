-- Numbers after spaces are read back as they were printed, and what is read as numbers is their printed form: by the numbers, one at a time.
-- Assumes nothing.
use Prim.Native.Nat.{ℕ, zero, suc, ◌≤◌}
use native.Mathlib.Omega.{arith}
use mathlib.Core.Path.{◌≡◌, refl, sym, ◌∙◌, ap, ap₂}
use mathlib.Core.Logic.{◌⊎◌, inl, inr, ⊎_elim}
use mathlib.Core.List.{List, [], ◌∷◌, ◌++◌}
use Rattle.std.specs.Prelude.{Option, None, Some}
use mathlib.Core.Bool.{true, false, ◌&&◌}
use lib.Dec.{leb, eqb}
use lib.ListN.{length, drop, take-append-drop}
use lib.Seq.{drop-append_seam}
use borrow.Author.Tests.{le-leb, leb-true, eqb-true}
use Rattle.loops.proofs.BoolLaws.{decided, and_left, and_right, and_intro, eq_or_ne}
use Rattle.line.specs.Number.{decimal, digit_run, value_from, is_number}
use Rattle.line.specs.Grammar.{letter, spaced, word_sized}
use Rattle.line.specs.Reading.{event_of, before, numbers_in}
use Rattle.request.specs.declared.ask.Event.{Event}
use Rattle.request.specs.declared.ask.Event.TheVariants as event
use Rattle.line.proofs.DigitLaws.{digit_low, run_other}
use Rattle.line.proofs.NumberLaws.{number_parts}
use Rattle.line.proofs.ReadingLaws.{numbers_right, numbers_wrong, numbers_nothing}
use Rattle.line.proofs.LineLaws.{event_letter, event_none, no_letter}
use Rattle.line.proofs.SpellingLaws.{decimal_run, decimal_value, decimal_is_number}
use Rattle.line.proofs.OneSpelling.{number_is_decimal}

-- no digit begins what follows a number
pub spaced_stops : (ns : List ℕ) → digit_run (spaced ns) ≡ 0
unfolding spaced digit_run
spaced_stops [] = refl
spaced_stops (n ∷ ns) = run_other 32 (decimal n ++ spaced ns) (digit_low 32 (omega arith))

pub numbers_printed : (k : ℕ) (ns : List ℕ) → length ns ≤ k → word_sized ns ≡ true → numbers_in k (spaced ns) ≡ Some ns
unfolding spaced word_sized before
numbers_printed k [] h r = numbers_nothing k
numbers_printed zero (n ∷ ns) h r = absurd (omega arith)
numbers_printed (suc k) (n ∷ ns) h r =
    let small = leb-true n 4_294_967_295 (and_left (leb n 4_294_967_295) (word_sized ns) r) in
    let stop = spaced_stops ns in
    numbers_right k 32 (decimal n ++ spaced ns) (decimal_is_number n (spaced ns) small stop)
    ∙ ap₂ (λ (v : ℕ) (l : List ℕ). before v (numbers_in k l)) (decimal_value n (spaced ns) small stop)
    (ap (λ (i : ℕ). drop i (decimal n ++ spaced ns)) (decimal_run n (spaced ns) small stop) ∙ drop-append_seam (decimal n) (spaced ns))
    ∙ ap (before n) (numbers_printed k ns (omega arith) (and_right (leb n 4_294_967_295) (word_sized ns) r))

-- what it means that a text is read as the numbers ns, of which there is room for k
pub record Prints (k : ℕ) (l : List ℕ) (ns : List ℕ) : Type 0 where
  pub bytes : l ≡ spaced ns
  pub not_over : length ns ≤ k
  pub in_range : word_sized ns ≡ true

prints_none : (k : ℕ) (ns : List ℕ) → Some [] ≡ Some ns → Prints k [] ns
unfolding spaced word_sized
prints_none k [] e = record { bytes = refl; not_over = omega arith; in_range = refl }
prints_none k (n ∷ ns) e = absurd (let z : ◌≡◌ {A = ℕ} 0 1 = cc in omega arith)

prints_more : (k b : ℕ) (l ns : List ℕ) (m : Option (List ℕ))
    → b ≡ 32
    → is_number l ≡ true
    → ((ns' : List ℕ) → m ≡ Some ns' → Prints k (drop (digit_run l) l) ns')
    → before (value_from 0 l) m ≡ Some ns
    → Prints (suc k) (b ∷ l) ns
unfolding before spaced word_sized
prints_more k b l ns None p q f e = absurd (let z : ◌≡◌ {A = ℕ} 0 1 = cc in omega arith)
prints_more k b l [] (Some ns') p q f e = absurd (let z : ◌≡◌ {A = ℕ} 0 1 = cc in omega arith)
prints_more k b l (n ∷ ns) (Some ns') p q f e =
    let numeral = number_parts l q in
    let v : n ≡ value_from 0 l = cc in
    let rest : ns' ≡ ns = cc in
    let h = f ns (ap Some rest) in
    record {
      bytes =
          ap₂ (λ (x : ℕ) (y : List ℕ). x ∷ y) p
          (sym (take-append-drop (digit_run l) l) ∙ ap₂ (λ (x y : List ℕ). x ++ y) (number_is_decimal l numeral ∙ ap decimal (sym v)) h.bytes);
      not_over = omega (arith, h.not_over);
      in_range = and_intro (le-leb n 4_294_967_295 (omega (arith, numeral.small))) h.in_range;
    }

pub numbers_read : (k : ℕ) (l ns : List ℕ) → numbers_in k l ≡ Some ns → Prints k l ns
unfolding numbers_in
numbers_read zero [] ns e = prints_none zero ns e
numbers_read zero (b ∷ l) ns e = absurd (let z : ◌≡◌ {A = ℕ} 0 1 = cc in omega arith)
numbers_read (suc k) [] ns e = prints_none (suc k) ns e
numbers_read (suc k) (b ∷ l) ns e =
    ⊎_elim
    (λ (t : eqb b 32 && is_number l ≡ true).
    prints_more k b l ns (numbers_in k (drop (digit_run l) l)) (eqb-true b 32 (and_left (eqb b 32) (is_number l) t)) (and_right (eqb b 32) (is_number l) t)
    (λ ns' h. numbers_read k (drop (digit_run l) l) ns' h)
    (sym (numbers_right k b l t) ∙ e))
    (λ (t : eqb b 32 && is_number l ≡ false). absurd (let z : ◌≡◌ {A = ℕ} 0 1 = cc (numbers_wrong (suc k) b l t, e) in omega arith))
    (decided (eqb b 32 && is_number l))

-- a byte is an event's letter, or none's
pub letter_or_none : (b : ℕ) → ((e : Event) × (b ≡ letter e)) ⊎ ((e : Event) → b ≡ letter e → ⊥)
letter_or_none b =
    ⊎_elim (λ (p : b ≡ 83). inl (event.Setup, p)) (λ (s : b ≡ 83 → ⊥).
    ⊎_elim (λ (p : b ≡ 82). inl (event.Read, p)) (λ (r : b ≡ 82 → ⊥).
    ⊎_elim (λ (p : b ≡ 87). inl (event.Write, p)) (λ (w : b ≡ 87 → ⊥).
    ⊎_elim (λ (p : b ≡ 75). inl (event.Tick, p)) (λ (k : b ≡ 75 → ⊥).
    ⊎_elim (λ (p : b ≡ 84). inl (event.Take, p)) (λ (t : b ≡ 84 → ⊥).
    ⊎_elim (λ (p : b ≡ 70). inl (event.Refresh, p)) (λ (f : b ≡ 70 → ⊥).
    ⊎_elim (λ (p : b ≡ 76). inl (event.List, p)) (λ (l : b ≡ 76 → ⊥). inr (no_letter b s r w k t f l))
    (eq_or_ne b 76)) (eq_or_ne b 70)) (eq_or_ne b 84)) (eq_or_ne b 75)) (eq_or_ne b 87)) (eq_or_ne b 82)) (eq_or_ne b 83)

pub event_back : (b : ℕ) (e : Event) → event_of b ≡ Some e → b ≡ letter e
event_back b e h =
    ⊎_elim
    (λ (w : (e : Event) × (b ≡ letter e)).
    let same : w.0 ≡ e = cc (event_letter w.0, ap event_of w.1, h) in
    w.1 ∙ ap letter same)
    (λ (q : (e : Event) → b ≡ letter e → ⊥). absurd (let z : ◌≡◌ {A = ℕ} 0 1 = cc (event_none b q, h) in omega arith))
    (letter_or_none b)
