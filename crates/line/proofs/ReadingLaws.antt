-- The laws of reading a line's numbers: from each place on, what is left is read as the whole is.
-- Assumes nothing.
use Prim.Native.Nat.{ℕ, zero, suc, ◌+◌, ◌-◌, ◌≤◌, ◌<◌}
use native.Mathlib.Numerals.{add-one}
use native.Mathlib.Nat.{zero-add, add-zero}
use native.Mathlib.Omega.{arith}
use mathlib.Core.Path.{◌≡◌, refl, sym, ◌∙◌, ap, ap₂}
use mathlib.Core.List.{List, [], ◌∷◌}
use Rattle.std.specs.Prelude.{Option, None, Some}
use mathlib.Core.Bool.{Bool, true, false, ◌&&◌, and-false}
use lib.Dec.{leb, eqb}
use lib.ListN.{length, get_or, drop, replicate, drop_of_length-le}
use lib.Seq.{sets, drop-drop}
use borrow.Author.Tests.{le-leb, lt-leb, eq-eqb, ne_eqb}
use Rattle.loops.specs.Loops.{pick}
use Rattle.loops.proofs.BoolLaws.{and_intro, pick_true, pick_false}
use Rattle.line.specs.Number.{digit_run, value_from, is_number}
use Rattle.line.specs.Grammar.{most_numbers}
use Rattle.line.specs.Reading.{bad, good, before, numbers_in, counted, line_of}
use Rattle.request.specs.declared.ask.Event.{Event}
use Rattle.line.specs.declared.reader.Line.{Line}
use Rattle.line.proofs.DigitLaws.{from_here}

-- the numbers that are left, k at most, from each kind of byte on
pub numbers_nothing : (k : ℕ) → numbers_in k [] ≡ Some []
unfolding numbers_in
numbers_nothing zero = refl
numbers_nothing (suc k) = refl

pub numbers_wrong : (k b : ℕ) (l : List ℕ) → eqb b 32 && is_number l ≡ false → numbers_in k (b ∷ l) ≡ None
unfolding numbers_in
numbers_wrong zero b l h = refl
numbers_wrong (suc k) b l h = pick_false _ _ h

pub numbers_right : (k b : ℕ) (l : List ℕ) → eqb b 32 && is_number l ≡ true → numbers_in (suc k) (b ∷ l) ≡ before (value_from 0 l) (numbers_in k (drop (digit_run l) l))
unfolding numbers_in
numbers_right k b l h = pick_true _ _ h

module _ (s : List ℕ) (k i : ℕ) where
  pub numbers_end : length s ≤ i → numbers_in k (drop i s) ≡ Some []
  numbers_end h = ap (numbers_in k) (drop_of_length-le s h) ∙ numbers_nothing k

  pub numbers_full : i < length s → k ≡ 0 → numbers_in k (drop i s) ≡ None
  unfolding numbers_in
  numbers_full h e = rw e (ap (numbers_in 0) (from_here s i h))

  pub numbers_unspaced : i < length s → (get_or s i 0 ≡ 32 → ⊥) → numbers_in k (drop i s) ≡ None
  numbers_unspaced h e = ap (numbers_in k) (from_here s i h) ∙ numbers_wrong k _ _ (rw (ne_eqb (get_or s i 0) 32 e))

  pub numbers_missed : i < length s → is_number (drop (i + 1) s) ≡ false → numbers_in k (drop i s) ≡ None
  numbers_missed h e =
      ap (numbers_in k) (from_here s i h)
      ∙ numbers_wrong k _ _ (ap (λ (t : Bool). eqb (get_or s i 0) 32 && t) e ∙ and-false (eqb (get_or s i 0) 32))

  pub numbers_found : {v next : ℕ}
      → i < length s
      → get_or s i 0 ≡ 32
      → (is_number (drop (i + 1) s) ≡ true) × (v ≡ value_from 0 (drop (i + 1) s)) × (next ≡ i + 1 + digit_run (drop (i + 1) s))
      → numbers_in (suc k) (drop i s) ≡ before v (numbers_in k (drop next s))
  numbers_found {v} {next} h e f =
      ap (numbers_in (suc k)) (from_here s i h)
      ∙ numbers_right k _ _ (and_intro (eq-eqb (get_or s i 0) 32 e) f.0)
      ∙ ap₂ (λ (x : ℕ) (l : List ℕ). before x (numbers_in k l)) (sym f.1) (drop-drop (digit_run (drop (i + 1) s)) (i + 1) s ∙ ap (λ (j : ℕ). drop j s) (sym f.2))

-- the answer of a reader that has stored n numbers in vs and finds m after them
unfoldable pub answered : Event → ℕ → List ℕ → ℕ → Option (List ℕ) → Option Line
answered e few vs n None = None
answered e few vs n (Some ns) = pick (leb few (n + length ns)) (Some (record { event = e; numbers = sets vs n ns; count = n + length ns })) None

pub answered_start : (e : Event) (few : ℕ) (m : Option (List ℕ)) → answered e few (replicate most_numbers 0) 0 m ≡ line_of (counted e few m)
unfolding answered counted line_of pick
answered_start e few None = refl
answered_start e few (Some ns) = rw zero-add (choice (leb few (length ns)))
  where
    choice : (t : Bool) → pick t (Some (record { event = e; numbers = sets (replicate most_numbers 0) 0 ns; count = length ns })) None ≡ line_of (pick t (good e ns) bad)
    choice true = refl
    choice false = refl

pub answered_more : (e : Event) (few : ℕ) (vs : List ℕ) (n v : ℕ) (m : Option (List ℕ)) → answered e few vs n (before v m) ≡ answered e few (lib.ListN.set vs n v) (n + 1) m
unfolding answered before
answered_more e few vs n v None = refl
answered_more e few vs n v (Some ns) =
    let c : n + suc (length ns) ≡ suc n + length ns = omega arith in
    rw (add-one, c)

pub answered_few : (e : Event) (few : ℕ) (vs : List ℕ) (n : ℕ) → n < few → answered e few vs n (Some []) ≡ None
unfolding answered
answered_few e few vs n h = pick_false _ _ (lt-leb few (n + 0) (omega arith))

pub answered_enough : (e : Event) (few : ℕ) (vs : List ℕ) (n : ℕ) → few ≤ n → answered e few vs n (Some []) ≡ Some (record { event = e; numbers = vs; count = n })
unfolding answered
answered_enough e few vs n h = pick_true _ _ (le-leb few (n + 0) (omega arith)) ∙ rw add-zero

-- a reader that finds no number after those that it has stored
pub answered_refused : (e : Event) (few : ℕ) (vs : List ℕ) (n : ℕ) {m : Option (List ℕ)} {x : Option Line} → answered e few vs n m ≡ x → m ≡ None → None ≡ x
unfolding answered
answered_refused e few vs n p q = sym (ap (answered e few vs n) q) ∙ p

-- one that finds a number and stores it
pub answered_turn : (e : Event) (few : ℕ) (vs : List ℕ) (n k v : ℕ) (l l' : List ℕ) {x : Option Line}
    → n ≤ k
    → (n ≡ k → ⊥)
    → answered e few vs n (numbers_in (k - n) l) ≡ x
    → numbers_in (suc (k - (n + 1))) l ≡ before v (numbers_in (k - (n + 1)) l')
    → answered e few (lib.ListN.set vs n v) (n + 1) (numbers_in (k - (n + 1)) l') ≡ x
answered_turn e few vs n k v l l' p q h f =
    let c : suc (k - (n + 1)) ≡ k - n = omega arith in
    sym (answered_more e few vs n _ _) ∙ ap (answered e few vs n) (sym f ∙ ap (λ (j : ℕ). numbers_in j l) c) ∙ h
