-- Reading the numbers of an entry's line: from each place on, what is left is read as the whole is.
-- Assumes nothing.
use Prim.Native.Nat.{ℕ, suc, ◌+◌, ◌-◌, ◌≤◌, ◌<◌}
use native.Mathlib.Nat.{zero-add}
use native.Mathlib.Omega.{arith}
use mathlib.Core.Path.{◌≡◌, refl, sym, ◌∙◌, ap}
use mathlib.Core.List.{List, []}
use Rattle.std.specs.Prelude.{Option, None, Some}
use mathlib.Core.Bool.{Bool, true, false}
use lib.Dec.{eqb}
use lib.ListN.{length, get_or, take, drop, replicate, set}
use lib.Seq.{sets}
use borrow.Author.Tests.{eq-eqb, ne_eqb, le-leb, lt-leb}
use Rattle.loops.specs.Loops.{pick}
use Rattle.loops.proofs.BoolLaws.{and_intro, and_next, and_stop, pick_true, pick_false}
use Rattle.line.specs.Reading.{before, numbers_in}
use Rattle.history.specs.Entry.{kinded, dashed, read_in, entry_in}

-- the answer of a reader that has stored n numbers in ws and finds m after them
unfoldable pub filled : ℕ → List ℕ → ℕ → Option (List ℕ) → Option (List ℕ)
filled count ws n None = None
filled count ws n (Some ns) = pick (eqb (n + length ns) count) (Some (sets ws (n + 1) ns)) None

pub filled_start : (kind count : ℕ) (m : Option (List ℕ)) → filled count (set (replicate 11 0) 0 kind) 0 m ≡ kinded kind count m
unfolding filled kinded
filled_start kind count None = refl
filled_start kind count (Some ns) = rw zero-add

filled_more : (count : ℕ) (ws : List ℕ) (n v : ℕ) (m : Option (List ℕ)) → filled count ws n (before v m) ≡ filled count (set ws (n + 1) v) (n + 1) m
unfolding filled before
filled_more count ws n v None = refl
filled_more count ws n v (Some ns) =
    let c : n + suc (length ns) ≡ n + 1 + length ns = omega arith in
    let d : suc (n + 1) ≡ n + 1 + 1 = omega arith in
    rw (c, d)

pub filled_wrong : (count : ℕ) (ws : List ℕ) (n : ℕ) → (n ≡ count → ⊥) → filled count ws n (Some []) ≡ None
unfolding filled
filled_wrong count ws n h = pick_false _ _ (ne_eqb (n + 0) count (λ e. h (omega arith)))

pub filled_right : (count : ℕ) (ws : List ℕ) (n : ℕ) → n ≡ count → filled count ws n (Some []) ≡ Some ws
unfolding filled
filled_right count ws n h = pick_true _ _ (eq-eqb (n + 0) count (omega arith))

-- a reader that finds no number after those that it has stored
pub filled_refused : (count : ℕ) (ws : List ℕ) (n : ℕ) {m : Option (List ℕ)} {x : Option (List ℕ)} → filled count ws n m ≡ x → m ≡ None → None ≡ x
unfolding filled
filled_refused count ws n p q = sym (ap (filled count ws n) q) ∙ p

-- one that finds a number and stores it
pub filled_turn : (count : ℕ) (ws : List ℕ) (n v : ℕ) (l l' : List ℕ) {x : Option (List ℕ)}
    → n ≤ count
    → (n ≡ count → ⊥)
    → filled count ws n (numbers_in (count - n) l) ≡ x
    → numbers_in (suc (count - (n + 1))) l ≡ before v (numbers_in (count - (n + 1)) l')
    → filled count (set ws (n + 1) v) (n + 1) (numbers_in (count - (n + 1)) l') ≡ x
filled_turn count ws n v l l' p q h f =
    let c : suc (count - (n + 1)) ≡ count - n = omega arith in
    sym (filled_more count ws n v _) ∙ ap (filled count ws n) (sym f ∙ ap (λ (j : ℕ). numbers_in j l) c) ∙ h

-- ---- a read's line ends in a dash after a space, or it does not

module _ (s : List ℕ) where
  pub read_plain : dashed s ≡ false → read_in s ≡ kinded 1 10 (numbers_in 10 (drop 1 s))
  unfolding read_in
  read_plain h = pick_false _ _ h

  pub read_short : length s < 3 → read_in s ≡ kinded 1 10 (numbers_in 10 (drop 1 s))
  unfolding dashed
  read_short h = read_plain (and_stop _ (lt-leb 3 (length s) h))

  pub read_unspaced : 3 ≤ length s → (get_or s (length s - 2) 0 ≡ 32 → ⊥) → read_in s ≡ kinded 1 10 (numbers_in 10 (drop 1 s))
  unfolding dashed
  read_unspaced h k = read_plain (and_next _ (le-leb 3 (length s) h) ∙ and_stop _ (ne_eqb _ _ k))

  pub read_undashed : 3 ≤ length s → get_or s (length s - 2) 0 ≡ 32 → (get_or s (length s - 1) 0 ≡ 45 → ⊥) → read_in s ≡ kinded 1 10 (numbers_in 10 (drop 1 s))
  unfolding dashed
  read_undashed h k d = read_plain (and_next _ (le-leb 3 (length s) h) ∙ and_next _ (eq-eqb _ _ k) ∙ ne_eqb _ _ d)

  pub read_dashed : 3 ≤ length s → get_or s (length s - 2) 0 ≡ 32 → get_or s (length s - 1) 0 ≡ 45
      → read_in s ≡ kinded 1 2 (numbers_in 2 (drop 1 (take (length s - 2) s)))
  unfolding read_in dashed
  read_dashed h k d = pick_true _ _ (and_intro (le-leb 3 (length s) h) (and_intro (eq-eqb _ _ k) (eq-eqb _ _ d)))

  -- ---- the first byte

  pub entry_empty : length s ≡ 0 → entry_in s ≡ None
  unfolding entry_in
  entry_empty h = pick_true _ _ (eq-eqb _ _ h)

  pub entry_write : (length s ≡ 0 → ⊥) → get_or s 0 0 ≡ 87 → entry_in s ≡ kinded 0 10 (numbers_in 10 (drop 1 s))
  unfolding entry_in
  entry_write h k = pick_false _ _ (ne_eqb _ _ h) ∙ pick_true _ _ (eq-eqb _ _ k)

  pub entry_read : (length s ≡ 0 → ⊥) → get_or s 0 0 ≡ 82 → entry_in s ≡ read_in s
  unfolding entry_in
  entry_read h k =
      pick_false _ _ (ne_eqb _ _ h) ∙ pick_false _ _ (ne_eqb (get_or s 0 0) 87 (λ e. omega (arith, e, k))) ∙ pick_true _ _ (eq-eqb _ _ k)

  pub entry_other : (get_or s 0 0 ≡ 87 → ⊥) → (get_or s 0 0 ≡ 82 → ⊥) → entry_in s ≡ None
  unfolding entry_in
  entry_other w r =
      ap (pick (eqb (length s) 0) None) (pick_false _ _ (ne_eqb _ _ w) ∙ pick_false _ _ (ne_eqb _ _ r)) ∙ same (eqb (length s) 0) None
    where
      same : (t : Bool) (x : Option (List ℕ)) → pick t x x ≡ x
      same true x = unfold pick in refl
      same false x = unfold pick in refl
