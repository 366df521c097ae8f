-- What a fit book gives, part by part, and that a book of all zeros is not fit.
-- Assumes nothing.
use Prim.Native.Nat.{ℕ, ◌≤◌}
use native.Mathlib.Nat.{le_trans}
use mathlib.Core.Path.{◌≡◌, refl}
use mathlib.Core.List.{List}
use mathlib.Core.Bool.{true, false}
use lib.Dec.{leb, lit≤}
use lib.ListN.{length, replicate}
use borrow.Author.Tests.{leb-true, eqb-true}
use Rattle.loops.proofs.BoolLaws.{and_left, and_right}
use Rattle.book.specs.declared.parts.Counts.{Counts}
use Rattle.book.specs.Layout.{book_words, counts_of}
use Rattle.fit.specs.Fit.{most_bearings, between, counts_fit, Within, parts_fit, fit}

low : (a x b : ℕ) → between a x b ≡ true → a ≤ x
unfolding between
low a x b h = leb-true a x (and_left (leb a x) _ h)

high : (a x b : ℕ) → between a x b ≡ true → x ≤ b
unfolding between
high a x b h = leb-true x b (and_right (leb a x) _ h)

pub counts_within : (n : Counts) → counts_fit n ≡ true → Within n
unfolding counts_fit
counts_within n h =
    let d = and_left (between 1 n.depots 4) _ h in
    let h1 = and_right (between 1 n.depots 4) _ h in
    let s = and_left (between 1 n.shelves 4) _ h1 in
    let h2 = and_right (between 1 n.shelves 4) _ h1 in
    let k = and_left (between 1 n.bearings most_bearings) _ h2 in
    let c = and_right (between 1 n.bearings most_bearings) _ h2 in
    record {
      depots = high 1 n.depots 4 d;
      shelf = low 1 n.shelves 4 s;
      shelves = high 1 n.shelves 4 s;
      bearings = le_trans (high 1 n.bearings most_bearings k) (lit≤ tt);
      crews = high 1 n.crews 16 c;
    }

-- a fit book has its length, counts in range, and fit parts
pub record IsFit (l : List ℕ) : Type 0 where
  pub full : length l ≡ book_words
  pub counts : counts_fit (counts_of l) ≡ true
  pub parts : parts_fit (counts_of l) l ≡ true

pub fit_open : (l : List ℕ) → fit l ≡ true → IsFit l
unfolding fit
fit_open l h =
    record {
      full = eqb-true _ _ (and_left _ _ h);
      counts = and_left (counts_fit (counts_of l)) _ (and_right (lib.Dec.eqb (length l) book_words) _ h);
      parts = and_right (counts_fit (counts_of l)) _ (and_right (lib.Dec.eqb (length l) book_words) _ h);
    }

-- a book of all zeros is not fit
pub zeros_unfit : fit (replicate book_words 0) ≡ false
unfolding fit counts_fit between
zeros_unfit = refl
