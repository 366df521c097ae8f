-- What an answer tells, bit by bit; and of a fit book it is never BAD BOOK.
-- Assumes nothing.
use Prim.Native.Nat.{ℕ, ◌-◌, ◌^◌, ◌<◌}
use mathlib.Core.Path.{◌≡◌, refl, sym, ◌∙◌, ap, ap₂, subst₂}
use mathlib.Core.Logic.{⊎_elim}
use mathlib.Core.Bool.{Bool, true, false, not, ◌||◌}
use mathlib.Core.List.{List}
use lib.Dec.{eqb, leb}
use borrow.Author.Tests.{leb-false, eq-eqb}
use Rattle.loops.proofs.BoolLaws.{decided, pick_true, pick_false, and_right, and_intro, or_left, or_right}
use Rattle.loops.proofs.LoopLaws.{every_at, every_intro}
use Rattle.order.specs.Vector.{zeros}
use Rattle.order.specs.Record.{vector_of}
use Rattle.order.proofs.OrderLaws.{above_irrefl, above_unwritten}
use Rattle.book.specs.Layout.{counts_of, stored}
use Rattle.fit.specs.Fit.{homes_fit, crews_fit, shelves_fit, links_fit, stores_fit, parts_fit, fit}
use Rattle.fit.proofs.FitLaws.{fit_open}
use Rattle.named.proofs.NamedLaws.{fit_base}
use Rattle.who.specs.Bits.{bit_of, mask_of, count_of}
use Rattle.who.specs.Who.{has_it, who_parts, who_fit, who_number, has, holders, who_told, Tells}
use Rattle.who.proofs.MaskLaws.{mask_ones, bit_in, bit_out, mask_all, count_all}
use Rattle.who.proofs.WhoLaws.{who_named, who_good}
use Rattle.who.proofs.Unique.{has_not}

-- nothing is above itself, and an unwritten version is above nothing
pub own_has : (n : ℕ) (l : List ℕ) (d k : ℕ) → has_it n l d k d ≡ true
unfolding has_it
own_has n l d k = ap not (above_irrefl n _)

pub unwritten_has : (n : ℕ) (l : List ℕ) (d k x : ℕ) → zeros n (vector_of (stored l d k)) ≡ true → has_it n l d k x ≡ true
unfolding has_it
unwritten_has n l d k x z = ap not (above_unwritten n _ _ z)

module _ (l : List ℕ) (d k : ℕ) where
  -- the mask and the count of those that have it tell
  holders_tell : Tells l d k (mask_of (counts_of l).depots (has_it (counts_of l).depots l d k)) (count_of (counts_of l).depots (has_it (counts_of l).depots l d k))
  holders_tell =
      let n = (counts_of l).depots in
      record {
        bits = λ x h. bit_in _ n x h;
        no_others = λ x h. bit_out _ n x h;
        depots = refl;
        set = sym (mask_ones _ n);
        own = λ h. bit_in _ n d h ∙ own_has n l d k;
        unwritten = λ z. (mask_all _ n (λ x h. unwritten_has n l d k x z), count_all _ n (λ x h. unwritten_has n l d k x z));
      }

  pub who_tells : {mask count : ℕ} → who_told l d k ≡ has mask count → Tells l d k mask count
  unfolding who_told holders
  who_tells {mask} {count} e =
      ⊎_elim
      (λ (z : eqb (who_number l d k) 0 ≡ true).
      let same = sym (pick_true (holders l d k) _ z) ∙ e in
      let bits : mask_of (counts_of l).depots (has_it (counts_of l).depots l d k) ≡ mask = cc in
      let depots : count_of (counts_of l).depots (has_it (counts_of l).depots l d k) ≡ count = cc in
      subst₂ (Tells l d k) bits depots holders_tell)
      (λ (z : eqb (who_number l d k) 0 ≡ false). absurd (has_not (sym e ∙ pick_false _ _ z)))
      (decided (eqb (who_number l d k) 0))

-- ---- a fit book is fit for it

-- a test that is asked only of a number in range
unless : (a : Bool) {b : Bool} → (a ≡ false → b ≡ true) → a || b ≡ true
unless a {b} h = ⊎_elim (λ (e : a ≡ true). or_left a b e) (λ (e : a ≡ false). or_right a b (h e)) (decided a)

pub fit_who : (l : List ℕ) → fit l ≡ true → (d k : ℕ) → who_fit l d k ≡ true
unfolding who_fit who_parts parts_fit stores_fit
fit_who l h d k =
    let n = counts_of l in
    let stores = and_right (links_fit n l) _ (and_right (shelves_fit n l) _ (and_right (crews_fit n l) _ (and_right (homes_fit n l) _ (fit_open l h).parts))) in
    and_intro (fit_base l h)
    (unless (leb n.depots d)
    (λ a. unless (leb n.bearings k) (λ b. every_intro n.depots _ (λ x i. every_at n.bearings _ (every_at n.depots _ stores x i) k (leb-false _ _ b)))))

-- ---- all bits

module _ (l : List ℕ) (d k : ℕ) where
  pub fit_number : fit l ≡ true → d < (counts_of l).depots → k < (counts_of l).bearings → who_number l d k ≡ 0
  fit_number h a b = let f = fit_base l h in who_good l d k f a b (sym (who_named l d k f a b) ∙ fit_who l h d k)

  -- every depot has it: all bits are set
  pub told_all_law : who_number l d k ≡ 0 → ((x : ℕ) → x < (counts_of l).depots → has_it (counts_of l).depots l d k x ≡ true)
      → who_told l d k ≡ has (2 ^ (counts_of l).depots - 1) (counts_of l).depots
  unfolding who_told holders
  told_all_law e all = pick_true _ _ (eq-eqb _ 0 e) ∙ ap₂ has (mask_all _ (counts_of l).depots all) (count_all _ (counts_of l).depots all)

  -- and the other way round
  pub all_told : who_told l d k ≡ has (2 ^ (counts_of l).depots - 1) (counts_of l).depots → (x : ℕ) → x < (counts_of l).depots → has_it (counts_of l).depots l d k x ≡ true
  all_told e x h =
      let n = (counts_of l).depots in
      sym ((who_tells l d k e).bits x h) ∙ sym (ap (λ (m : ℕ). bit_of m x) (mask_all (λ y. true) n (λ y i. refl))) ∙ bit_in (λ y. true) n x h
