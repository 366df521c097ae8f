-- A take is local.
-- Assumes nothing.
use Prim.Native.Nat.{ℕ}
use native.Mathlib.Omega.{arith}
use mathlib.Core.Path.{◌≡◌, refl, sym, ◌∙◌, ap, ap₂}
use mathlib.Core.Logic.{◌⊎◌, ⊎_elim}
use mathlib.Core.List.{List}
use mathlib.Core.Bool.{Bool, true, false, not, ◌||◌}
use lib.Dec.{leb, eqb}
use lib.ListN.{length, get_or}
use borrow.Author.Tests.{leb-false, eqb-false, not-false, ne_eqb}
use Rattle.loops.proofs.BoolLaws.{or_next, and_left, and_right}
use Rattle.book.specs.declared.parts.Counts.{Counts}
use Rattle.book.specs.Layout.{end, counts_of, link_of, held_at, seen}
use Rattle.fit.specs.Fit.{head_fit}
use Rattle.named.specs.Named.{waiting_fit, base_fit, take_parts, take_fit}
use Rattle.named.proofs.NamedLaws.{take_based, take_named}
use Rattle.links.proofs.SendFrame.{length_took, took_off}
use Rattle.paper.specs.Calls.{take}
use Rattle.register.specs.Table.{take_number}
use Rattle.register.specs.Calls.{take_book}
use Rattle.register.proofs.Numbers.{TakeDone, take_done, or_none}
use Rattle.upkeep.specs.Requests.{call, number_at, done_answer, changed_by}
use Rattle.upkeep.specs.Local.{Agree, In, BaseWord, of_its_head, of_untaken, TakeWord, of_seen, of_sender, Named, based, by_take}
use Rattle.upkeep.specs.Local.{TookWord, the_seen, the_head, the_slots, Changed, taking, Alike}
use Rattle.upkeep.proofs.LocalBasics.{or_alike, and_alike, first_alike, agree_fewer}
use Rattle.upkeep.proofs.LocalParts.{counts_agree, base_agrees, held_agrees, taken_agrees, take_parts_agree}
use Rattle.upkeep.proofs.LocalMoves.{took_agrees}
use Rattle.upkeep.proofs.LocalAlike.{alike_by}

takes : (l : List ℕ) (d s from j : ℕ) → Changed l (call (take d s from)) j → TookWord l d s from j
takes l d s from j (taking w) = w

-- what taking writes is named
took_named : (l : List ℕ) (d s from : ℕ) → head_fit l (link_of s from d) ≡ true → (j : ℕ) → TookWord l d s from j → TakeWord l d s from j
took_named l d s from f j (the_seen e) = of_seen e
took_named l d s from f j (the_head i) = of_sender (of_its_head i)
took_named l d s from f j (the_slots i) = of_sender (of_untaken f i)

take_headed : (l : List ℕ) (d s from : ℕ) → TakeDone l d s from → head_fit l (link_of s from d) ≡ true
unfolding take_parts waiting_fit
take_headed l d s from t =
    and_left (head_fit l (link_of s from d)) _
    (and_right (leb (seen l d s from) end) _
    (sym (take_named l d s from (take_based l d s from t.fits) t.depot t.sender t.shelf ∙ or_next _ (ne_eqb d from t.apart)) ∙ t.fits))

module _ (S : ℕ → Type 0) (l m : List ℕ) (d s from : ℕ) (H : (j : ℕ) → Named l (call (take d s from)) j → S j) (A : Agree S l m) where
  B : (j : ℕ) → BaseWord l j → S j
  B j x = H j (based x)

  counts : counts_of l ≡ counts_of m
  counts = counts_agree S l m A B

  depots : (x : ℕ) → leb (counts_of l).depots x ≡ leb (counts_of m).depots x
  depots x = ap (λ (n : Counts). leb n.depots x) counts

  shelves : leb (counts_of l).shelves s ≡ leb (counts_of m).shelves s
  shelves = ap (λ (n : Counts). leb n.shelves s) counts

  module _
      (f : base_fit l ≡ true) (a : leb (counts_of l).depots d ≡ false) (b : leb (counts_of l).depots from ≡ false) (c : leb (counts_of l).shelves s ≡ false)
      (e : eqb d from ≡ false) where
    W : (j : ℕ) → TakeWord l d s from j → S j
    W j x = H j (by_take f (leb-false _ _ a) (leb-false _ _ b) (leb-false _ _ c) (eqb-false _ _ e) x)

    heads : (j : ℕ) → In (held_at (link_of s from d)) 2 j → S j
    heads j x = W j (of_sender (of_its_head x))

  fits : take_fit l d s from ≡ take_fit m d s from
  unfolding take_fit
  fits =
      and_alike (base_agrees S l m A B) λ f.
      or_alike (depots d) λ a.
      or_alike (depots from) λ b.
      or_alike shelves λ c.
      or_alike refl λ e. take_parts_agree S l m A (counts_of l) d s from (W f a b c e) ∙ ap (λ (n : Counts). take_parts n m d s from) counts

  number : take_number l d s from ≡ take_number m d s from
  unfolding take_number
  number =
      first_alike 1 _ _ (ap not fits) λ z.
      first_alike 2 _ _ (ap₂ (λ (x y : Bool). x || y) (depots d) (depots from)) λ p.
      first_alike 3 _ _ shelves λ c.
      first_alike 6 _ _ refl λ e.
      let g = or_none (leb (counts_of l).depots d) _ p in
      let K = heads (take_based l d s from (not-false _ z)) g.0 g.1 c e in
      first_alike 7 _ _ (ap₂ leb (held_agrees S l m A (link_of s from d) K) (taken_agrees S l m A (link_of s from d) K)) λ h. refl

  book : TakeDone l d s from → Agree (λ (j : ℕ). S j ⊎ Changed l (call (take d s from)) j) (take_book l d s from) (take_book m d s from)
  unfolding take_book
  book t =
      let f = take_based l d s from t.fits in
      let h = take_headed l d s from t in
      let w : (j : ℕ) → TakeWord l d s from j → S j = λ j x. H j (by_take f t.depot t.sender t.shelf t.apart x) in
      let K : (j : ℕ) → In (held_at (link_of s from d)) 2 j → S j = λ j x. w j (of_sender (of_its_head x)) in
      agree_fewer S _ _ _
      (λ j k. ⊎_elim (λ (y : S j). y) (λ (y : Changed l (call (take d s from)) j). w j (took_named l d s from h j (takes l d s from j y))) k)
      (took_agrees S d s from l m (held_agrees S l m A (link_of s from d) K) (taken_agrees S l m A (link_of s from d) K) t.more
      (λ j i. w j (of_sender (of_untaken h i))) A)

  pub take_alike : Alike S l m (call (take d s from))
  unfolding number_at done_answer changed_by
  take_alike = alike_by S l m (call (take d s from)) number (λ z. refl) (λ z. book (take_done l d s from z)) A

module _ (l : List ℕ) (d s from : ℕ) where
  pub take_stays :
      (j : ℕ) → number_at l (call (take d s from)) ≡ 0 → (Changed l (call (take d s from)) j → ⊥) → get_or (changed_by l (call (take d s from))) j 0 ≡ get_or l j 0
  unfolding number_at changed_by take_book
  take_stays j z out =
      took_off d s from l j (take_done l d s from z).more (λ e. out (taking (the_seen e))) (λ a b. out (taking (the_slots (a, b)))) λ a b.
      out (taking (the_head (a, b)))

  pub take_size : length (changed_by l (call (take d s from))) ≡ length l
  unfolding changed_by take_book
  take_size = length_took d s from l
