-- A move is local.
-- Assumes nothing.
use Prim.Native.Nat.{ℕ, ◌+◌, ◌<◌}
use mathlib.Core.Path.{◌≡◌, refl, sym, ◌∙◌, ap, ap₂, subst}
use mathlib.Core.Logic.{◌⊎◌, ⊎_elim}
use mathlib.Core.List.{List}
use mathlib.Core.Bool.{Bool, true, not, ◌&&◌, ◌||◌}
use lib.Dec.{leb, eqb}
use lib.ListN.{length, get_or, length-set}
use lib.Seq.{get_or-set_other}
use borrow.Author.Tests.{leb-false, eqb-false, not-false}
use Rattle.order.specs.Vector.{Vec, covered}
use Rattle.loops.proofs.BoolLaws.{and_left, and_right}
use Rattle.book.specs.declared.parts.Counts.{Counts}
use Rattle.book.specs.Layout.{book_words, end, counts_of, home_at, crew_at, seen_at, home, crew_vector, seen}
use Rattle.fit.specs.Fit.{counts_fit, in_range, others_in_range, crew_fit, seen_fit}
use Rattle.named.specs.Named.{base_fit, move_parts, move_fit}
use Rattle.named.proofs.NamedLaws.{move_based}
use Rattle.links.specs.Send.{lowest_seen}
use Rattle.paper.specs.Calls.{move}
use Rattle.register.specs.Table.{arrived, move_number}
use Rattle.register.specs.Calls.{move_book}
use Rattle.register.proofs.MoveTable.{MoveDone, move_done}
use Rattle.upkeep.specs.Requests.{call, number_at, done_answer, changed_by}
use Rattle.upkeep.specs.Local.{Agree, BaseWord, a_home, MoveWord, of_mover, of_stamps, Named, based, by_move, Changed, moving, Alike}
use Rattle.upkeep.proofs.LocalBasics.{or_alike, and_alike, every_alike, first_alike, agree_fewer, set_agrees}
use Rattle.upkeep.proofs.LocalParts.{counts_agree, base_agrees, entry_agrees}
use Rattle.upkeep.proofs.LocalRefresh.{lowest_agrees}
use Rattle.upkeep.proofs.LocalAlike.{alike_by}

moves : (l : List ℕ) (c d j : ℕ) → Changed l (call (move c d)) j → j ≡ home_at c
moves l c d j (moving e) = e

-- vectors that agree in every entry but one depot's
pub covered_but : (n d : ℕ) (u v u' v' : Vec) → ((x : ℕ) → x < n → (x ≡ d → ⊥) → u x ≡ u' x) → ((x : ℕ) → x < n → (x ≡ d → ⊥) → v x ≡ v' x) → covered n d u v ≡ covered n d u' v'
unfolding covered
covered_but n d u v u' v' p q = every_alike _ _ refl λ x k. or_alike refl λ e. ap₂ leb (p x k (eqb-false x d e)) (q x k (eqb-false x d e))

counts_in_law : (l : List ℕ) → base_fit l ≡ true → counts_fit (counts_of l) ≡ true
unfolding base_fit
counts_in_law l f = and_left (counts_fit (counts_of l)) _ (and_right (eqb (length l) book_words) _ f)

module _ (S : ℕ → Type 0) (l m : List ℕ) (c d : ℕ) (H : (j : ℕ) → Named l (call (move c d)) j → S j) (A : Agree S l m) where
  B : (j : ℕ) → BaseWord l j → S j
  B j x = H j (based x)

  counts : counts_of l ≡ counts_of m
  counts = counts_agree S l m A B

  -- where the counts and homes are fit and the numbers in range
  module _ (f : base_fit l ≡ true) (hc : c < (counts_of l).crews) (hd : d < (counts_of l).depots) where
    W : (j : ℕ) → MoveWord (counts_of l) c d j → S j
    W j x = H j (by_move f hc hd x)

    home_named : S (home_at c)
    home_named = B (home_at c) (a_home (counts_in_law l f) c hc refl)

    entries : (x : ℕ) → x < (counts_of l).depots → crew_vector l c x ≡ crew_vector m c x
    entries = entry_agrees S l m A (counts_of l).depots (crew_at c) (λ j i. W j (of_mover i))

    stamps : (r x : ℕ) → r < (counts_of l).shelves → x < (counts_of l).depots → (x ≡ d → ⊥) → seen l d r x ≡ seen m d r x
    stamps r x y z g = A.words (seen_at d r + x) (W _ (of_stamps r x y z g refl))

    parts : move_parts (counts_of l) l c d ≡ move_parts (counts_of l) m c d
    unfolding move_parts crew_fit in_range seen_fit others_in_range
    parts = ap₂ (λ (a b : Bool). a && b)
        (every_alike _ _ refl λ x z. ap (λ (y : ℕ). leb y end) (entries x z))
        (every_alike _ _ refl λ r k. covered_but (counts_of l).depots d _ _ _ _ (λ x z g. stamps r x k z g) (λ x z g. refl))

    lets : eqb d (home l c) || arrived l c d ≡ eqb d (home m c) || arrived m c d
    unfolding arrived
    lets = ap₂ (λ (a b : Bool). a || b) (ap (eqb d) (A.words (home_at c) home_named))
        (covered_but (counts_of l).depots d _ _ _ _ (λ x k g. entries x k) (lowest_agrees (counts_of l).depots (counts_of l).shelves d l m stamps)
        ∙ ap (λ (n : Counts). covered n.depots d (crew_vector m c) (lowest_seen n.depots n.shelves d m)) counts)

  fits : move_fit l c d ≡ move_fit m c d
  unfolding move_fit
  fits =
      and_alike (base_agrees S l m A B) λ f.
      or_alike (ap (λ (n : Counts). leb n.crews c) counts) λ a.
      or_alike (ap (λ (n : Counts). leb n.depots d) counts) λ b.
      parts f (leb-false _ _ a) (leb-false _ _ b) ∙ ap (λ (n : Counts). move_parts n m c d) counts

  number : move_number l c d ≡ move_number m c d
  unfolding move_number
  number =
      first_alike 1 _ _ (ap not fits) λ z.
      first_alike 5 _ _ (ap (λ (n : Counts). leb n.crews c) counts) λ a.
      first_alike 2 _ _ (ap (λ (n : Counts). leb n.depots d) counts) λ b.
      first_alike 12 _ _ (ap not (lets (move_based l c d (not-false _ z)) (leb-false _ _ a) (leb-false _ _ b))) λ e. refl

  book : MoveDone l c d → Agree (λ (j : ℕ). S j ⊎ Changed l (call (move c d)) j) (move_book l c d) (move_book m c d)
  unfolding move_book
  book t =
      agree_fewer S _ _ _
      (λ j k. ⊎_elim (λ (y : S j). y) (λ (y : Changed l (call (move c d)) j).
      subst S (sym (moves l c d j y)) (home_named (move_based l c d t.fits) t.crew t.depot)) k)
      (set_agrees S l m refl refl A)

  pub move_alike : Alike S l m (call (move c d))
  unfolding number_at done_answer changed_by
  move_alike = alike_by S l m (call (move c d)) number (λ z. refl) (λ z. book (move_done l c d z)) A

module _ (l : List ℕ) (c d : ℕ) where
  pub move_stays : (j : ℕ) → number_at l (call (move c d)) ≡ 0 → (Changed l (call (move c d)) j → ⊥) → get_or (changed_by l (call (move c d))) j 0 ≡ get_or l j 0
  unfolding changed_by move_book
  move_stays j z out = get_or-set_other l (home_at c) j d 0 λ e. out (moving e)

  pub move_size : length (changed_by l (call (move c d))) ≡ length l
  unfolding changed_by move_book
  move_size = length-set l (home_at c) d
