-- A refresh is local.
-- Assumes nothing.
use Prim.Native.Nat.{ℕ, ◌+◌, ◌<◌, min}
use mathlib.Core.Path.{◌≡◌, refl, sym, ◌∙◌, ap, ap₂, subst}
use mathlib.Core.Logic.{◌⊎◌, ⊎_elim}
use mathlib.Core.List.{List}
use mathlib.Core.Bool.{true, not, ◌&&◌}
use lib.Dec.{leb, ltb, eqb}
use lib.ListN.{length, get_or}
use borrow.Author.Tests.{leb-false}
use Rattle.loops.specs.Loops.{every, pick}
use Rattle.loops.proofs.BoolLaws.{and_right}
use Rattle.book.specs.declared.parts.Counts.{Counts}
use Rattle.book.specs.Layout.{counts_of, seen_at, seen}
use Rattle.fit.specs.Fit.{seen_fit}
use Rattle.named.specs.Named.{show_fit, refresh_parts, refresh_fit}
use Rattle.named.proofs.NamedLaws.{base_open, refresh_based, refresh_named}
use Rattle.shelf.specs.Show.{settled}
use Rattle.links.specs.Send.{lowest, lowest_seen}
use Rattle.shelf.proofs.ShowFrame.{length_settled}
use Rattle.paper.specs.Calls.{refresh}
use Rattle.register.specs.Table.{refresh_number}
use Rattle.register.specs.Calls.{refresh_book}
use Rattle.register.proofs.Numbers.{RefreshDone, refresh_done}
use Rattle.upkeep.specs.Requests.{call, number_at, done_answer, changed_by}
use Rattle.upkeep.specs.Local.{Agree, BaseWord, RefreshWord, of_seens, of_shelf, Named, based, by_refresh, SettledWord, Changed, refreshing, Alike}
use Rattle.upkeep.proofs.LocalBasics.{or_alike, and_alike, first_alike, times_alike, agree_fewer}
use Rattle.upkeep.proofs.LocalParts.{counts_agree, base_agrees, refresh_parts_agree}
use Rattle.upkeep.proofs.LocalShow.{settled_named, settle_agrees, settle_stays}
use Rattle.upkeep.proofs.LocalAlike.{alike_by}

refreshes : (l : List ℕ) (d s j : ℕ) → Changed l (call (refresh d s)) j → SettledWord (counts_of l) l d s j
refreshes l d s j (refreshing w) = w

refresh_shows : (l : List ℕ) (d s : ℕ) → RefreshDone l d s → show_fit (counts_of l) l d s ≡ true
unfolding refresh_parts
refresh_shows l d s t =
    and_right (every (counts_of l).shelves (seen_fit (counts_of l) l d)) _
    (sym (refresh_named l d s (refresh_based l d s t.fits) t.depot t.shelf) ∙ t.fits)

-- the lowest stamp seen, of two books that agree on the stamps seen of the other depots
pub lowest_agrees :
    (n p d : ℕ) (l m : List ℕ) → ((r x : ℕ) → r < p → x < n → (x ≡ d → ⊥) → seen l d r x ≡ seen m d r x) → (x : ℕ) → x < n → (x ≡ d → ⊥) →
    lowest_seen n p d l x ≡ lowest_seen n p d m x
unfolding lowest_seen lowest
lowest_agrees n p d l m h x k f =
    ap (λ (y : ℕ). pick (ltb x n && not (eqb x d)) y 0) (times_alike (λ (a b : ℕ). a ≡ b) p _ _ _ _ refl λ r a b z e. ap₂ min e (h r x z k f))

module _ (S : ℕ → Type 0) (l m : List ℕ) (d s : ℕ) (H : (j : ℕ) → Named l (call (refresh d s)) j → S j) (A : Agree S l m) where
  B : (j : ℕ) → BaseWord l j → S j
  B j x = H j (based x)

  counts : counts_of l ≡ counts_of m
  counts = counts_agree S l m A B

  fits : refresh_fit l d s ≡ refresh_fit m d s
  unfolding refresh_fit
  fits =
      and_alike (base_agrees S l m A B) λ f.
      or_alike (ap (λ (n : Counts). leb n.depots d) counts) λ a.
      or_alike (ap (λ (n : Counts). leb n.shelves s) counts) λ b.
      refresh_parts_agree S l m A (counts_of l) d s (leb-false _ _ a) (λ j x. H j (by_refresh f (leb-false _ _ a) (leb-false _ _ b) x))
      ∙ ap (λ (n : Counts). refresh_parts n m d s) counts

  number : refresh_number l d s ≡ refresh_number m d s
  unfolding refresh_number
  number =
      first_alike 1 _ _ (ap not fits) λ z.
      first_alike 2 _ _ (ap (λ (n : Counts). leb n.depots d) counts) λ a.
      first_alike 3 _ _ (ap (λ (n : Counts). leb n.shelves s) counts) λ b. refl

  book : RefreshDone l d s → Agree (λ (j : ℕ). S j ⊎ Changed l (call (refresh d s)) j) (refresh_book l d s) (refresh_book m d s)
  unfolding refresh_book
  book t =
      let f = refresh_based l d s t.fits in
      let n = counts_of l in
      let W : (j : ℕ) → RefreshWord (counts_of l) l d s j → S j = λ j x. H j (by_refresh f t.depot t.shelf x) in
      agree_fewer S _ _ _
      (λ j k. ⊎_elim (λ (y : S j). y) (λ (y : Changed l (call (refresh d s)) j). W j (of_shelf (settled_named n l d s j (refreshes l d s j y)))) k)
      (subst
      (λ (k : Counts).
      Agree S (settled n.depots d s (lowest_seen n.depots n.shelves d l) l) (settled k.depots d s (lowest_seen k.depots k.shelves d m) m))
      counts
      (settle_agrees n l (base_open l f).within d s t.depot t.shelf (refresh_shows l d s t) _ S m _ (λ j x. W j (of_shelf x))
      (lowest_agrees n.depots n.shelves d l m (λ r x y z g. A.words (seen_at d r + x) (W _ (of_seens r x y z g refl)))) A))

  pub refresh_alike : Alike S l m (call (refresh d s))
  unfolding number_at done_answer changed_by
  refresh_alike = alike_by S l m (call (refresh d s)) number (λ z. refl) (λ z. book (refresh_done l d s z)) A

module _ (l : List ℕ) (d s : ℕ) where
  pub refresh_stays :
      (j : ℕ) → number_at l (call (refresh d s)) ≡ 0 → (Changed l (call (refresh d s)) j → ⊥) → get_or (changed_by l (call (refresh d s))) j 0 ≡ get_or l j 0
  unfolding number_at changed_by refresh_book
  refresh_stays j z out =
      let t = refresh_done l d s z in
      settle_stays (counts_of l) l (base_open l (refresh_based l d s t.fits)).within d s t.depot t.shelf (refresh_shows l d s t) _ j λ w.
      out (refreshing w)

  pub refresh_size : length (changed_by l (call (refresh d s))) ≡ length l
  unfolding changed_by refresh_book
  refresh_size = length_settled _ d s _ l
