-- A list is local. One walk along the home shelves: a set that holds what showing a shelf touches holds it until its turn comes, since no turn before it writes there.
-- Assumes nothing.
use Prim.Native.Nat.{ℕ, zero, suc, ◌+◌, ◌≤◌, ◌<◌}
use native.Mathlib.Nat.{le_refl}
use native.Mathlib.Omega.{arith}
use mathlib.Core.Path.{◌≡◌, refl, sym, ◌∙◌, ap, ap₂, subst, subst₂}
use mathlib.Core.Logic.{◌⊎◌, ⊎_elim}
use mathlib.Core.List.{List, [], ◌∷◌, map}
use mathlib.Core.Bool.{Bool, true, not, ◌&&◌}
use lib.Dec.{leb}
use lib.ListN.{length, get_or}
use borrow.Author.Tests.{leb-false, not-false}
use Rattle.loops.specs.Loops.{times}
use Rattle.loops.proofs.BoolLaws.{and_right}
use Rattle.loops.proofs.LoopLaws.{times_keeps, every_at}
use Rattle.order.specs.Vector.{Vec, vector_in}
use Rattle.order.specs.Record.{vector_of}
use Rattle.order.proofs.VectorLaws.{length_merged, merged_other}
use Rattle.book.specs.declared.parts.Counts.{Counts}
use Rattle.book.specs.Layout.{end, crew_at, stable_at, stored_at, link_of, counts_of, home, crew_vector, stable, stored}
use Rattle.fit.specs.Fit.{in_range, crew_fit, kept_fit, stored_fit}
use Rattle.named.specs.Named.{show_fit, listed_fit, page_parts, list_parts, all_below, is_list, base_fit, list_fit}
use Rattle.named.proofs.NamedLaws.{Based, base_open, list_based, list_named}
use Rattle.shelf.specs.Asks.{Ready}
use Rattle.shelf.proofs.FrameLaws.{off_sides}
use Rattle.links.specs.Send.{four_of}
use Rattle.paper.specs.Calls.{list, listed}
use Rattle.register.specs.Answers.{told}
use Rattle.register.specs.Table.{list_number}
use Rattle.register.specs.Calls.{gathered_from, settled_all, merged_all, page_vector, page_book, page_told, list_book}
use Rattle.register.proofs.FitReady.{show_ready}
use Rattle.register.proofs.HomeLaws.{four_at}
use Rattle.register.proofs.ListTable.{ListDone, list_done}
use Rattle.register.proofs.PageReady.{page_turn, page_turns, page_ready, slots_wait, heads_wait, length_page}
use Rattle.upkeep.specs.Requests.{call, number_at, done_answer, changed_by}
use Rattle.upkeep.specs.Local.{Agree, BaseWord, ArrivalWord, of_stable, of_arrival, ListWord, of_reader, of_listed, of_shelves, Named, based, by_list}
use Rattle.upkeep.specs.Local.{the_entry, the_arrival, ListedWord, the_reader, the_shelves, Changed, listing, Alike}
use Rattle.upkeep.proofs.LocalBasics.{or_alike, and_alike, every_alike, first_alike, times_alike, agree_fewer, part_agrees}
use Rattle.upkeep.proofs.LocalParts.{base_counted, counts_agree, home_agrees, base_agrees, entry_agrees, stored_agrees, show_agrees}
use Rattle.upkeep.proofs.LocalMoves.{merged_agrees}
use Rattle.upkeep.proofs.LocalSweep.{But, holds_same}
use Rattle.upkeep.proofs.LocalShow.{Incoming, settled_agrees, settled_stays, arrival_holds, arrives, settled_named}
use Rattle.upkeep.proofs.LocalAlike.{alike_by}

-- ---- every shelf of a depot raised and shown

module _ (S : ℕ → Type 0) (n p d : ℕ) (offered : Vec) (l : List ℕ) (R : (s : ℕ) → s < p → Ready n d s l) (links : (s : ℕ) → s < p → Incoming S n d s l) where
  -- when its turn comes
  waiting_links : (i : ℕ) → i < p → Incoming S n d i (times i (page_turn n d offered) l)
  waiting_links i k from z f =
      holds_same S d (link_of i from d) l _ (page_turns n p d offered l R i (omega arith)).size (slots_wait n p d offered l R i k from z) (heads_wait n p d offered l R i k from z)
      (links i k from z f)

  pages_agree :
      (other : Vec) (m : List ℕ) → ((s x : ℕ) → s < p → x < n → S (stable_at d s + x)) → ((x : ℕ) → x < n → (x ≡ d → ⊥) → offered x ≡ other x) → Agree S l m → (i : ℕ) → i ≤ p →
      Agree S (times i (page_turn n d offered) l) (times i (page_turn n d other) m)
  unfolding times
  pages_agree other m stables same A zero k = A
  pages_agree other m stables same A (suc i) k =
      settled_agrees S n d i offered _ (page_ready n p d offered l R i k refl) (waiting_links i k) other _ (λ x z. stables i x k z) same
      (pages_agree other m stables same A i (omega arith))

pages_stay :
    (n p d : ℕ) (offered : Vec) (l : List ℕ) (j : ℕ) (R : (s : ℕ) → s < p → Ready n d s l) → ((s : ℕ) → s < p → Incoming (But j) n d s l) →
    ((s x : ℕ) → s < p → x < n → (x ≡ d → ⊥) → j ≡ stable_at d s + x → ⊥) → (i : ℕ) → i ≤ p → get_or (times i (page_turn n d offered) l) j 0 ≡ get_or l j 0
unfolding times
pages_stay n p d offered l j R links entries zero k = refl
pages_stay n p d offered l j R links entries (suc i) k =
    settled_stays n d i offered _ j (page_ready n p d offered l R i k refl) (λ x z f. entries i x k z f) (waiting_links (But j) n p d offered l R links i k)
    ∙ pages_stay n p d offered l j R links entries i (omega arith)

-- ---- what is offered

gathered_agrees :
    (n p d : ℕ) (l m u w : List ℕ) → length u ≡ length w → ((s x : ℕ) → s < p → x < n → stable l d s x ≡ stable m d s x) → ((x : ℕ) → x < n → get_or u x 0 ≡ get_or w x 0) →
    (x : ℕ) → x < n → get_or (gathered_from n p d l u) x 0 ≡ get_or (gathered_from n p d m w) x 0
unfolding gathered_from
gathered_agrees n p d l m u w size stables same x k =
    (times_alike (Agree (λ (j : ℕ). j < n)) p _ _ u w (record { size = size; words = same })
    (λ s v z h A. merged_agrees (λ (j : ℕ). j < n) n d 0 (stable l d s) (stable m d s) v z (λ y a f. omega arith) (λ y a f. stables s y h a) A)).words x k

-- ---- the listed bearings, one by one

pub map_alike : {A : Type 0} (f g : ℕ → A) (ks : List ℕ) → ((i : ℕ) → i < length ks → f (get_or ks i 0) ≡ g (get_or ks i 0)) → map f ks ≡ map g ks
map_alike f g [] h = refl
map_alike f g (k ∷ ks) h = ap₂ (λ (a : _) (r : List _). a ∷ r) (h 0 (omega arith)) (map_alike f g ks (λ i z. h (suc i) (omega arith)))

merged_all_agrees :
    (S : ℕ → Type 0) (n c d : ℕ) (ks v w : List ℕ) → n ≤ 4 → ((x : ℕ) → x < n → S (crew_at c + x)) → ((i : ℕ) → i < length ks → (j : ℕ) → (stored_at d (get_or ks i 0) ≤ j) × (j < stored_at d (get_or ks i 0) + 9) → S j) →
    Agree S v w → Agree S (merged_all n c d ks v) (merged_all n c d ks w)
unfolding merged_all
merged_all_agrees S n c d ks v w small crew stores A =
    times_alike (Agree S) (length ks) _ _ v w A λ i p q k B.
    merged_agrees S n n (crew_at c) _ _ p q (λ x z f. crew x z) (λ x z f. ap (λ (r : List ℕ). vector_of r x) (part_agrees S p q 9 refl (stores i k) B)) B

merged_all_stays : (n c d : ℕ) (ks v : List ℕ) (j : ℕ) → ((crew_at c ≤ j) × (j < crew_at c + n) → ⊥) → get_or (merged_all n c d ks v) j 0 ≡ get_or v j 0
unfolding merged_all
merged_all_stays n c d ks v j out =
    times_keeps (λ (m : List ℕ). get_or m j 0 ≡ get_or v j 0) (length ks) _ v
    (λ i m k h. merged_other n n _ (crew_at c) m j (off_sides (crew_at c) n j (λ a b. out (a, b))) ∙ h) refl

length_merged_all : (n c d : ℕ) (ks v : List ℕ) → length (merged_all n c d ks v) ≡ length v
unfolding merged_all
length_merged_all n c d ks v = times_keeps (λ (m : List ℕ). length m ≡ length v) (length ks) _ v (λ i m k h. length_merged n n _ (crew_at c) m ∙ h) refl

-- ---- a list

-- what a list writes is named
listed_named : (l : List ℕ) (c : ℕ) (ks : List ℕ) (j : ℕ) → ListedWord (counts_of l) l c (home l c) j → ListWord (counts_of l) l c ks (home l c) j
listed_named l c ks j (the_reader i) = of_reader i
listed_named l c ks j (the_shelves s k w) = of_shelves s k (settled_named (counts_of l) l (home l c) s j w)

lists : (l : List ℕ) (c : ℕ) (ks : List ℕ) (j : ℕ) → Changed l (call (list c ks)) j → ListedWord (counts_of l) l c (home l c) j
lists l c ks j (listing w) = w

-- the home shelves of a list that is done
module _ (l : List ℕ) (c : ℕ) (ks : List ℕ) (t : ListDone l c ks) where
  B₀ : Based l
  B₀ = base_open l (list_based l c ks t.fits)

  fit_shows : (s : ℕ) → s < (counts_of l).shelves → show_fit (counts_of l) l (home l c) s ≡ true
  unfolding list_parts page_parts
  fit_shows s k =
      every_at (counts_of l).shelves _
      (and_right (listed_fit (counts_of l) l (home l c) ks) _
      (and_right (crew_fit (counts_of l) l c) _ (sym (list_named l c ks (list_based l c ks t.fits) t.crew t.size t.bearings) ∙ t.fits))) s k

  shelves_ready : (s : ℕ) → s < (counts_of l).shelves → Ready (counts_of l).depots (home l c) s l
  shelves_ready s k = show_ready (counts_of l) l B₀.within (home l c) s (B₀.homes c t.crew) k (fit_shows s k)

  shelves_hold : (S : ℕ → Type 0) → ((s j from : ℕ) → s < (counts_of l).shelves → from < (counts_of l).depots → (from ≡ home l c → ⊥) → ArrivalWord (counts_of l) l (home l c) s from j → S j) →
      (s : ℕ) → s < (counts_of l).shelves → Incoming S (counts_of l).depots (home l c) s l
  shelves_hold S W s k from z f = arrival_holds S (counts_of l) l (home l c) s from (arrives (counts_of l) l (home l c) s (fit_shows s k) from z f) (λ j x. W s j from k z f x)

  pub page_stays : (j : ℕ) → (ListedWord (counts_of l) l c (home l c) j → ⊥) → get_or (page_book l c) j 0 ≡ get_or l j 0
  unfolding page_book settled_all
  page_stays j out =
      pages_stay (counts_of l).depots (counts_of l).shelves (home l c) (page_vector l c) l j shelves_ready
      (shelves_hold (But j) (λ s i from k z f w e. out (the_shelves s k (the_arrival from z f (subst (ArrivalWord (counts_of l) l (home l c) s from) e w)))))
      (λ s x k z f e. out (the_shelves s k (the_entry x z f e))) (counts_of l).shelves (le_refl _)

module _ (S : ℕ → Type 0) (l m : List ℕ) (c : ℕ) (ks : List ℕ) (H : (j : ℕ) → Named l (call (list c ks)) j → S j) (A : Agree S l m) where
  B : (j : ℕ) → BaseWord l j → S j
  B j x = H j (based x)

  counts : counts_of l ≡ counts_of m
  counts = counts_agree S l m A B

  module _ (f : base_fit l ≡ true) (hc : c < (counts_of l).crews) (W : (j : ℕ) → ListWord (counts_of l) l c ks (home l c) j → S j) where
    same_home : home l c ≡ home m c
    same_home = home_agrees S l m A B (base_counted l f) c hc

    same_crew : (x : ℕ) → x < (counts_of l).depots → crew_vector l c x ≡ crew_vector m c x
    same_crew = entry_agrees S l m A (counts_of l).depots (crew_at c) (λ j i. W j (of_reader i))

    parts_agree : list_parts (counts_of l) l c ks ≡ list_parts (counts_of m) m c ks
    unfolding list_parts page_parts listed_fit crew_fit in_range stored_fit
    parts_agree =
        ap₂ (λ (a b : Bool). a && b)
        (every_alike _ _ refl λ x z. ap (λ (y : ℕ). leb y end) (same_crew x z))
        (ap₂ (λ (a b : Bool). a && b)
        (every_alike _ _ refl λ i k. ap (kept_fit (counts_of l) (get_or ks i 0)) (stored_agrees S l m A (home l c) (get_or ks i 0) (λ j x. W j (of_listed i k x))))
        (every_alike _ _ refl λ s k. show_agrees S l m A (counts_of l) (home l c) s ((base_open l f).homes c hc) (λ j x. W j (of_shelves s k x))))
        ∙ ap₂ (λ (n : Counts) (d : ℕ). page_parts n m c ks d) counts same_home

  fits : list_fit l c ks ≡ list_fit m c ks
  unfolding list_fit
  fits =
      and_alike (base_agrees S l m A B) λ f.
      or_alike (ap (λ (n : Counts). leb n.crews c) counts) λ a.
      or_alike {a = not (is_list ks)} refl λ b.
      or_alike (ap (λ (n : Counts). not (all_below n.bearings ks)) counts) λ e.
      parts_agree f (leb-false _ _ a) (λ j x. H j (by_list f (leb-false _ _ a) (not-false _ b) (not-false _ e) x))

  number : list_number l c ks ≡ list_number m c ks
  unfolding list_number
  number =
      first_alike 1 _ _ (ap not fits) λ z.
      first_alike 5 _ _ (ap (λ (n : Counts). leb n.crews c) counts) λ a.
      first_alike 15 _ _ refl λ b.
      first_alike 4 _ _ (ap (λ (n : Counts). not (all_below n.bearings ks)) counts) λ e. refl

  module _ (t : ListDone l c ks) where
    base_l : base_fit l ≡ true
    base_l = list_based l c ks t.fits

    W : (j : ℕ) → ListWord (counts_of l) l c ks (home l c) j → S j
    W j x = H j (by_list base_l t.crew t.size t.bearings x)

    offers : (x : ℕ) → x < (counts_of l).depots → page_vector l c x ≡ get_or (gathered_from (counts_of l).depots (counts_of l).shelves (home l c) m (four_of (crew_vector m c))) x 0
    unfolding page_vector
    offers =
        gathered_agrees (counts_of l).depots (counts_of l).shelves (home l c) l m (four_of (crew_vector l c)) (four_of (crew_vector m c)) refl
        (λ s x k z. A.words (stable_at (home l c) s + x) (W _ (of_shelves s k (of_stable (omega arith, omega arith)))))
        (λ x k.
        let a = (base_open l base_l).within.depots in
        four_at (crew_vector l c) x (omega arith) ∙ same_crew base_l t.crew W x k ∙ sym (four_at (crew_vector m c) x (omega arith)))

    page_agrees : Agree S (page_book l c) (page_book m c)
    unfolding page_book page_vector settled_all
    page_agrees =
        subst₂
        (λ (n : Counts) (d : ℕ).
        Agree S (settled_all (counts_of l).depots (counts_of l).shelves (home l c) (page_vector l c) l)
        (settled_all n.depots n.shelves d (vector_in (gathered_from n.depots n.shelves d m (four_of (crew_vector m c)))) m))
        counts (same_home base_l t.crew W)
        (pages_agree S (counts_of l).depots (counts_of l).shelves (home l c) (page_vector l c) l (shelves_ready l c ks t)
        (shelves_hold l c ks t S (λ s j from k z f w. W j (of_shelves s k (of_arrival from z f w)))) _ m
        (λ s x k z. W _ (of_shelves s k (of_stable (omega arith, omega arith)))) (λ x z f. offers x z) A (counts_of l).shelves (le_refl _))

    tells : page_told l c ks ≡ page_told m c ks
    unfolding page_told
    tells =
        map_alike _ _ ks
        (λ i k. ap (told (counts_of l).depots) (part_agrees S _ _ 9 refl (λ j x. W j (of_listed i k x)) page_agrees))
        ∙ ap₂ (λ (n : Counts) (d : ℕ). map (λ k. told n.depots (stored (page_book m c) d k)) ks) counts (same_home base_l t.crew W)

    book : Agree (λ (j : ℕ). S j ⊎ Changed l (call (list c ks)) j) (list_book l c ks) (list_book m c ks)
    unfolding list_book
    book =
        agree_fewer S _ _ _ (λ j z. ⊎_elim (λ (y : S j). y) (λ (y : Changed l (call (list c ks)) j). W j (listed_named l c ks j (lists l c ks j y))) z)
        (subst₂
        (λ (n : Counts) (d : ℕ). Agree S (merged_all (counts_of l).depots c (home l c) ks (page_book l c)) (merged_all n.depots c d ks (page_book m c)))
        counts (same_home base_l t.crew W)
        (merged_all_agrees S (counts_of l).depots c (home l c) ks (page_book l c) (page_book m c) (base_open l base_l).within.depots
        (λ x z. W _ (of_reader (omega arith, omega arith))) (λ i k j x. W j (of_listed i k x)) page_agrees))

  pub list_alike : Alike S l m (call (list c ks))
  unfolding number_at done_answer changed_by
  list_alike =
      alike_by S l m (call (list c ks)) number (λ z. ap listed (tells (list_done l c ks z))) (λ z. book (list_done l c ks z)) A

module _ (l : List ℕ) (c : ℕ) (ks : List ℕ) where
  pub list_stays : (j : ℕ) → number_at l (call (list c ks)) ≡ 0 → (Changed l (call (list c ks)) j → ⊥) → get_or (changed_by l (call (list c ks))) j 0 ≡ get_or l j 0
  unfolding number_at changed_by list_book
  list_stays j z out =
      merged_all_stays (counts_of l).depots c (home l c) ks (page_book l c) j (λ i. out (listing (the_reader i)))
      ∙ page_stays l c ks (list_done l c ks z) j λ w. out (listing w)

  pub list_size : number_at l (call (list c ks)) ≡ 0 → length (changed_by l (call (list c ks))) ≡ length l
  unfolding number_at changed_by list_book page_book
  list_size z =
      length_merged_all (counts_of l).depots c (home l c) ks _
      ∙ length_page (counts_of l).depots (counts_of l).shelves (home l c) (page_vector l c) l (shelves_ready l c ks (list_done l c ks z))
