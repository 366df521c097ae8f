-- A read is local.
-- Assumes nothing.
use Prim.Native.Nat.{ℕ}
use native.Mathlib.Omega.{arith}
use mathlib.Core.Path.{◌≡◌, refl, sym, ◌∙◌, ap, ap₂, subst}
use mathlib.Core.Logic.{◌⊎◌, ⊎_elim}
use mathlib.Core.List.{List}
use mathlib.Core.Bool.{true, not}
use lib.Dec.{leb}
use lib.ListN.{length, get_or}
use borrow.Author.Tests.{leb-false}
use Rattle.order.specs.Vector.{merged_at}
use Rattle.order.specs.Record.{vector_of}
use Rattle.order.proofs.VectorLaws.{length_merged, merged_other}
use Rattle.book.specs.declared.parts.Counts.{Counts}
use Rattle.book.specs.Layout.{crew_at, counts_of, home, crew_vector}
use Rattle.named.specs.Named.{show_fit, read_fit}
use Rattle.named.proofs.NamedLaws.{read_based, read_named}
use Rattle.shelf.proofs.FrameLaws.{off_sides}
use Rattle.shelf.proofs.ShowFrame.{length_settled}
use Rattle.paper.specs.Calls.{read}
use Rattle.paper.specs.Calls.{Answer}
use Rattle.register.specs.Answers.{told}
use Rattle.register.specs.Table.{shelf_of, read_number}
use Rattle.register.specs.Calls.{settled_home, read_record, read_book}
use Rattle.register.proofs.Numbers.{ReadDone, read_done}
use Rattle.upkeep.specs.Requests.{call, number_at, done_answer, changed_by}
use Rattle.upkeep.specs.Local.{Agree, BaseWord, of_crew, of_home, ReadWord, Named, based, by_read}
use Rattle.upkeep.specs.Local.{FoundWord, the_crew, the_home, Changed, reading, Alike}
use Rattle.upkeep.proofs.LocalBasics.{or_alike, and_alike, first_alike, agree_fewer}
use Rattle.upkeep.proofs.LocalParts.{counts_agree, base_agrees}
use Rattle.upkeep.proofs.LocalMoves.{merged_agrees}
use Rattle.upkeep.proofs.LocalShow.{settled_named}
use Rattle.upkeep.proofs.LocalHome.{read_shows, read_parts_agree, settled_home_agrees, read_record_agrees, settled_home_stays}
use Rattle.upkeep.proofs.LocalAlike.{alike_by}

-- what a read writes is named
found_named : (l : List ℕ) (c k j : ℕ) → FoundWord (counts_of l) l c (home l c) (shelf_of l k) j → ReadWord (counts_of l) l c k j
found_named l c k j (the_crew i) = of_crew i
found_named l c k j (the_home w) = of_home (settled_named (counts_of l) l (home l c) (shelf_of l k) j w)

reads : (l : List ℕ) (c k j : ℕ) → Changed l (call (read c k)) j → FoundWord (counts_of l) l c (home l c) (shelf_of l k) j
reads l c k j (reading w) = w

done_shows : (l : List ℕ) (c k : ℕ) → ReadDone l c k → show_fit (counts_of l) l (home l c) (shelf_of l k) ≡ true
done_shows l c k t = read_shows l c k (sym (read_named l c k (read_based l c k t.fits) t.crew t.bearing) ∙ t.fits)

module _ (S : ℕ → Type 0) (l m : List ℕ) (c k : ℕ) (H : (j : ℕ) → Named l (call (read c k)) j → S j) (A : Agree S l m) where
  B : (j : ℕ) → BaseWord l j → S j
  B j x = H j (based x)

  counts : counts_of l ≡ counts_of m
  counts = counts_agree S l m A B

  fits : read_fit l c k ≡ read_fit m c k
  unfolding read_fit
  fits =
      and_alike (base_agrees S l m A B) λ f.
      or_alike (ap (λ (n : Counts). leb n.crews c) counts) λ a.
      or_alike (ap (λ (n : Counts). leb n.bearings k) counts) λ b.
      read_parts_agree l c k f (leb-false _ _ a) S m A B (λ j x. H j (by_read f (leb-false _ _ a) (leb-false _ _ b) x))

  number : read_number l c k ≡ read_number m c k
  unfolding read_number
  number =
      first_alike 1 _ _ (ap not fits) λ z.
      first_alike 5 _ _ (ap (λ (n : Counts). leb n.crews c) counts) λ a.
      first_alike 4 _ _ (ap (λ (n : Counts). leb n.bearings k) counts) λ b. refl

  module _ (t : ReadDone l c k) where
    W : (j : ℕ) → ReadWord (counts_of l) l c k j → S j
    W j x = H j (by_read (read_based l c k t.fits) t.crew t.bearing x)

    found : read_record l c k ≡ read_record m c k
    found = read_record_agrees l c k (read_based l c k t.fits) t.crew S m A B W (done_shows l c k t)

    book : Agree (λ (j : ℕ). S j ⊎ Changed l (call (read c k)) j) (read_book l c k) (read_book m c k)
    unfolding read_book
    book =
        agree_fewer S _ _ _ (λ j z. ⊎_elim (λ (y : S j). y) (λ (y : Changed l (call (read c k)) j). W j (found_named l c k j (reads l c k j y))) z)
        (subst
        (λ (n : Counts).
        Agree S (merged_at (counts_of l).depots (counts_of l).depots (vector_of (read_record l c k)) (crew_at c) (settled_home l c k))
        (merged_at n.depots n.depots (vector_of (read_record m c k)) (crew_at c) (settled_home m c k)))
        counts
        (merged_agrees S (counts_of l).depots (counts_of l).depots (crew_at c) _ _ (settled_home l c k) (settled_home m c k)
        (λ x z g. W _ (of_crew (omega arith, omega arith))) (λ x z g. ap (λ (r : List ℕ). vector_of r x) found)
        (settled_home_agrees l c k (read_based l c k t.fits) t.crew S m A B W (done_shows l c k t))))

  pub read_alike : Alike S l m (call (read c k))
  unfolding number_at done_answer changed_by
  read_alike =
      alike_by S l m (call (read c k)) number
      (λ z. ap₂ (λ (n : Counts) (r : List ℕ). Answer.reads (told n.depots r)) counts (found (read_done l c k z)))
      (λ z. book (read_done l c k z)) A

module _ (l : List ℕ) (c k : ℕ) where
  pub read_stays : (j : ℕ) → number_at l (call (read c k)) ≡ 0 → (Changed l (call (read c k)) j → ⊥) → get_or (changed_by l (call (read c k))) j 0 ≡ get_or l j 0
  unfolding number_at changed_by read_book
  read_stays j z out =
      let t = read_done l c k z in
      merged_other (counts_of l).depots (counts_of l).depots _ (crew_at c) (settled_home l c k) j
      (off_sides (crew_at c) (counts_of l).depots j (λ a b. out (reading (the_crew (a, b)))))
      ∙ settled_home_stays l c k (read_based l c k t.fits) t.crew (done_shows l c k t) j λ w. out (reading (the_home w))

  pub read_size : length (changed_by l (call (read c k))) ≡ length l
  unfolding changed_by read_book settled_home
  read_size = length_merged (counts_of l).depots _ _ _ (settled_home l c k) ∙ length_settled (counts_of l).depots (home l c) (shelf_of l k) (crew_vector l c) l
