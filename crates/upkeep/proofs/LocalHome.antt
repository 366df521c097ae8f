-- A crew's home shelf, raised with the crew's vector and shown, is local; and so is the version found there. A read and a write begin with it.
-- Assumes nothing.
use Prim.Native.Nat.{ℕ, ◌%◌, ◌<◌}
use mathlib.Core.Path.{◌≡◌, ◌∙◌, ap, subst₂}
use mathlib.Core.List.{List}
use mathlib.Core.Bool.{true}
use lib.ListN.{get_or}
use Rattle.loops.proofs.BoolLaws.{and_right}
use Rattle.book.specs.declared.parts.Counts.{Counts}
use Rattle.book.specs.Layout.{crew_at, stored_at, counts_of, home, crew_vector}
use Rattle.fit.specs.Fit.{crew_fit, stored_fit}
use Rattle.named.specs.Named.{base_fit, show_fit, home_parts, read_parts}
use Rattle.named.proofs.NamedLaws.{base_open}
use Rattle.shelf.specs.Show.{settled}
use Rattle.register.specs.Table.{shelf_of}
use Rattle.register.specs.Calls.{settled_home, read_record}
use Rattle.register.proofs.FitReady.{shelf_in}
use Rattle.upkeep.specs.Local.{Agree, BaseWord, of_crew, of_stored, of_home, ReadWord, SettledWord}
use Rattle.upkeep.proofs.LocalBasics.{part_agrees}
use Rattle.upkeep.proofs.LocalParts.{base_counted, counts_agree, home_agrees, entry_agrees, home_parts_agree}
use Rattle.upkeep.proofs.LocalShow.{settle_agrees, settle_stays}

-- the parts that a read names hold those that raise and show touches
pub read_shows : (l : List ℕ) (c k : ℕ) → read_parts (counts_of l) l c k ≡ true → show_fit (counts_of l) l (home l c) (shelf_of l k) ≡ true
unfolding read_parts home_parts
read_shows l c k h = and_right (stored_fit (counts_of l) l (home l c) k) _ (and_right (crew_fit (counts_of l) l c) _ h)

module _ (l : List ℕ) (c k : ℕ) (f : base_fit l ≡ true) (hc : c < (counts_of l).crews) where
  homed : home l c < (counts_of l).depots
  homed = (base_open l f).homes c hc

  module _
      (S : ℕ → Type 0) (m : List ℕ) (A : Agree S l m) (B : (j : ℕ) → BaseWord l j → S j) (W : (j : ℕ) → ReadWord (counts_of l) l c k j → S j) where
    counts : counts_of l ≡ counts_of m
    counts = counts_agree S l m A B

    pub same_home : home l c ≡ home m c
    same_home = home_agrees S l m A B (base_counted l f) c hc

    pub same_crew : (x : ℕ) → x < (counts_of l).depots → crew_vector l c x ≡ crew_vector m c x
    same_crew = entry_agrees S l m A (counts_of l).depots (crew_at c) (λ j i. W j (of_crew i))

    pub read_parts_agree : read_parts (counts_of l) l c k ≡ read_parts (counts_of m) m c k
    unfolding read_parts
    read_parts_agree =
        home_parts_agree S l m A (counts_of l) c k (home l c) (shelf_of l k) homed W
        ∙ ap (λ (e : ℕ). home_parts (counts_of l) m c k e (shelf_of l k)) same_home
        ∙ ap (λ (n : Counts). home_parts n m c k (home m c) (k % n.shelves)) counts

    module _ (h : show_fit (counts_of l) l (home l c) (shelf_of l k) ≡ true) where
      pub settled_home_agrees : Agree S (settled_home l c k) (settled_home m c k)
      unfolding settled_home
      settled_home_agrees =
          subst₂
          (λ (n : Counts) (e : ℕ).
          Agree S (settled (counts_of l).depots (home l c) (shelf_of l k) (crew_vector l c) l) (settled n.depots e (k % n.shelves) (crew_vector m c) m))
          counts same_home
          (settle_agrees (counts_of l) l (base_open l f).within (home l c) (shelf_of l k) homed (shelf_in (counts_of l) (base_open l f).within k) h
          (crew_vector l c) S m (crew_vector m c) (λ j x. W j (of_home x)) (λ x z g. same_crew x z) A)

      pub read_record_agrees : read_record l c k ≡ read_record m c k
      unfolding read_record
      read_record_agrees = part_agrees S _ _ 9 (ap (λ (e : ℕ). stored_at e k) same_home) (λ j x. W j (of_stored x)) settled_home_agrees

  pub settled_home_stays :
      show_fit (counts_of l) l (home l c) (shelf_of l k) ≡ true → (j : ℕ) → (SettledWord (counts_of l) l (home l c) (shelf_of l k) j → ⊥) →
      get_or (settled_home l c k) j 0 ≡ get_or l j 0
  unfolding settled_home
  settled_home_stays h j out =
      settle_stays (counts_of l) l (base_open l f).within (home l c) (shelf_of l k) homed (shelf_in (counts_of l) (base_open l f).within k) h
      (crew_vector l c) j out
