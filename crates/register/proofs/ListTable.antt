-- A list's table, row by row, and what a list that is done has passed.
-- Assumes nothing.
use Prim.Native.Nat.{ℕ, ◌≤◌, ◌<◌}
use native.Mathlib.Omega.{arith}
use mathlib.Core.Path.{◌≡◌, ◌∙◌, ap}
use mathlib.Core.List.{List}
use mathlib.Core.Bool.{true, false, not}
use lib.Dec.{leb}
use lib.ListN.{length}
use borrow.Author.Tests.{le-leb, lt-leb, leb-false, leb-true, not-false}
use Rattle.loops.proofs.BoolLaws.{not_failed, and_left, and_right, and_next, and_stop, or_next, or_stop}
use Rattle.book.specs.Layout.{counts_of}
use Rattle.named.specs.Named.{base_fit, is_list, all_below, list_parts, list_fit}
use Rattle.named.proofs.NamedLaws.{list_named}
use Rattle.register.specs.Table.{list_number}
use Rattle.register.proofs.TableLaws.{first_stop, first_next, first_none}
use Rattle.register.proofs.Numbers.{first_passed}

module _ (l : List ℕ) (c : ℕ) (ks : List ℕ) where
  pub list_base : base_fit l ≡ false → list_number l c ks ≡ 1
  unfolding list_number list_fit
  list_base f = first_stop _ _ _ (not_failed (and_stop _ f))

  module _ (f : base_fit l ≡ true) where
    -- a number out of range names no part
    pub list_crew : (counts_of l).crews ≤ c → list_number l c ks ≡ 5
    unfolding list_number list_fit
    list_crew h = first_next _ _ _ (ap not (and_next _ f ∙ or_stop _ (le-leb _ _ h))) ∙ first_stop _ _ _ (le-leb _ _ h)

    module _ (hc : c < (counts_of l).crews) where
      pub list_size : is_list ks ≡ false → list_number l c ks ≡ 15
      unfolding list_number list_fit
      list_size h =
          first_next _ _ _ (ap not (and_next _ f ∙ or_next _ (lt-leb _ _ hc) ∙ or_stop _ (not_failed h)))
          ∙ first_next _ _ _ (lt-leb _ _ hc)
          ∙ first_stop _ _ _ (not_failed h)

      module _ (hl : is_list ks ≡ true) where
        pub list_key : all_below (counts_of l).bearings ks ≡ false → list_number l c ks ≡ 4
        unfolding list_number list_fit
        list_key h =
            first_next _ _ _ (ap not (and_next _ f ∙ or_next _ (lt-leb _ _ hc) ∙ or_next _ (ap not hl) ∙ or_stop _ (not_failed h)))
            ∙ first_next _ _ _ (lt-leb _ _ hc)
            ∙ first_next _ _ _ (ap not hl)
            ∙ first_stop _ _ _ (not_failed h)

        module _ (hk : all_below (counts_of l).bearings ks ≡ true) where
          pub list_book_law : list_parts (counts_of l) l c ks ≡ false → list_number l c ks ≡ 1
          unfolding list_number
          list_book_law h = first_stop _ _ _ (not_failed (list_named l c ks f hc hl hk ∙ h))

          pub list_good : list_parts (counts_of l) l c ks ≡ true → list_number l c ks ≡ 0
          unfolding list_number
          list_good h =
              first_next _ _ _ (ap not (list_named l c ks f hc hl hk ∙ h))
              ∙ first_next _ _ _ (lt-leb _ _ hc)
              ∙ first_next _ _ _ (ap not hl)
              ∙ first_next _ _ _ (ap not hk)
              ∙ first_none

-- what a list that is done has passed
pub record ListDone (l : List ℕ) (c : ℕ) (ks : List ℕ) : Type 0 where
  pub fits : list_fit l c ks ≡ true
  pub crew : c < (counts_of l).crews
  pub size : is_list ks ≡ true
  pub bearings : all_below (counts_of l).bearings ks ≡ true

pub list_done : (l : List ℕ) (c : ℕ) (ks : List ℕ) → list_number l c ks ≡ 0 → ListDone l c ks
unfolding list_number
list_done l c ks h =
    let a = first_passed (not (list_fit l c ks)) 1 _ (omega arith) h in
    let b = first_passed (leb (counts_of l).crews c) 5 _ (omega arith) a.1 in
    let e = first_passed (not (is_list ks)) 15 _ (omega arith) b.1 in
    let g = first_passed (not (all_below (counts_of l).bearings ks)) 4 _ (omega arith) e.1 in
    record { fits = not-false _ a.0; crew = leb-false _ _ b.0; size = not-false _ e.0; bearings = not-false _ g.0 }

-- one to eight
pub list_size_in : (ks : List ℕ) → is_list ks ≡ true → (1 ≤ length ks) × (length ks ≤ 8)
unfolding is_list
list_size_in ks h = (leb-true _ _ (and_left (leb 1 (length ks)) _ h), leb-true _ _ (and_right (leb 1 (length ks)) _ h))
