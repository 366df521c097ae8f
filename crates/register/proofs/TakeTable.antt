-- The rows of a take's table.
-- Assumes nothing.
use Prim.Native.Nat.{ℕ, ◌≤◌, ◌<◌}
use native.Mathlib.Omega.{arith}
use mathlib.Core.Path.{◌≡◌, ◌∙◌, ap}
use mathlib.Core.List.{List}
use mathlib.Core.Bool.{true, false, not, ◌||◌}
use lib.Dec.{leb}
use borrow.Author.Tests.{le-leb, lt-leb, leb-false, not-false}
use Rattle.loops.proofs.BoolLaws.{not_failed, or_left, or_right, or_next}
use Rattle.book.specs.Layout.{counts_of}
use Rattle.named.specs.Named.{base_fit}
use Rattle.register.specs.Checks.{link_number}
use Rattle.register.proofs.TableLaws.{first_stop, first_next, first_none}
use Rattle.register.proofs.Numbers.{first_passed, or_none}

module _ (l : List ℕ) (d s from : ℕ) where
  pub link_book : base_fit l ≡ false → link_number l d s from ≡ 1
  unfolding link_number
  link_book f = first_stop _ _ _ (not_failed f)

  pub link_depot : base_fit l ≡ true → (counts_of l).depots ≤ d → link_number l d s from ≡ 2
  unfolding link_number
  link_depot f h = first_next _ _ _ (ap not f) ∙ first_stop _ _ _ (or_left (leb (counts_of l).depots d) _ (le-leb _ _ h))

  pub link_from : base_fit l ≡ true → (counts_of l).depots ≤ from → link_number l d s from ≡ 2
  unfolding link_number
  link_from f h = first_next _ _ _ (ap not f) ∙ first_stop _ _ _ (or_right (leb (counts_of l).depots d) _ (le-leb _ _ h))

  both : d < (counts_of l).depots → from < (counts_of l).depots → leb (counts_of l).depots d || leb (counts_of l).depots from ≡ false
  both h k = or_next _ (lt-leb _ _ h) ∙ lt-leb _ _ k

  pub link_shelf : base_fit l ≡ true → d < (counts_of l).depots → from < (counts_of l).depots → (counts_of l).shelves ≤ s → link_number l d s from ≡ 3
  unfolding link_number
  link_shelf f h k j = first_next _ _ _ (ap not f) ∙ first_next _ _ _ (both h k) ∙ first_stop _ _ _ (le-leb _ _ j)

  pub link_good : base_fit l ≡ true → d < (counts_of l).depots → from < (counts_of l).depots → s < (counts_of l).shelves → link_number l d s from ≡ 0
  unfolding link_number
  link_good f h k j = first_next _ _ _ (ap not f) ∙ first_next _ _ _ (both h k) ∙ first_next _ _ _ (lt-leb _ _ j) ∙ first_none

  pub link_open : link_number l d s from ≡ 0 → (base_fit l ≡ true) × (d < (counts_of l).depots) × (from < (counts_of l).depots) × (s < (counts_of l).shelves)
  unfolding link_number
  link_open h =
      let a = first_passed (not (base_fit l)) 1 _ (omega arith) h in
      let b = first_passed (leb (counts_of l).depots d || leb (counts_of l).depots from) 2 _ (omega arith) a.1 in
      let c = first_passed (leb (counts_of l).shelves s) 3 _ (omega arith) b.1 in
      let e = or_none (leb (counts_of l).depots d) _ b.0 in
      (not-false _ a.0, leb-false _ _ e.0, leb-false _ _ e.1, leb-false _ _ c.0)
