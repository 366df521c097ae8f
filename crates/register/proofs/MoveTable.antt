-- A move's table, row by row; what a move that is done has passed; and a move to the present home, which changes no word.
-- Assumes nothing.
use Prim.Native.Nat.{ℕ, ◌≤◌, ◌<◌}
use native.Mathlib.Omega.{arith}
use native.Mathlib.Nat.{lt_of_lt_of_le}
use mathlib.Core.Path.{◌≡◌, ◌∙◌, ap}
use mathlib.Core.List.{List, [], ◌∷◌}
use mathlib.Core.Bool.{true, false, not, ◌||◌}
use lib.Dec.{leb, eqb}
use lib.Seq.{set-get_or}
use borrow.Author.Tests.{le-leb, lt-leb, leb-false, not-false}
use Rattle.order.specs.Vector.{Vec, vector_in, covered}
use Rattle.loops.proofs.BoolLaws.{not_failed, and_next, and_stop, or_next, or_stop}
use Rattle.order.proofs.VectorLaws.{covered_same}
use Rattle.book.specs.Layout.{counts_of, home}
use Rattle.named.specs.Named.{base_fit, move_parts, move_fit}
use Rattle.named.proofs.NamedLaws.{move_named}
use Rattle.links.specs.Send.{four_of}
use Rattle.paper.specs.Calls.{first}
use Rattle.register.specs.Table.{arrived, move_number}
use Rattle.register.specs.Calls.{move_book}
use Rattle.register.proofs.TableLaws.{first_stop, first_next, first_none}
use Rattle.register.proofs.HomeLaws.{four_at}
use Rattle.register.proofs.Numbers.{first_passed}

module _ (l : List ℕ) (c d : ℕ) where
  pub move_base : base_fit l ≡ false → move_number l c d ≡ 1
  unfolding move_number move_fit
  move_base f = first_stop _ _ _ (not_failed (and_stop _ f))

  -- a number out of range names no part
  pub move_crew : base_fit l ≡ true → (counts_of l).crews ≤ c → move_number l c d ≡ 5
  unfolding move_number move_fit
  move_crew f h = first_next _ _ _ (ap not (and_next _ f ∙ or_stop _ (le-leb _ _ h))) ∙ first_stop _ _ _ (le-leb _ _ h)

  pub move_depot : base_fit l ≡ true → c < (counts_of l).crews → (counts_of l).depots ≤ d → move_number l c d ≡ 2
  unfolding move_number move_fit
  move_depot f a h =
      first_next _ _ _ (ap not (and_next _ f ∙ or_next _ (lt-leb _ _ a) ∙ or_stop _ (le-leb _ _ h))) ∙ first_next _ _ _ (lt-leb _ _ a) ∙ first_stop _ _ _ (le-leb _ _ h)

  module _ (f : base_fit l ≡ true) (hc : c < (counts_of l).crews) (hd : d < (counts_of l).depots) where
    pub move_book_law : move_parts (counts_of l) l c d ≡ false → move_number l c d ≡ 1
    unfolding move_number
    move_book_law h = first_stop _ _ _ (not_failed (move_named l c d f hc hd ∙ h))

    module _ (h : move_parts (counts_of l) l c d ≡ true) where
      past : move_number l c d ≡ first ((not (eqb d (home l c) || arrived l c d), 12) ∷ [])
      unfolding move_number
      past = first_next _ _ _ (ap not (move_named l c d f hc hd ∙ h)) ∙ first_next _ _ _ (lt-leb _ _ hc) ∙ first_next _ _ _ (lt-leb _ _ hd)

      pub move_not_here : eqb d (home l c) || arrived l c d ≡ false → move_number l c d ≡ 12
      move_not_here t = past ∙ first_stop _ _ _ (not_failed t)

      pub move_good : eqb d (home l c) || arrived l c d ≡ true → move_number l c d ≡ 0
      move_good t = past ∙ first_next _ _ _ (ap not t) ∙ first_none

-- what a move that is done has passed
pub record MoveDone (l : List ℕ) (c d : ℕ) : Type 0 where
  pub fits : move_fit l c d ≡ true
  pub crew : c < (counts_of l).crews
  pub depot : d < (counts_of l).depots
  pub here : eqb d (home l c) || arrived l c d ≡ true

pub move_done : (l : List ℕ) (c d : ℕ) → move_number l c d ≡ 0 → MoveDone l c d
unfolding move_number
move_done l c d h =
    let a = first_passed (not (move_fit l c d)) 1 _ (omega arith) h in
    let b = first_passed (leb (counts_of l).crews c) 5 _ (omega arith) a.1 in
    let e = first_passed (leb (counts_of l).depots d) 2 _ (omega arith) b.1 in
    let f = first_passed (not (eqb d (home l c) || arrived l c d)) 12 _ (omega arith) e.1 in
    record { fits = not-false _ a.0; crew = leb-false _ _ b.0; depot = leb-false _ _ e.0; here = not-false _ f.0 }

-- a move to the present home changes no word
pub move_stays : (l : List ℕ) (c : ℕ) → move_book l c (home l c) ≡ l
unfolding move_book
move_stays l c = set-get_or l _ 0

-- two vectors copied out, compared in the entries that count
pub covered_four : (n d : ℕ) (u v : Vec) {x y : List ℕ} → n ≤ 4 → x ≡ four_of u → y ≡ four_of v → covered n d (vector_in x) (vector_in y) ≡ covered n d u v
covered_four n d u v {x} {y} h p q = covered_same n d _ _ _ _ (λ i k. at u p i k) (λ i k. at v q i k)
  where
    at : (w : Vec) {z : List ℕ} → z ≡ four_of w → (i : ℕ) → i < n → vector_in z i ≡ w i
    at w e i k = ap (λ (m : List ℕ). vector_in m i) e ∙ four_at w i (lt_of_lt_of_le k h)
