-- Vectors in range: against a table of ends, as a part of the book, and with no entry left out.
-- Assumes nothing.
use Prim.Native.Nat.{ℕ, ◌+◌, ◌-◌, ◌≤◌, ◌<◌}
use native.Mathlib.Nat.{lt_of_lt_of_le, lt_irrefl}
use mathlib.Core.Path.{◌≡◌, refl, ◌∙◌, ap, ap₂, subst}
use mathlib.Core.List.{List, [], ◌∷◌}
use lib.Dec.{eqb}
use lib.ListN.{get_or, take, drop}
use borrow.Author.Tests.{eqb-true, le-leb, leb-true}
use Rattle.loops.specs.Loops.{every}
use Rattle.order.specs.Vector.{Vec, vector_in, vector_at, covered}
use Rattle.loops.proofs.BoolLaws.{together}
use Rattle.loops.proofs.LoopLaws.{every_at, every_intro}
use Rattle.order.proofs.VectorLaws.{covered_at_law, covered_intro, covered_same}
use Rattle.book.specs.Words.{part}
use Rattle.book.proofs.WordsLaws.{part_at, part_lent}
use Rattle.book.specs.Layout.{end}
use Rattle.fit.specs.Fit.{in_range, others_in_range}

ends_at : (x : ℕ) → x < 4 → get_or (end ∷ end ∷ end ∷ end ∷ []) x 0 ≡ end
unfolding every
ends_at x h = eqb-true _ _ (every_at 4 (λ y. eqb (get_or (end ∷ end ∷ end ∷ end ∷ []) y 0) end) refl x h)

pub range_ends : (n d : ℕ) (v : Vec) → n ≤ 4 → covered n d v (vector_in (end ∷ end ∷ end ∷ end ∷ [])) ≡ others_in_range n d v
unfolding others_in_range
range_ends n d v h = covered_same n d v _ v _ (λ x l. refl) λ x l. ends_at x (lt_of_lt_of_le l h)

pub range_part : (n d : ℕ) (l : List ℕ) (a : ℕ) → n ≤ 4 → others_in_range n d (vector_in (part l a 4)) ≡ others_in_range n d (vector_at l a)
unfolding others_in_range
range_part n d l a h = covered_same n d _ _ _ _ (λ x k. part_at l a 4 x (lt_of_lt_of_le k h)) λ x k. refl

-- depot n is none of the n depots, so nothing is left out
pub range_all : (n : ℕ) (v : Vec) → others_in_range n n v ≡ in_range n v
unfolding others_in_range in_range
range_all n v =
    together _ _
    (λ p. every_intro n _ (λ x l. le-leb _ _ (covered_at_law n n v _ p x l (λ e. lt_irrefl n (subst (λ (y : ℕ). y < n) e l)))))
    (λ p. covered_intro n n v _ (λ x l other. leb-true _ _ (every_at n _ p x l)))

-- the part that is lent from a place on
pub range_lent : (n : ℕ) (l : List ℕ) {own d a at : ℕ} → n ≤ 4 → own ≡ d → at ≡ a → others_in_range n own (vector_in (take (at + 4 - at) (drop at l))) ≡ others_in_range n d (vector_at l a)
range_lent n l {own} {d} {a} {at} h o e =
    ap (λ (w : List ℕ). others_in_range n own (vector_in w)) (part_lent l at (at + 4) 4 refl)
    ∙ range_part n own l at h
    ∙ ap₂ (λ (x i : ℕ). others_in_range n x (vector_at l i)) o e
