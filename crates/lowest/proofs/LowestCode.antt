-- The lowest stamp seen, turn by turn, and what is told of it for each depot.
-- Assumes nothing.
use Prim.Native.Nat.{ℕ, ◌+◌, ◌≤◌, ◌<◌, min}
use mathlib.Core.Path.{◌≡◌, sym, ◌∙◌, ap}
use mathlib.Core.List.{List, [], ◌∷◌}
use mathlib.Core.Bool.{Bool, not, ◌&&◌, and-false}
use lib.Dec.{eqb, ltb}
use borrow.Author.Tests.{eq-eqb, ne_eqb, lt-ltb, le-ltb}
use lib.ListN.{get_or}
use Rattle.loops.specs.Loops.{pick}
use Rattle.order.specs.Vector.{Vec}
use Rattle.loops.proofs.BoolLaws.{pick_true, pick_false, and_intro, and_stop}
use Rattle.loops.proofs.LoopLaws.{times_none, times_more, times_done}
use Rattle.book.specs.Layout.{end, seen_at}
use Rattle.links.specs.Send.{lowest, lowest_seen, four_of}

pub lowest_none : (d x : ℕ) (l : List ℕ) → end ≡ lowest 0 d x l
unfolding lowest
lowest_none d x l = times_none _ _

-- one more shelf: the minimum with what it has seen from depot x, read where that stands
pub lowest_more :
    (s d x : ℕ) (l : List ℕ) {m r at i place : ℕ} → m ≡ lowest s d x l → r ≡ min m (get_or l place 0) → place ≡ at + x → at ≡ seen_at d i → i ≡ s → r ≡ lowest (s + 1) d x l
unfolding lowest
lowest_more s d x l {m} p q o a i =
    times_more s _ _ p (q ∙ ap (λ (y : ℕ). min m (get_or l y 0)) (o ∙ ap (λ (y : ℕ). y + x) (a ∙ ap (seen_at d) i)))

-- after the last shelf, what is told of depot x
pub lowest_told :
    (n d x : ℕ) (l : List ℕ) {s p m r : ℕ} → s ≤ p → p ≤ s → m ≡ lowest s d x l → r ≡ pick (ltb x n && not (eqb x d)) m 0 → r ≡ lowest_seen n p d l x
unfolding lowest lowest_seen
lowest_told n d x l h k e q = q ∙ ap (λ (y : ℕ). pick (ltb x n && not (eqb x d)) y 0) (times_done _ _ h k e)

pub told_past : (n d x m : ℕ) → n ≤ x → 0 ≡ pick (ltb x n && not (eqb x d)) m 0
told_past n d x m h = sym (pick_false _ _ (and_stop _ (le-ltb x n h)))

pub told_own : (n d x m : ℕ) → x ≡ d → 0 ≡ pick (ltb x n && not (eqb x d)) m 0
told_own n d x m e = sym (pick_false _ _ (ap (λ (b : Bool). ltb x n && not b) (eq-eqb x d e) ∙ and-false (ltb x n)))

pub told_other : (n d x m : ℕ) → x < n → (x ≡ d → ⊥) → m ≡ pick (ltb x n && not (eqb x d)) m 0
told_other n d x m h e = sym (pick_true _ _ (and_intro (lt-ltb x n h) (ap not (ne_eqb x d e))))

pub four_same : (v : Vec) {a b e f : ℕ} → a ≡ v 0 → b ≡ v 1 → e ≡ v 2 → f ≡ v 3 → a ∷ b ∷ e ∷ f ∷ [] ≡ four_of v
four_same v p q r o = λ z. p z ∷ q z ∷ r z ∷ o z ∷ []
