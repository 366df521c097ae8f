-- What the laws of the order decide by themselves, as a test that computes: it agrees with the sealed order everywhere, and asks it only where
-- neither of two written versions is entry by entry above the other.
-- Assumes nothing.
use Prim.Native.Nat.{ℕ}
use mathlib.Core.Path.{◌≡◌, refl, sym, subst, ◌∙◌}
use mathlib.Core.Logic.{⊎_elim}
use mathlib.Core.Bool.{Bool, true, false, not, ◌&&◌}
use lib.Dec.{eqb, leb}
use borrow.Author.Tests.{eqb-true, leb-true, leb-false}
use Rattle.loops.specs.Loops.{every, pick}
use Rattle.order.specs.Vector.{zeros, agree}
use Rattle.order.specs.Order.{Rank, above}
use Rattle.loops.proofs.BoolLaws.{decided, both_ways, failed, and_left, and_right, not_passed, pick_true, pick_false}
use Rattle.loops.proofs.LoopLaws.{every_at, every_fails}
use Rattle.order.proofs.VectorLaws.{agree_at}
use Rattle.order.proofs.OrderLaws.{above_irrefl, above_trans, above_unwritten, above_written, above_entrywise, above_cong}

-- of n entries, each of a is at least that of b, and not the other way round
unfoldable pub dominates : ℕ → Rank → Rank → Bool
dominates n a b = every n (λ x. leb (b.vector x) (a.vector x)) && not (every n (λ x. leb (a.vector x) (b.vector x)))

dominates_above : (n : ℕ) (a b : Rank) → dominates n a b ≡ true → above n a b ≡ true
unfolding dominates
dominates_above n a b t =
    let all = and_left (every n (λ x. leb (b.vector x) (a.vector x))) (not (every n (λ x. leb (a.vector x) (b.vector x)))) t in
    let some = every_fails n (λ x. leb (a.vector x) (b.vector x)) (not_passed
    (and_right (every n (λ x. leb (b.vector x) (a.vector x))) (not (every n (λ x. leb (a.vector x) (b.vector x)))) t)) in
    above_entrywise n a b (λ x hx. leb-true _ _ (every_at n (λ x. leb (b.vector x) (a.vector x)) all x hx)) some.0 some.1 (leb-false _ _ some.2)

unfoldable pub lawful : ℕ → Rank → Rank → Bool
lawful n a b = pick (zeros n b.vector) (not (zeros n a.vector)) (pick (dominates n a b) true (above n a b))

unwritten_below : (n : ℕ) (a b : Rank) → zeros n b.vector ≡ true → (t : Bool) → zeros n a.vector ≡ t → above n a b ≡ not t
unwritten_below n a b e true t = above_unwritten n a b t
unwritten_below n a b e false t = above_written n a b t e

pub lawful_agrees : (n : ℕ) (a b : Rank) → above n a b ≡ lawful n a b
unfolding lawful
lawful_agrees n a b = ⊎_elim
    (λ (e : zeros n b.vector ≡ true). unwritten_below n a b e (zeros n a.vector) refl ∙ sym (pick_true _ _ e))
    (λ (e : zeros n b.vector ≡ false). ⊎_elim
    (λ (t : dominates n a b ≡ true). dominates_above n a b t ∙ sym (pick_false _ _ e ∙ pick_true _ _ t))
    (λ (t : dominates n a b ≡ false). sym (pick_false _ _ e ∙ pick_false _ _ t))
    (decided (dominates n a b)))
    (decided (zeros n b.vector))

-- the rank a is p in its n entries and its origin
unfoldable pub like : ℕ → Rank → Rank → Bool
like n a p = agree n a.vector p.vector && eqb a.origin p.origin

like_both : (n : ℕ) (a b p q : Rank) → like n a p ≡ true → like n b q ≡ true → above n a b ≡ above n p q
unfolding like
like_both n a b p q s t = above_cong n a b p q
    (agree_at n _ _ (and_left (agree n a.vector p.vector) (eqb a.origin p.origin) s)) (eqb-true _ _ (and_right (agree n a.vector p.vector) (eqb a.origin p.origin) s))
    (agree_at n _ _ (and_left (agree n b.vector q.vector) (eqb b.origin q.origin) t)) (eqb-true _ _ (and_right (agree n b.vector q.vector) (eqb b.origin q.origin) t))

-- where besides p is known to be above q, with m depots
unfoldable pub knowing : ℕ → Rank → Rank → ℕ → Rank → Rank → Bool
knowing m p q n a b = pick (eqb n m && (like n a p && like n b q)) true (pick (eqb n m && (like n a q && like n b p)) false (lawful n a b))

pub knowing_agrees : (m : ℕ) (p q : Rank) → above m p q ≡ true → (n : ℕ) (a b : Rank) → above n a b ≡ knowing m p q n a b
unfolding knowing
knowing_agrees m p q known n a b = ⊎_elim
    (λ (s : eqb n m && (like n a p && like n b q) ≡ true). alike a b p q s ∙ known ∙ sym (pick_true _ _ s))
    (λ (s : eqb n m && (like n a p && like n b q) ≡ false). ⊎_elim
    (λ (t : eqb n m && (like n a q && like n b p) ≡ true). alike a b q p t ∙ below ∙ sym (pick_false _ _ s ∙ pick_true _ _ t))
    (λ (t : eqb n m && (like n a q && like n b p) ≡ false). lawful_agrees n a b ∙ sym (pick_false _ _ s ∙ pick_false _ _ t))
    (decided (eqb n m && (like n a q && like n b p))))
    (decided (eqb n m && (like n a p && like n b q)))
  where
    below : above m q p ≡ false
    below = failed _ (λ t. both_ways (above_trans m p q p known t) (above_irrefl m p))

    alike : (a b p q : Rank) → eqb n m && (like n a p && like n b q) ≡ true → above n a b ≡ above m p q
    alike a b p q s =
        let rest = and_right (eqb n m) (like n a p && like n b q) s in
        like_both n a b p q (and_left (like n a p) (like n b q) rest) (and_right (like n a p) (like n b q) rest)
        ∙ subst (λ k. above n p q ≡ above k p q) (eqb-true n m (and_left (eqb n m) (like n a p && like n b q) s)) refl
