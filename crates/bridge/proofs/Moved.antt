-- A book in which only the words of one shelf have moved is the state with that shelf put; and a link put on a shelf.
-- Assumes nothing.
use Prim.Native.Nat.{ℕ, ◌<◌}
use native.Mathlib.Nat.{le_trans}
use native.Mathlib.Omega.{arith}
use mathlib.Core.Path.{◌≡◌, sym, ◌∙◌, fun_ext, subst}
use mathlib.Core.Logic.{⊎_elim}
use mathlib.Core.Bool.{true, false}
use mathlib.Core.List.{List, []}
use lib.Dec.{eqb}
use lib.ListN.{length, get_or}
use borrow.Author.Tests.{eqb-true, eqb-false}
use Rattle.loops.specs.Loops.{pick}
use Rattle.loops.proofs.BoolLaws.{decided, pick_true, pick_false, eq_or_ne}
use Rattle.book.specs.Layout.{clock_at, stable_at, seen_at, link_of, held_at, slot_at, stored_at, taken}
use Rattle.shelf.proofs.FrameLaws.{Off}
use Rattle.model.specs.Parts.{Counts, Write, Message, Shelf, put, set_shelf, other}
use Rattle.model.proofs.Places.{Other, other_true, other_intro}
use Rattle.bridge.specs.View.{taken_on, untaken_on, store_at, shelf_at, view_by}
use Rattle.bridge.proofs.Basics.{pick_then}
use Rattle.bridge.proofs.Sound.{Sound}
use Rattle.bridge.proofs.Kept.{LinkKept, taken_on_kept, untaken_on_kept, store_kept, shelf_kept, view_shelf}

-- the word j is none of those of shelf s of depot d, nor of what depot d stores
pub record OffShelf (d s j : ℕ) : Type 0 where
  pub clock : j ≡ clock_at d s → ⊥
  pub stable : Off (stable_at d s) 4 j
  pub seen : Off (seen_at d s) 4 j
  pub heads : (o : ℕ) → o < 4 → Off (held_at (link_of s o d)) 2 j
  pub slots : (o : ℕ) → o < 4 → Off (slot_at (link_of s o d) 0) 160 j
  pub stored : Off (stored_at d 0) 1440 j

module _ (π : Counts) (l m : List ℕ) (size : length m ≡ length l) (S : Sound π l) where
  module _ (d s : ℕ) (kd : d < π.depots) (ks : s < π.shelves) (same : (j : ℕ) → OffShelf d s j → get_or m j 0 ≡ get_or l j 0) where
    -- every other shelf stays
    others : ((r : ℕ) → (r ≡ s → ⊥) → store_at π m d r ≡ store_at π l d r) → (e r : ℕ) → e < π.depots → r < π.shelves → ((e ≡ d) × (r ≡ s) → ⊥) → shelf_at π m e r ≡ shelf_at π l e r
    others stores e r ke kr apart =
        ⊎_elim
        (λ (p : e ≡ d). let q : r ≡ s → ⊥ = (λ t. apart (p, t)) in
        shelf_kept π l m size e r S.small.depots
        (let a = S.small.depots in let b = S.small.shelves in
        record { clock = same _ (omega arith); stable = λ j x y. same j (omega arith); seen = λ j x y. same j (omega arith) })
        (subst (λ (x : ℕ). store_at π m x r ≡ store_at π l x r) (sym p) (stores r q))
        (λ o k. let a = S.small.depots in let b = S.small.shelves in let c = k.below in let f = S.links r o e kr k.below ke k.apart in
        (record { head = λ j x y. same j (omega arith); slots = λ j x y. same j (omega arith) }, f.few, f.order)))
        (λ (p : e ≡ d → ⊥).
        shelf_kept π l m size e r S.small.depots
        (let a = S.small.depots in let b = S.small.shelves in
        record { clock = same _ (omega arith); stable = λ j x y. same j (omega arith); seen = λ j x y. same j (omega arith) })
        (let a = S.small.depots in let b = S.small.shelves in store_kept π l m size e r S.small.bearings (λ j x y. same j (omega arith)))
        (λ o k. let a = S.small.depots in let b = S.small.shelves in let c = k.below in let f = S.links r o e kr k.below ke k.apart in
        (record { head = λ j x y. same j (omega arith); slots = λ j x y. same j (omega arith) }, f.few, f.order)))
        (eq_or_ne e d)

    pub view_moved : (h : Shelf) → ((r : ℕ) → (r ≡ s → ⊥) → store_at π m d r ≡ store_at π l d r) → shelf_at π m d s ≡ h → view_by π m ≡ set_shelf d s h (view_by π l)
    view_moved h stores here =
        view_shelf π l m size d s h S.small kd ks here (others stores)
        λ j x y. let a = S.small.depots in let b = S.small.shelves in same j (omega arith)

  -- ---- the links into shelf s of depot d, of which only that from depot o has moved

  module _ (d s o : ℕ) (kd : d < π.depots) (ks : s < π.shelves) (ko : Other π.depots d o)
      (kept : (x : ℕ) → Other π.depots d x → (x ≡ o → ⊥) → LinkKept l m (link_of s x d)) where
    pub taken_put : (t : List Write) → taken_on π.depots m (link_of s o d) ≡ t → (shelf_at π m d s).taken ≡ put o t (shelf_at π l d s).taken
    unfolding shelf_at put
    taken_put t here = fun_ext λ x.
        ⊎_elim
        (λ (e : eqb x o ≡ true).
        subst (λ (y : ℕ). pick (other π.depots d y) (taken_on π.depots m (link_of s y d)) [] ≡ t) (sym (eqb-true x o e)) (pick_true _ _ (other_intro ko) ∙ here)
        ∙ sym (pick_true _ _ e))
        (λ (e : eqb x o ≡ false).
        pick_then (other π.depots d x) []
        (λ t. let k = other_true π.depots d x t in let f = S.links s x d ks k.below kd k.apart in
        taken_on_kept π.depots l m size (link_of s x d) (kept x k (eqb-false x o e)) (le_trans f.order f.few))
        ∙ sym (pick_false _ _ e))
        (decided (eqb x o))

    pub untaken_put : (t : List Message) → untaken_on π.depots m (link_of s o d) ≡ t → (shelf_at π m d s).untaken ≡ put o t (shelf_at π l d s).untaken
    unfolding shelf_at put
    untaken_put t here = fun_ext λ x.
        ⊎_elim
        (λ (e : eqb x o ≡ true).
        subst (λ (y : ℕ). pick (other π.depots d y) (untaken_on π.depots m (link_of s y d)) [] ≡ t) (sym (eqb-true x o e)) (pick_true _ _ (other_intro ko) ∙ here)
        ∙ sym (pick_true _ _ e))
        (λ (e : eqb x o ≡ false).
        pick_then (other π.depots d x) []
        (λ t. let k = other_true π.depots d x t in let f = S.links s x d ks k.below kd k.apart in
        untaken_on_kept π.depots l m size (link_of s x d) (kept x k (eqb-false x o e)) f.few)
        ∙ sym (pick_false _ _ e))
        (decided (eqb x o))
