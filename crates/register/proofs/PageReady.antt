-- Settling one shelf of a depot leaves the links into its other shelves as they were, so a list's shelves stay ready until their turn comes.
-- Assumes nothing.
use Prim.Native.Nat.{ℕ, ◌≤◌, ◌<◌}
use native.Mathlib.Nat.{le_refl, le_step}
use native.Mathlib.Omega.{arith}
use mathlib.Core.Path.{◌≡◌, refl, sym, ◌∙◌, subst}
use mathlib.Core.List.{List}
use lib.ListN.{length, get_or}
use Rattle.loops.specs.Loops.{times}
use Rattle.order.specs.Vector.{Vec}
use Rattle.book.specs.Layout.{stable_at, stored_at, slot_at, held_at, taken_at, link_of}
use Rattle.shelf.specs.Asks.{Ready}
use Rattle.shelf.specs.Show.{settled}
use Rattle.shelf.proofs.FrameLaws.{Off, times_grows}
use Rattle.shelf.proofs.ShowFrame.{OffLinks, sound_same, length_settled, settled_off}
use Rattle.register.specs.Calls.{settled_all}

-- another shelf of the depot
pub ready_other : (n d s r : ℕ) (offered : Vec) (l : List ℕ) → (r ≡ s → ⊥) → Ready n d s l → Ready n d r l → Ready n d r (settled n d s offered l)
ready_other n d s r offered l f h k =
    let a = h.depots in
    let b = h.depot in
    let c = h.shelf in
    let e = k.shelf in
    record {
      depots = a;
      depot = b;
      shelf = e;
      links = λ from z g.
          sound_same l _ (link_of r from d) (length_settled n d s offered l)
          (λ j x y. settled_off n d s offered l h j (omega arith) (λ o u v. (omega arith, omega arith)) (omega arith))
          (λ j x y. settled_off n d s offered l h j (omega arith) (λ o u v. (omega arith, omega arith)) (omega arith))
          (k.links from z g);
    }

-- one turn
abbrev pub page_turn : ℕ → ℕ → Vec → ℕ → List ℕ → List ℕ
page_turn n d offered s m = settled n d s offered m

-- word j lies outside the stable vectors of the first i shelves of depot d, and outside the links into them
abbrev pub OffShelves : ℕ → ℕ → ℕ → ℕ → Type 0
OffShelves n i d j = (s : ℕ) → s < i → Off (stable_at d s) n j × OffLinks n d s j

-- after the first i shelves: the length stays, each word outside what they touch and the depot's store, and the later shelves, of p, are ready
pub record Waits (n p d : ℕ) (l : List ℕ) (i : ℕ) (m : List ℕ) : Type 0 where
  pub size : length m ≡ length l
  pub same : (j : ℕ) → OffShelves n i d j → Off (stored_at d 0) 1440 j → get_or m j 0 ≡ get_or l j 0
  pub later : (s : ℕ) → i ≤ s → s < p → Ready n d s m

module _ (n p d : ℕ) (offered : Vec) (l : List ℕ) (h : (s : ℕ) → s < p → Ready n d s l) where
  pub page_turns : (i : ℕ) → i ≤ p → Waits n p d l i (times i (page_turn n d offered) l)
  page_turns i k =
      times_grows (Waits n p d l) i (page_turn n d offered) l (record { size = refl; same = λ j a b. refl; later = λ s x y. h s y }) λ x m z t.
      record {
        size = length_settled n d x offered m ∙ t.size;
        same = λ j out store.
            settled_off n d x offered m (t.later x (le_refl _) (omega arith)) j (out x (le_refl _)).0 (out x (le_refl _)).1 store ∙ t.same j (λ s u. out s (le_step u)) store;
        later = λ s u v. ready_other n d x s offered m (omega arith) (t.later x (le_refl _) (omega arith)) (t.later s (omega arith) v);
      }

  pub page_ready : (i : ℕ) {m : List ℕ} → i < p → m ≡ times i (page_turn n d offered) l → Ready n d i m
  page_ready i k e = subst (λ (m : List ℕ). Ready n d i m) (sym e) ((page_turns i (omega arith)).later i (le_refl _) k)

  -- so the links into a shelf stay until its turn comes
  module _ (i : ℕ) (k : i < p) (from : ℕ) (z : from < n) where
    pub slots_wait : (j : ℕ) → slot_at (link_of i from d) 0 ≤ j → j < slot_at (link_of i from d) 16 → get_or (times i (page_turn n d offered) l) j 0 ≡ get_or l j 0
    slots_wait j x y =
        let a = (h i k).depots in
        let b = (h i k).depot in
        let c = (h i k).shelf in
        (page_turns i (omega arith)).same j (λ s u. (omega arith, λ o v w. (omega arith, omega arith))) (omega arith)

    pub heads_wait : (j : ℕ) → held_at (link_of i from d) ≤ j → j ≤ taken_at (link_of i from d) → get_or (times i (page_turn n d offered) l) j 0 ≡ get_or l j 0
    heads_wait j x y =
        let a = (h i k).depots in
        let b = (h i k).depot in
        let c = (h i k).shelf in
        (page_turns i (omega arith)).same j (λ s u. (omega arith, λ o v w. (omega arith, omega arith))) (omega arith)

  pub length_page : length (settled_all n p d offered l) ≡ length l
  unfolding settled_all
  length_page = (page_turns p (le_refl _)).size
