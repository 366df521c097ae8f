-- What stays: a link, a shelf, the crews, where their words stay; and a book in which only one shelf has moved is the state with that shelf put.
-- Assumes nothing.
use Prim.Native.Nat.{ℕ, ◌+◌, ◌-◌, ◌%◌, ◌≤◌, ◌<◌}
use native.Mathlib.Nat.{le_trans}
use native.Mathlib.Omega.{arith}
use mathlib.Core.Path.{◌≡◌, ◌∙◌, ap, ap₂}
use mathlib.Core.Bool.{◌&&◌}
use mathlib.Core.List.{List, []}
use lib.Dec.{eqb, ltb}
use lib.ListN.{length, get_or}
use borrow.Author.Tests.{ltb-true}
use Rattle.loops.proofs.BoolLaws.{and_left, and_right}
use Rattle.book.specs.Layout.{home_at, crew_at, clock_at, stable_at, seen_at, link_of, held_at, taken_at, slot_at, stored_at, held, taken, slot, record_of}
use Rattle.shelf.proofs.FrameLaws.{part_off}
use Rattle.model.specs.Parts.{Counts, Shelf, other, unwritten, empty_shelf, set_shelf}
use Rattle.model.proofs.Places.{other_true, Other, set_shelf_all}
use Rattle.bridge.specs.View.{version_of, write_of, message_of, listed, taken_on, untaken_on, store_at, shelf_at, view_by}
use Rattle.bridge.proofs.Basics.{pick_then, listed_same, Same, same_entries, shelf_path, state_path}
use Rattle.bridge.proofs.Sound.{Small}

-- link q has in m the words that it has in l
pub record LinkKept (l m : List ℕ) (q : ℕ) : Type 0 where
  pub head : Same l m (held_at q) 2
  pub slots : Same l m (slot_at q 0) 160

module _ (n : ℕ) (l m : List ℕ) (size : length m ≡ length l) where
  pub held_kept : (q : ℕ) → LinkKept l m q → held m q ≡ held l q
  held_kept q k = k.head (held_at q) (omega arith) (omega arith)

  pub taken_kept : (q : ℕ) → LinkKept l m q → taken m q ≡ taken l q
  taken_kept q k = k.head (taken_at q) (omega arith) (omega arith)

  pub slot_kept : (q : ℕ) → Same l m (slot_at q 0) 160 → (i : ℕ) → i < 16 → slot m q i ≡ slot l q i
  slot_kept q k i h = part_off m l (slot_at q i) 10 size λ j a b. k j (omega arith) (omega arith)

  pub taken_on_same : (q : ℕ) → taken m q ≡ taken l q → ((i : ℕ) → i < taken l q → slot m q i ≡ slot l q i) → taken_on n m q ≡ taken_on n l q
  unfolding taken_on
  taken_on_same q e h = ap (λ (t : ℕ). listed t (λ i. write_of n (record_of (slot m q i)))) e ∙ listed_same (taken l q) _ _ λ i k. ap (λ (s : List ℕ). write_of n (record_of s)) (h i k)

  pub taken_on_kept : (q : ℕ) → LinkKept l m q → taken l q ≤ 16 → taken_on n m q ≡ taken_on n l q
  taken_on_kept q k few = taken_on_same q (taken_kept q k) λ i h. slot_kept q k.slots i (omega arith)

  pub untaken_on_kept : (q : ℕ) → LinkKept l m q → held l q ≤ 16 → untaken_on n m q ≡ untaken_on n l q
  unfolding untaken_on
  untaken_on_kept q k few =
      ap₂ (λ (t h : ℕ). listed (h - t) (λ i. message_of n (slot m q (t + i)))) (taken_kept q k) (held_kept q k)
      ∙ listed_same (held l q - taken l q) _ _ λ i h. ap (message_of n) (slot_kept q k.slots (taken l q + i) (omega arith))

module _ (π : Counts) (l m : List ℕ) (size : length m ≡ length l) where
  -- what depot d stores on shelf s stays where the words of its records stay
  pub store_kept : (d s : ℕ) → π.bearings ≤ 160 → Same l m (stored_at d 0) 1440 → store_at π m d s ≡ store_at π l d s
  unfolding store_at
  store_kept d s room k =
      λ i b. pick_then (ltb b π.bearings && eqb (b % π.shelves) s) unwritten
      (λ t. let h = ltb-true b π.bearings (and_left _ _ t) in ap (version_of π.depots) (part_off m l (stored_at d b) 9 size (λ j a c. k j (omega arith) (omega arith)))) i

  -- shelf s of depot d, but for its store and links
  pub record ShelfKept (d s : ℕ) : Type 0 where
    pub clock : get_or m (clock_at d s) 0 ≡ get_or l (clock_at d s) 0
    pub stable : Same l m (stable_at d s) 4
    pub seen : Same l m (seen_at d s) 4

  pub seen_kept : (d s : ℕ) → π.depots ≤ 4 → Same l m (seen_at d s) 4 → (shelf_at π m d s).seen ≡ (shelf_at π l d s).seen
  unfolding shelf_at
  seen_kept d s few k =
      λ i x. pick_then (other π.depots d x) 0 (λ t. let o = (other_true π.depots d x t).below in k (seen_at d s + x) (omega arith) (omega arith)) i

  pub links_kept : (d s : ℕ) → ((o : ℕ) → Other π.depots d o → LinkKept l m (link_of s o d) × (held l (link_of s o d) ≤ 16) × (taken l (link_of s o d) ≤ held l (link_of s o d)))
      → ((shelf_at π m d s).taken ≡ (shelf_at π l d s).taken) × ((shelf_at π m d s).untaken ≡ (shelf_at π l d s).untaken)
  unfolding shelf_at
  links_kept d s k = (
    λ i o. pick_then (other π.depots d o) [] (λ t. let h = k o (other_true π.depots d o t) in taken_on_kept π.depots l m size (link_of s o d) h.0 (le_trans h.2 h.1)) i,
    λ i o. pick_then (other π.depots d o) [] (λ t. let h = k o (other_true π.depots d o t) in untaken_on_kept π.depots l m size (link_of s o d) h.0 h.1) i,
  )

  pub shelf_kept : (d s : ℕ) → π.depots ≤ 4 → ShelfKept d s → store_at π m d s ≡ store_at π l d s
      → ((o : ℕ) → Other π.depots d o → LinkKept l m (link_of s o d) × (held l (link_of s o d) ≤ 16) × (taken l (link_of s o d) ≤ held l (link_of s o d)))
      → shelf_at π m d s ≡ shelf_at π l d s
  unfolding shelf_at
  shelf_kept d s few k stores links =
      let t = links_kept d s links in
      shelf_path k.clock (same_entries π.depots l m (stable_at d s) (λ j a b. k.stable j a (omega arith))) (seen_kept d s few k.seen) stores t.0 t.1

  -- homes and crews stay where their words stay
  pub crews_kept : π.depots ≤ 4 → π.crews ≤ 16 → Same l m 20 64 → (view_by π m).crew ≡ (view_by π l).crew
  unfolding view_by
  crews_kept few room k =
      λ i c. pick_then (ltb c π.crews) (λ x. 0)
      (λ t. let h = ltb-true c π.crews t in same_entries π.depots l m (crew_at c) (λ j a b. k j (omega arith) (omega arith))) i

  pub homes_kept : π.crews ≤ 16 → Same l m 4 16 → (view_by π m).home ≡ (view_by π l).home
  unfolding view_by
  homes_kept room k = λ i c. pick_then (ltb c π.crews) 0 (λ t. let h = ltb-true c π.crews t in k (home_at c) (omega arith) (omega arith)) i

  -- only shelf s of depot d has moved
  pub view_shelf : (d s : ℕ) (h : Shelf) → Small π → d < π.depots → s < π.shelves → shelf_at π m d s ≡ h
      → ((e r : ℕ) → e < π.depots → r < π.shelves → ((e ≡ d) × (r ≡ s) → ⊥) → shelf_at π m e r ≡ shelf_at π l e r)
      → Same l m 4 80 → view_by π m ≡ set_shelf d s h (view_by π l)
  unfolding set_shelf view_by
  view_shelf d s h w kd ks here there crews =
      state_path
      (set_shelf_all (λ e r g. (view_by π m).shelf e r ≡ g) d s h (view_by π l)
      (Rattle.loops.proofs.BoolLaws.pick_true _ _ (Rattle.loops.proofs.BoolLaws.and_intro (borrow.Author.Tests.lt-ltb d _ kd) (borrow.Author.Tests.lt-ltb s _ ks)) ∙ here)
      (λ e r apart. pick_then (ltb e π.depots && ltb r π.shelves) empty_shelf
      (λ t. there e r (ltb-true _ _ (and_left _ _ t)) (ltb-true _ _ (and_right (ltb e π.depots) _ t)) apart)))
      (crews_kept w.depots w.crews (λ j a b. crews j (omega arith) (omega arith)))
      (homes_kept w.crews (λ j a b. crews j (omega arith) (omega arith)))
