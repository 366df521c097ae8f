-- The home shelf that a crew meets, raised with its vector and shown: in the words and in the model.
-- Assumes nothing.
use Prim.Native.Nat.{ℕ, ◌%◌, ◌<◌}
use native.Mathlib.Nat.{mod-lt}
use mathlib.Core.Path.{◌≡◌, refl, sym, ◌∙◌, ap}
use mathlib.Core.Bool.{true}
use mathlib.Core.List.{List}
use lib.ListN.{length, get_or}
use borrow.Author.Tests.{lt-ltb, eq-eqb}
use Rattle.order.specs.Vector.{Vec}
use Rattle.loops.proofs.BoolLaws.{and_intro, pick_true}
use Rattle.book.specs.Layout.{home, crew_vector, stored}
use Rattle.fit.specs.Fit.{fit}
use Rattle.shelf.proofs.ShowFrame.{length_settled}
use Rattle.register.specs.Calls.{settled_home}
use Rattle.model.specs.Parts.{Counts, Shelf}
use Rattle.model.specs.Rules.{settled, settle}
use Rattle.bridge.specs.View.{counts_in, entries_at, version_of, store_at, shelf_at, view_by, view}
use Rattle.bridge.proofs.Sound.{Sound, sound}
use Rattle.bridge.proofs.Looks.{shelf_here, crew_here}
use Rattle.bridge.proofs.SettleView.{settled_view, settled_here, settled_below}

module _ (l : List ℕ) (F : fit l ≡ true) (c k : ℕ) (kc : c < (counts_in l).crews) where
  abbrev π : Counts
  π = counts_in l

  abbrev d : ℕ
  d = home l c

  abbrev s : ℕ
  s = k % (counts_in l).shelves

  S : Sound π l
  S = sound l F

  pub kd : home l c < (counts_in l).depots
  kd = S.homes c kc

  pub ks : k % (counts_in l).shelves < (counts_in l).shelves
  ks = mod-lt k S.small.shelf

  -- the crew's vector, in the words and in the view
  pub crew_agrees : (x : ℕ) → x < (counts_in l).depots → crew_vector l c x ≡ (view l).crew c x
  unfolding view entries_at
  crew_agrees x h = sym (ap (λ (u : Vec). u x) (crew_here π l c kc) ∙ pick_true _ _ (lt-ltb x _ h))

  pub home_settled : view_by (counts_in l) (settled_home l c k) ≡ settle (counts_in l) (home l c) (k % (counts_in l).shelves) ((view l).crew c) (view l)
  unfolding settled_home view
  home_settled = settled_view π l S d s kd ks (crew_vector l c) ((view l).crew c) λ x o. crew_agrees x o.below

  pub home_below : (j : ℕ) → j < 84 → get_or (settled_home l c k) j 0 ≡ get_or l j 0
  unfolding settled_home
  home_below j h = settled_below π l S d s kd ks (crew_vector l c) (crew_vector l c) (λ x y. refl) j h

  pub home_size : length (settled_home l c k) ≡ length l
  unfolding settled_home
  home_size = length_settled π.depots d s (crew_vector l c) l

  -- the shelf that the crew meets
  pub home_shelf_law : shelf_at (counts_in l) (settled_home l c k) (home l c) (k % (counts_in l).shelves)
      ≡ settled (counts_in l).depots (home l c) ((view l).crew c) ((view l).shelf (home l c) (k % (counts_in l).shelves))
  unfolding settled_home view
  home_shelf_law =
      settled_here π l S d s kd ks (crew_vector l c) ((view l).crew c) (λ x o. crew_agrees x o.below)
      ∙ ap (settled π.depots d ((view l).crew c)) (sym (shelf_here π l d s kd ks))

  -- what it stores of the bearing
  pub home_stored : k < (counts_in l).bearings
      → (settled (counts_in l).depots (home l c) ((view l).crew c) ((view l).shelf (home l c) (k % (counts_in l).shelves))).store k
      ≡ version_of (counts_in l).depots (stored (settled_home l c k) (home l c) k)
  unfolding shelf_at store_at
  home_stored kk = sym (ap (λ (h : Shelf). h.store k) home_shelf_law) ∙ pick_true _ _ (and_intro (lt-ltb k _ kk) (eq-eqb s s refl))
