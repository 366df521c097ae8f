-- A list raises and shows every home shelf with one vector, which each of them has seen: one change after another, then the crew's.
-- Assumes nothing.
use Prim.Native.Nat.{ℕ, zero, suc, ◌≤◌, ◌<◌}
use native.Mathlib.Omega.{arith}
use native.Mathlib.Nat.{le_refl, le_trans}
use mathlib.Core.Path.{◌≡◌, refl, sym, subst, ap, ◌∙◌}
use mathlib.Core.Logic.{◌⊎◌, ⊎_elim}
use mathlib.Core.List.Memᴰ
use mathlib.Core.List.{List, [], ◌∷◌, Memᴰ}
use Rattle.loops.specs.Loops.{times}
use Rattle.order.specs.Vector.{Vec, merged}
use Rattle.loops.proofs.LoopLaws.{times_keeps}
use Rattle.model.specs.Parts.{Counts, Write, Shelf, State, set_shelf, unwritten}
use Rattle.model.specs.Rules.{settled, settle}
use Rattle.paper.specs.Calls.{list}
use Rattle.model.specs.Calls.{gathered, shelf_of, page_vector, paged, on_page, listing, acted}
use Rattle.model.proofs.Places.{Other, set_shelf_all, set_shelf_here, last_or_below}
use Rattle.model.proofs.Invariant.{Rests, Good, Sound, Change, changes, change_none, good_changes, rests_grows, stored_rests, merged_rests}
use Rattle.model.proofs.Settling.{raised_below, settled_stable, settle_changes}
use Rattle.model.proofs.Keeping.{crew_changes}

pub gathered_rises : (u : Vec) (f : ℕ → Vec) (l : List ℕ) (x : ℕ) → u x ≤ gathered u f l x
unfolding gathered merged
gathered_rises u f [] x = le_refl _
gathered_rises u f (k ∷ l) x = let t = gathered_rises (merged u (f k)) f l x in omega arith

pub gathered_has : (u : Vec) (f : ℕ → Vec) (l : List ℕ) (k : ℕ) → Memᴰ k l → (x : ℕ) → f k x ≤ gathered u f l x
unfolding gathered merged
gathered_has u f [] k m x = absurd (Memᴰ.not-nil m)
gathered_has u f (j ∷ l) k m x = ⊎_elim
    (λ (e : k ≡ j). let t = gathered_rises (merged u (f j)) f l x in let s : f k x ≡ f j x = ap (λ y. f y x) e in omega arith)
    (λ (m : Memᴰ k l). gathered_has (merged u (f j)) f l k m x)
    (Memᴰ.cases_cons m)

gathered_rests : (π : Counts) (σ : State) (d : ℕ) (u : Vec) (f : ℕ → Vec) (l : List ℕ) → Rests π σ d u → ((k : ℕ) → Rests π σ d (f k)) → Rests π σ d (gathered u f l)
unfolding gathered
gathered_rests π σ d u f [] r s = r
gathered_rests π σ d u f (k ∷ l) r s = gathered_rests π σ d (merged u (f k)) f l (merged_rests π r (s k)) s

module _ (π : Counts) (c : ℕ) (σ : State) where
  abbrev d : ℕ
  d = σ.home c

  abbrev u : Vec
  u = page_vector π c σ

  -- the vector offered is at least the crew's and every stable vector's, and no more than these
  pub page_crew : (x : ℕ) → σ.crew c x ≤ u x
  unfolding page_vector merged
  page_crew x = times_keeps (λ (v : Vec). σ.crew c x ≤ v x) π.shelves _ (σ.crew c) (λ i v hi t. omega arith) (le_refl _)

  pub page_stable : (s x : ℕ) → s < π.shelves → (σ.shelf d s).stable x ≤ u x
  unfolding page_vector merged times
  page_stable s x hs = go π.shelves hs
    where
      go : (n : ℕ) → s < n → (σ.shelf d s).stable x ≤ times n (λ s v. merged v (σ.shelf d s).stable) (σ.crew c) x
      go zero h = absurd (omega arith)
      go (suc n) h = ⊎_elim
          (λ (e : s ≡ n). let t : (σ.shelf d s).stable x ≡ (σ.shelf d n).stable x = ap (λ s. (σ.shelf d s).stable x) e in omega arith)
          (λ (l : s < n). let t : (σ.shelf d s).stable x ≤ times n (λ s v. merged v (σ.shelf d s).stable) (σ.crew c) x = go n l in omega arith)
          (last_or_below s n h)

  pub page_below : (x b : ℕ) → σ.crew c x ≤ b → ((s : ℕ) → s < π.shelves → (σ.shelf d s).stable x ≤ b) → u x ≤ b
  unfolding page_vector merged
  page_below x b h k = times_keeps (λ (v : Vec). v x ≤ b) π.shelves _ (σ.crew c) (λ i v hi t. let s = k i hi in omega arith) h

  -- crews and homes stay
  pub page_crews : (paged π c σ).crew ≡ σ.crew
  unfolding paged settle set_shelf
  page_crews = times_keeps (λ (τ : State). τ.crew ≡ σ.crew) π.shelves _ σ (λ i τ hi t. t) refl

  pub page_homes : (paged π c σ).home ≡ σ.home
  unfolding paged settle set_shelf
  page_homes = times_keeps (λ (τ : State). τ.home ≡ σ.home) π.shelves _ σ (λ i τ hi t. t) refl

  -- the first i home shelves raised and shown
  abbrev up_to : ℕ → State
  up_to i = times i (λ s τ. settle π d s u τ) σ

  not_yet : (i s : ℕ) → i ≤ s → (up_to i).shelf d s ≡ σ.shelf d s
  unfolding times settle
  not_yet zero s h = refl
  not_yet (suc i) s h = set_shelf_all (λ e r g. (r ≡ i → ⊥) → g ≡ (up_to i).shelf e r) d i _ (up_to i) (λ n. absurd (n refl)) (λ e r apart n. refl) d s (λ e. omega arith) ∙ not_yet i s (omega arith)

  so_far : (i s : ℕ) → s < i → (up_to i).shelf d s ≡ settled π.depots d u (σ.shelf d s)
  unfolding times settle
  so_far zero s h = absurd (omega arith)
  so_far (suc i) s h = ⊎_elim
      (λ (e : s ≡ i). subst (λ s. (up_to (suc i)).shelf d s ≡ settled π.depots d u (σ.shelf d s)) (sym e)
      (set_shelf_here d i _ (up_to i) ∙ ap (settled π.depots d u) (not_yet i i (le_refl _))))
      (λ (l : s < i). set_shelf_all (λ e r g. (r ≡ i → ⊥) → g ≡ (up_to i).shelf e r) d i _ (up_to i) (λ n. absurd (n refl)) (λ e r apart n. refl) d s (λ e. omega arith) ∙ so_far i s l)
      (last_or_below s i h)

  pub page_shelf : (s : ℕ) → s < π.shelves → (paged π c σ).shelf d s ≡ settled π.depots d u (σ.shelf d s)
  unfolding paged
  page_shelf s hs = so_far π.shelves s hs

  module _ (M : Write → Type 0) (z : Sound π M σ) (hc : c < π.crews) where
    -- every home shelf has seen the vector offered
    pub page_offered : (r x : ℕ) → r < π.shelves → Other π.depots d x → u x ≤ (σ.shelf d r).seen x
    page_offered r x hr o = page_below x _ ((z.crews c hc).seen r x hr o) (λ s hs. z.stable d s r x (z.crews c hc).depot hs hr o)

    up_changes : (i : ℕ) → i ≤ π.shelves → Change π M σ (up_to i)
    unfolding times
    up_changes zero h = change_none π z
    up_changes (suc i) h = let t : Change π M σ (up_to i) = up_changes i (omega arith) in
        changes π t (settle_changes π M (up_to i) t.sound d i (z.crews c hc).depot (omega arith) u (λ r x hr o. le_trans (page_offered r x hr o) (t.grows.seen d r x)))

    pub page_changes : Change π M σ (paged π c σ)
    unfolding paged
    page_changes = up_changes π.shelves (le_refl _)

    pub list_done : (lies : (k : ℕ) → shelf_of π k < π.shelves) → ((w : Write) → M w → Good π σ w) → (l : List ℕ) → Change π M σ (acted π σ (list c l)).state
    unfolding acted listing
    list_done lies good l = changes π page_changes (crew_changes π M (paged π c σ) page_changes.sound c (gathered (σ.crew c) f l)
        (subst (λ (home : ℕ → ℕ). Rests π (paged π c σ) (home c) (gathered (σ.crew c) f l)) (sym page_homes)
        (gathered_rests π (paged π c σ) d (σ.crew c) f l (rests_grows π page_changes.grows (z.crews c hc))
        (λ k. stored_rests π page_changes.sound (λ w m. good_changes π page_changes (good w m)) (z.crews c hc).depot (lies k) k)))
        (λ x. subst (λ (crew : ℕ → Vec). crew c x ≤ gathered (σ.crew c) f l x) (sym page_crews) (gathered_rises (σ.crew c) f l x)))
      where
        f : ℕ → Vec
        f k = (((paged π c σ).shelf (σ.home c) (shelf_of π k)).store k).vector

    -- what a list answers is covered by the vector offered, and unwritten or made
    module _ (lies : (k : ℕ) → shelf_of π k < π.shelves) (k : ℕ) where
      pub page_covers : (x : ℕ) → Other π.depots d x → (on_page π c k σ).vector x ≤ ((paged π c σ).shelf d (shelf_of π k)).stable x
      unfolding on_page
      page_covers x o = (page_changes.sound.shelf d (shelf_of π k) (z.crews c hc).depot (lies k)).covers k x o

      pub page_within : (x : ℕ) → Other π.depots d x → (on_page π c k σ).vector x ≤ u x
      page_within x o = le_trans (page_covers x o) (subst (λ (g : Shelf). g.stable x ≤ u x) (sym (page_shelf (shelf_of π k) (lies k)))
          (subst (λ (v : Vec). v x ≤ u x) (sym (settled_stable π.depots d u (σ.shelf d (shelf_of π k))))
          (raised_below π.depots d u _ x (u x) (page_stable (shelf_of π k) x (lies k)) (le_refl _))))

      pub page_made : (on_page π c k σ ≡ unwritten) ⊎ M (record { bearing = k; version = on_page π c k σ })
      unfolding on_page
      page_made = (page_changes.sound.shelf d (shelf_of π k) (z.crews c hc).depot (lies k)).stores k
