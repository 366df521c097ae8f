-- Three changes that no link sees: a crew's new vector, its new home, and a version stored if greater.
-- Assumes nothing.
use Prim.Native.Nat.{ℕ, ◌≤◌, ◌<◌}
use native.Mathlib.Omega.{arith}
use native.Mathlib.Nat.{le_refl, le_trans}
use mathlib.Core.Path.{◌≡◌, refl, sym, subst, subst₃}
use mathlib.Core.Logic.{◌⊎◌, inr}
use mathlib.Core.List.{List, Memᴰ}
use Rattle.order.specs.Vector.{Vec}
use Rattle.model.specs.Parts.{Counts, Write, Message, copy, Shelf, State, set_shelf, set_crew, set_home, unwritten}
use Rattle.model.specs.Rules.{storing, keep}
use Rattle.model.proofs.Places.{put_all, Other, set_shelf_all, set_shelf_same, set_shelf_here}
use Rattle.model.proofs.Showing.{AtMost, at_most_refl, at_most_trans, keeping_rises, keeping_has, keeping_all}
use Rattle.model.proofs.Chains.{Chain}
use Rattle.model.proofs.Invariant.{Rests, Stands, stored, held, coming, Grows, ShelfSound, Sound, Change, rests_grows}

module _ (π : Counts) (M : Write → Type 0) (σ : State) (z : Sound π M σ) (c : ℕ) (u : Vec) (rests : Rests π σ (σ.home c) u) (rises : (x : ℕ) → σ.crew c x ≤ u x) where
  crew_grows : Grows π σ (set_crew c u σ)
  unfolding set_crew
  crew_grows = record {
    clock = λ d s. le_refl _;
    stable = λ d s x. le_refl _;
    seen = λ d s x. le_refl _;
    store = λ d s k. at_most_refl;
    crew = put_all (λ b (v : Vec). (x : ℕ) → σ.crew b x ≤ v x) c rises (λ b apart x. le_refl _);
  }

  pub crew_changes : Change π M σ (set_crew c u σ)
  unfolding set_crew
  crew_changes = record {
    sound = record {
      shelf = z.shelf;
      chain = z.chain;
      stable = z.stable;
      crews = λ b hb. rests_grows π crew_grows (put_all (λ b (v : Vec). b < π.crews → Rests π σ (σ.home b) v) c (λ hb. rests) (λ b apart hb. z.crews b hb) b hb);
    };
    grows = crew_grows;
    stands = λ w d hd t. again w d t;
  }
    where
      again : (w : Write) (d : ℕ) → Stands π σ w d → Stands π (set_crew c u σ) w d
      again w d (stored t) = stored t
      again w d (held o m) = held o m
      again w d (coming o m) = coming o m

module _ (π : Counts) (M : Write → Type 0) (σ : State) (z : Sound π M σ) (c d : ℕ) (rests : Rests π σ d (σ.crew c)) where
  home_grows : Grows π σ (set_home c d σ)
  unfolding set_home
  home_grows = record { clock = λ d s. le_refl _; stable = λ d s x. le_refl _; seen = λ d s x. le_refl _; store = λ d s k. at_most_refl; crew = λ c x. le_refl _ }

  pub home_changes : Change π M σ (set_home c d σ)
  unfolding set_home
  home_changes = record {
    sound = record {
      shelf = z.shelf;
      chain = z.chain;
      stable = z.stable;
      crews = λ b hb. rests_grows π home_grows (put_all (λ b e. b < π.crews → Rests π σ e (σ.crew b)) c (λ hb. rests) (λ b apart hb. z.crews b hb) b hb);
    };
    grows = home_grows;
    stands = λ w d hd t. again w d t;
  }
    where
      again : (w : Write) (e : ℕ) → Stands π σ w e → Stands π (set_home c d σ) w e
      again w e (stored t) = stored t
      again w e (held o m) = held o m
      again w e (coming o m) = coming o m

module _ (π : Counts) (M : Write → Type 0) (σ : State) (z : Sound π M σ) (d s : ℕ) (hd : d < π.depots) (hs : s < π.shelves) (w : Write) (made : M w)
    (covers : (x : ℕ) → Other π.depots d x → w.version.vector x ≤ (σ.shelf d s).stable x) where
  abbrev old : Shelf
  old = σ.shelf d s

  abbrev new : Shelf
  new = storing π.depots w old

  abbrev after : State
  after = set_shelf d s new σ

  same : {A : Type 0} (f : ℕ → Vec → Vec → (ℕ → List Write) → (ℕ → List Message) → A) (e r : ℕ)
      → f (after.shelf e r).clock (after.shelf e r).stable (after.shelf e r).seen (after.shelf e r).taken (after.shelf e r).untaken
      ≡ f (σ.shelf e r).clock (σ.shelf e r).stable (σ.shelf e r).seen (σ.shelf e r).taken (σ.shelf e r).untaken
  same f = set_shelf_same (λ g. f g.clock g.stable g.seen g.taken g.untaken) d s new σ (unfold storing in refl)

  keep_grows : Grows π σ after
  unfolding set_shelf storing
  keep_grows = record {
    clock = λ e r. le_of (same (λ c v u t l. c) e r);
    stable = λ e r x. le_of (same (λ c v u t l. v x) e r);
    seen = λ e r x. le_of (same (λ c v u t l. u x) e r);
    store = set_shelf_all (λ e r g. (k : ℕ) → AtMost π.depots ((σ.shelf e r).store k) (g.store k)) d s new σ (keeping_rises π.depots w old.store) (λ e r apart k. at_most_refl);
    crew = λ c x. le_refl _;
  }
    where
      le_of : {x y : ℕ} → x ≡ y → y ≤ x
      le_of e = omega arith

  keep_stands : (v : Write) (e : ℕ) → e < π.depots → Stands π σ v e → Stands π after v e
  keep_stands v e he (stored t) = stored (at_most_trans t (keep_grows.store e _ _))
  keep_stands v e he (held o m) = held o (subst (λ l. Memᴰ v l) (sym (same (λ c v' u t l. t v.version.origin) e _)) m)
  keep_stands v e he (coming o m) = coming o (subst (λ l. Memᴰ (copy v) l) (sym (same (λ c v' u t l. l v.version.origin) e _)) m)

  keep_shelf : ShelfSound π M d s new
  unfolding storing
  keep_shelf = record {
    covers = λ k x o. keeping_all π.depots (λ k v. v.vector x ≤ old.stable x) w old.store (λ k. h.covers k x o) (covers x o) k;
    stores = keeping_all π.depots (λ k v. (v ≡ unwritten) ⊎ M (record { bearing = k; version = v })) w old.store h.stores (inr made);
    taken = h.taken;
    untaken = h.untaken;
    top = h.top;
  }
    where
      h : ShelfSound π M d s old
      h = z.shelf d s hd hs

  pub keep_changes : Change π M σ (keep π d s w σ)
  unfolding set_shelf keep
  keep_changes = record {
    sound = record {
      shelf = λ e r he hr. set_shelf_all (λ e r g. e < π.depots → r < π.shelves → ShelfSound π M e r g) d s new σ (λ he hr. keep_shelf) (λ e r apart he hr. z.shelf e r he hr) e r he hr;
      chain = λ e r o he hr a. subst₃ Chain (sym (same (λ c v u t l. u o) e r)) (sym (same (λ c v u t l. l o) e r)) (sym (same (λ c v u t l. c) o r)) (z.chain e r o he hr a);
      stable = λ e r q x he hr hq a. le_trans (le_of (same (λ c v u t l. v x) e r)) (le_trans (z.stable e r q x he hr hq a) (keep_grows.seen e q x));
      crews = λ c hc. rests_grows π keep_grows (z.crews c hc);
    };
    grows = keep_grows;
    stands = keep_stands;
  }
    where
      le_of : {x y : ℕ} → x ≡ y → x ≤ y
      le_of e = omega arith

  -- there it stands, or a greater one
  pub keep_has : AtMost π.depots w.version (((keep π d s w σ).shelf d s).store w.bearing)
  unfolding keep storing
  keep_has = subst (λ (g : Shelf). AtMost π.depots w.version (g.store w.bearing)) (sym (set_shelf_here d s new σ)) (keeping_has π.depots w old.store)
