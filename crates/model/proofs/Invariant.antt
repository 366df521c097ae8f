-- What holds of every state that a history leaves. M says which writes were made.
-- Assumes nothing.
use Prim.Native.Nat.{ℕ, ◌≤◌, ◌<◌}
use native.Mathlib.Omega.{arith}
use native.Mathlib.Nat.{le_refl, le_trans}
use mathlib.Core.Path.{◌≡◌, refl, sym, subst}
use mathlib.Core.Logic.{◌⊎◌, inl, inr, ⊎_elim}
use mathlib.Core.Bool.{true}
use mathlib.Core.List.{Memᴰ}
use Rattle.order.specs.Vector.{Vec, merged, zeros}
use Rattle.order.proofs.VectorLaws.{zeros_intro}
use Rattle.model.specs.Parts.{Counts, Version, Write, copy, Shelf, State, stamp, unwritten, end}
use Rattle.model.specs.Calls.{shelf_of}
use Rattle.model.proofs.Places.{Other}
use Rattle.model.proofs.Showing.{AtMost, at_most_refl, at_most_trans}
use Rattle.model.proofs.Chains.{Chain}

pub unwritten_zeros : (n : ℕ) {v : Version} → v ≡ unwritten → zeros n v.vector ≡ true
unfolding unwritten
unwritten_zeros n e = subst (λ (v : Version). zeros n v.vector ≡ true) (sym e) (zeros_intro n _ (λ x hx. refl))

module _ (π : Counts) where
  -- the vector u rests on what depot d has seen: each other-depot entry was seen on every shelf, and entries are in range
  pub record Rests (σ : State) (d : ℕ) (u : Vec) : Type 0 where
    pub depot : d < π.depots
    pub seen : (r x : ℕ) → r < π.shelves → Other π.depots d x → u x ≤ (σ.shelf d r).seen x
    pub top : (x : ℕ) → x < π.depots → u x ≤ end

  -- how the write w stands at depot d: stored (it or a greater one), held on its link until shown, or coming
  pub data Stands (σ : State) (w : Write) (d : ℕ) : Type 0 where
    stored : AtMost π.depots w.version ((σ.shelf d (shelf_of π w.bearing)).store w.bearing) → Stands σ w d
    held : Other π.depots d w.version.origin → Memᴰ w ((σ.shelf d (shelf_of π w.bearing)).taken w.version.origin) → Stands σ w d
    coming : Other π.depots d w.version.origin → Memᴰ (copy w) ((σ.shelf d (shelf_of π w.bearing)).untaken w.version.origin) → Stands σ w d

  -- a write that was made: it rests on what its origin has seen, its shelf's clock has reached its stamp, and it stands at every depot
  pub record Good (σ : State) (w : Write) : Type 0 where
    pub rests : Rests σ w.version.origin w.version.vector
    pub clock : stamp w.version ≤ (σ.shelf w.version.origin (shelf_of π w.bearing)).clock
    pub stands : (d : ℕ) → d < π.depots → Stands σ w d

  -- nothing falls from σ to τ
  pub record Grows (σ τ : State) : Type 0 where
    pub clock : (d s : ℕ) → (σ.shelf d s).clock ≤ (τ.shelf d s).clock
    pub stable : (d s x : ℕ) → (σ.shelf d s).stable x ≤ (τ.shelf d s).stable x
    pub seen : (d s x : ℕ) → (σ.shelf d s).seen x ≤ (τ.shelf d s).seen x
    pub store : (d s k : ℕ) → AtMost π.depots ((σ.shelf d s).store k) ((τ.shelf d s).store k)
    pub crew : (c x : ℕ) → σ.crew c x ≤ τ.crew c x

  module _ (M : Write → Type 0) where
    -- a copy on the link from depot o of shelf s was made, by depot o, on that shelf
    pub record Copied (s o : ℕ) (w : Write) : Type 0 where
      pub made : M w
      pub origin : w.version.origin ≡ o
      pub shelf : shelf_of π w.bearing ≡ s

    -- shelf s of depot d by itself
    pub record ShelfSound (d s : ℕ) (h : Shelf) : Type 0 where
      pub covers : (k x : ℕ) → Other π.depots d x → (h.store k).vector x ≤ h.stable x
      pub stores : (k : ℕ) → (h.store k ≡ unwritten) ⊎ M (record { bearing = k; version = h.store k })
      pub taken : (o : ℕ) (w : Write) → o < π.depots → Memᴰ w (h.taken o) → Copied s o w
      pub untaken : (o : ℕ) (w : Write) → Other π.depots d o → Memᴰ (copy w) (h.untaken o) → Copied s o w
      pub top : h.clock ≤ end

    -- the whole state
    pub record Sound (σ : State) : Type 0 where
      pub shelf : (d s : ℕ) → d < π.depots → s < π.shelves → ShelfSound d s (σ.shelf d s)
      pub chain : (d s o : ℕ) → d < π.depots → s < π.shelves → Other π.depots d o
          → Chain ((σ.shelf d s).seen o) ((σ.shelf d s).untaken o) (σ.shelf o s).clock
      pub stable : (d s r x : ℕ) → d < π.depots → s < π.shelves → r < π.shelves → Other π.depots d x → (σ.shelf d s).stable x ≤ (σ.shelf d r).seen x
      pub crews : (c : ℕ) → c < π.crews → Rests σ (σ.home c) (σ.crew c)

    -- a change of a sound state: the state after it is sound, nothing fell, and every write that stood still stands
    pub record Change (σ τ : State) : Type 0 where
      pub sound : Sound τ
      pub grows : Grows σ τ
      pub stands : (w : Write) (d : ℕ) → d < π.depots → Stands σ w d → Stands τ w d

  pub grows_refl : {σ : State} → Grows σ σ
  grows_refl = record
      { clock = λ d s. le_refl _; stable = λ d s x. le_refl _; seen = λ d s x. le_refl _; store = λ d s k. at_most_refl; crew = λ c x. le_refl _ }

  pub grows_trans : {σ τ υ : State} → Grows σ τ → Grows τ υ → Grows σ υ
  grows_trans g h = record {
    clock = λ d s. le_trans (g.clock d s) (h.clock d s);
    stable = λ d s x. le_trans (g.stable d s x) (h.stable d s x);
    seen = λ d s x. le_trans (g.seen d s x) (h.seen d s x);
    store = λ d s k. at_most_trans (g.store d s k) (h.store d s k);
    crew = λ c x. le_trans (g.crew c x) (h.crew c x);
  }

  pub rests_grows : {σ τ : State} {d : ℕ} {u : Vec} → Grows σ τ → Rests σ d u → Rests τ d u
  rests_grows {σ} {τ} {d} g r = record { depot = r.depot; seen = λ s x h o. le_trans (r.seen s x h o) (g.seen d s x); top = r.top }

  pub good_changes : {M : Write → Type 0} {σ τ : State} {w : Write} → Change M σ τ → Good σ w → Good τ w
  good_changes {w = w} c g = record {
    rests = rests_grows c.grows g.rests;
    clock = le_trans g.clock (c.grows.clock _ _);
    stands = λ d h. c.stands w d h (g.stands d h);
  }

  -- what a shelf stores rests on what its depot has seen
  pub stored_rests : {M : Write → Type 0} {σ : State} {d s : ℕ} → Sound M σ → ((w : Write) → M w → Good σ w) → d < π.depots → s < π.shelves → (k : ℕ)
      → Rests σ d ((σ.shelf d s).store k).vector
  unfolding unwritten
  stored_rests {d = d} {s = s} z good hd hs k = record {
    depot = hd;
    seen = λ r x hr o. le_trans ((z.shelf d s hd hs).covers k x o) (z.stable d s r x hd hs hr o);
    top = λ x hx. ⊎_elim (λ e. subst (λ (v : Version). v.vector x ≤ end) (sym e) (omega arith)) (λ m. (good _ m).rests.top x hx)
        ((z.shelf d s hd hs).stores k);
  }

  pub merged_rests : {σ : State} {d : ℕ} {u v : Vec} → Rests σ d u → Rests σ d v → Rests σ d (merged u v)
  unfolding merged
  merged_rests a b = record {
    depot = a.depot;
    seen = λ r x hr o. let p = a.seen r x hr o in let q = b.seen r x hr o in omega arith;
    top = λ x hx. let p = a.top x hx in let q = b.top x hx in omega arith;
  }

  -- one change after another
  pub changes : {M N : Write → Type 0} {σ τ υ : State} → Change M σ τ → Change N τ υ → Change N σ υ
  changes a b = record { sound = b.sound; grows = grows_trans a.grows b.grows; stands = λ w d h t. b.stands w d h (a.stands w d h t) }

  -- more writes made do no harm
  pub sound_more : {M N : Write → Type 0} {σ : State} → ((w : Write) → M w → N w) → Sound M σ → Sound N σ
  sound_more {M} {N} f z = record {
    shelf = λ d s hd hs. let h = z.shelf d s hd hs in record {
      covers = h.covers;
      stores = λ k. either k (h.stores k);
      taken = λ o w a m. more (h.taken o w a m);
      untaken = λ o w a m. more (h.untaken o w a m);
      top = h.top;
    };
    chain = z.chain;
    stable = z.stable;
    crews = z.crews;
  }
    where
      more : {s o : ℕ} {w : Write} → Copied M s o w → Copied N s o w
      more c = record { made = f _ c.made; origin = c.origin; shelf = c.shelf }

      either : {A : Type 0} {w : Write} (k : ℕ) → A ⊎ M w → A ⊎ N w
      either k (inl a) = inl a
      either k (inr b) = inr (f _ b)

  pub change_more : {M N : Write → Type 0} {σ τ : State} → ((w : Write) → M w → N w) → Change M σ τ → Change N σ τ
  change_more f c = record { sound = sound_more f c.sound; grows = c.grows; stands = c.stands }

  -- nothing changes
  pub change_none : {M : Write → Type 0} {σ : State} → Sound M σ → Change M σ σ
  change_none z = record { sound = z; grows = grows_refl; stands = λ w d h t. t }
