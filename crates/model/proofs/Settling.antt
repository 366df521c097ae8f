-- Raise and show changes one shelf, and keeps everything: what is offered has been seen on every shelf of the depot.
-- Assumes nothing.
use Prim.Native.Nat.{ℕ, ◌≤◌, ◌<◌, max}
use native.Mathlib.Omega.{arith}
use native.Mathlib.Nat.{le_refl, le_trans}
use mathlib.Core.Path.{◌≡◌, refl, sym, subst, subst₃, ap, ◌∙◌}
use mathlib.Core.Logic.{◌⊎◌, inl, inr, ⊎_elim}
use mathlib.Core.Bool.{true, false}
use mathlib.Core.List.{List, Memᴰ}
use Rattle.order.specs.Vector.{Vec}
use Rattle.loops.proofs.BoolLaws.{decided, both_ways, pick_true, pick_false}
use Rattle.order.proofs.VectorLaws.{covered_at_law}
use Rattle.model.specs.Parts.{Counts, Version, Write, Message, copy, Shelf, State, set_shelf, unwritten, other}
use Rattle.model.specs.Rules.{raised, clear, shown, settled, settle}
use Rattle.model.specs.Calls.{shelf_of}
use Rattle.model.proofs.Places.{pick_all, Other, other_true, other_intro, set_shelf_all, set_shelf_same}
use Rattle.model.proofs.Showing.{AtMost, at_most_refl, at_most_trans, links_rises, links_has, links_all, left_from, left_has}
use Rattle.model.proofs.Chains.{Chain}
use Rattle.model.proofs.Invariant.{Stands, stored, held, coming, Grows, ShelfSound, Sound, Change, rests_grows}

-- the own entry stays as it is
pub raised_own : (n d : ℕ) (u v : Vec) → raised n d u v d ≡ v d
unfolding raised
raised_own n d u v = pick_all (λ y. y ≡ v d) (other n d d) (λ t. absurd ((other_true n d d t).apart refl)) (λ t. refl)

pub raised_rises : (n d : ℕ) (u v : Vec) (x : ℕ) → v x ≤ raised n d u v x
unfolding raised
raised_rises n d u v x = pick_all (λ y. v x ≤ y) (other n d x) (λ t. omega arith) (λ t. le_refl _)

pub raised_offered : (n d : ℕ) (u v : Vec) (x : ℕ) → Other n d x → u x ≤ raised n d u v x
unfolding raised
raised_offered n d u v x o = pick_all (λ y. u x ≤ y) (other n d x) (λ t. omega arith) (λ t. absurd (both_ways (other_intro o) t))

pub raised_below : (n d : ℕ) (u v : Vec) (x b : ℕ) → v x ≤ b → u x ≤ b → raised n d u v x ≤ b
unfolding raised
raised_below n d u v x b h k = pick_all (λ y. y ≤ b) (other n d x) (λ t. omega arith) (λ t. h)

module _ (n d : ℕ) (u : Vec) (h : Shelf) where
  -- the shelf's stable vector after raising
  abbrev pub up : Vec
  up = raised n d u h.stable

  pub settled_same : {A : Type 0} (f : ℕ → Vec → (ℕ → List Message) → A) → f (settled n d u h).clock (settled n d u h).seen (settled n d u h).untaken ≡ f h.clock h.seen h.untaken
  unfolding settled shown
  settled_same f = refl

  pub settled_stable : (settled n d u h).stable ≡ up
  unfolding settled shown
  settled_stable = refl

  pub settled_rises : (k : ℕ) → AtMost n (h.store k) ((settled n d u h).store k)
  unfolding settled shown
  settled_rises = links_rises n (clear n d up) _ n h.store

  -- a taken copy that is covered is stored, or a greater one
  pub settled_has : {w : Write} (o : ℕ) → o < n → Memᴰ w (h.taken o) → clear n d up w ≡ true → AtMost n w.version ((settled n d u h).store w.bearing)
  unfolding settled shown
  settled_has o below m t = links_has n (clear n d up) h.taken n h.store o below m t

  -- nothing is stored but what was, and taken copies that are covered
  pub settled_all_law : (Q : ℕ → Version → Type 0) → ((k : ℕ) → Q k (h.store k)) → ((o : ℕ) → o < n → (w : Write) → Memᴰ w (h.taken o) → clear n d up w ≡ true → Q w.bearing w.version)
      → (k : ℕ) → Q k ((settled n d u h).store k)
  unfolding settled shown
  settled_all_law Q old new = links_all n (clear n d up) Q h.taken n h.store old new

  -- a copy stays on its link exactly where it is not covered
  pub settled_left : {w : Write} (o : ℕ) → Memᴰ w ((settled n d u h).taken o) → Memᴰ w (h.taken o) × (clear n d up w ≡ false)
  unfolding settled shown
  settled_left o = left_from (clear n d up) (h.taken o)

  pub settled_stays : {w : Write} (o : ℕ) → Memᴰ w (h.taken o) → clear n d up w ≡ false → Memᴰ w ((settled n d u h).taken o)
  unfolding settled shown
  settled_stays o = left_has (clear n d up) (h.taken o)

-- two vectors that raise alike settle alike
pub settled_alike : (n d : ℕ) (u v : Vec) (h : Shelf) → ((x : ℕ) → Other n d x → max (h.stable x) (u x) ≡ max (h.stable x) (v x)) → settled n d u h ≡ settled n d v h
unfolding settled raised
settled_alike n d u v h e = ap (λ (s : Vec). shown n d (record { clock = h.clock; stable = s; seen = h.seen; store = h.store; taken = h.taken; untaken = h.untaken })) (λ i x. same x i)
  where
    same : (x : ℕ) → raised n d u h.stable x ≡ raised n d v h.stable x
    same x = ⊎_elim
        (λ (t : other n d x ≡ true). pick_true _ _ t ∙ e x (other_true n d x t) ∙ sym (pick_true _ _ t))
        (λ (t : other n d x ≡ false). pick_false _ _ t ∙ sym (pick_false _ _ t))
        (decided (other n d x))

module _ (π : Counts) (M : Write → Type 0) (σ : State) (z : Sound π M σ) (d s : ℕ) (hd : d < π.depots) (hs : s < π.shelves) (u : Vec)
    (offered : (r x : ℕ) → r < π.shelves → Other π.depots d x → u x ≤ (σ.shelf d r).seen x) where
  -- the shelf before, the shelf after, and the state after
  abbrev old : Shelf
  old = σ.shelf d s

  abbrev new : Shelf
  new = settled π.depots d u old

  abbrev after : State
  after = set_shelf d s new σ

  same : {A : Type 0} (f : ℕ → Vec → (ℕ → List Message) → A) (e r : ℕ)
      → f (after.shelf e r).clock (after.shelf e r).seen (after.shelf e r).untaken ≡ f (σ.shelf e r).clock (σ.shelf e r).seen (σ.shelf e r).untaken
  same f = set_shelf_same (λ g. f g.clock g.seen g.untaken) d s new σ (settled_same π.depots d u old f)

  settle_grows : Grows π σ after
  unfolding set_shelf
  settle_grows = record {
    clock = λ e r. le_of (same (λ c v l. c) e r);
    stable = set_shelf_all (λ e r g. (x : ℕ) → (σ.shelf e r).stable x ≤ g.stable x) d s new σ
        (λ x. subst (λ (v : Vec). old.stable x ≤ v x) (sym (settled_stable π.depots d u old)) (raised_rises π.depots d u old.stable x)) (λ e r apart x. le_refl _);
    seen = λ e r x. le_of (same (λ c v l. v x) e r);
    store = set_shelf_all (λ e r g. (k : ℕ) → AtMost π.depots ((σ.shelf e r).store k) (g.store k)) d s new σ
        (settled_rises π.depots d u old) (λ e r apart k. at_most_refl);
    crew = λ c x. le_refl _;
  }
    where
      le_of : {a b : ℕ} → a ≡ b → b ≤ a
      le_of e = omega arith

  settle_shelf : ShelfSound π M d s new
  unfolding settled shown
  settle_shelf = record {
    covers = λ k x o. settled_all_law π.depots d u old (λ k v. v.vector x ≤ new.stable x)
        (λ k. le_trans (h.covers k x o) (raised_rises π.depots d u old.stable x))
        (λ p below w m t. unfold clear in covered_at_law π.depots d _ _ t x o.below o.apart) k;
    stores = settled_all_law π.depots d u old (λ k v. (v ≡ unwritten) ⊎ M (record { bearing = k; version = v })) h.stores
        (λ o below w m t. inr (h.taken o w below m).made);
    taken = λ o w a m. h.taken o w a (settled_left π.depots d u old o m).0;
    untaken = h.untaken;
    top = h.top;
  }
    where
      h : ShelfSound π M d s old
      h = z.shelf d s hd hs

  settle_stands : (w : Write) (e : ℕ) → e < π.depots → Stands π σ w e → Stands π after w e
  settle_stands w e he (stored t) = stored (at_most_trans t (settle_grows.store e _ _))
  settle_stands w e he (held o m) = ⊎_elim stored (held o) (set_shelf_all
      (λ e r g. Memᴰ w ((σ.shelf e r).taken from) → AtMost π.depots w.version (g.store w.bearing) ⊎ Memᴰ w (g.taken from)) d s new σ
      (λ m. ⊎_elim (λ t. inl (settled_has π.depots d u old from o.below m t)) (λ t. inr (settled_stays π.depots d u old from m t))
      (decided (clear π.depots d (up π.depots d u old) w)))
      (λ e r apart m. inr m) e (shelf_of π w.bearing) m)
    where
      from : ℕ
      from = w.version.origin
  settle_stands w e he (coming o m) = coming o (subst (λ l. Memᴰ (copy w) l) (sym (same (λ c v l. l w.version.origin) e _)) m)

  pub settle_changes : Change π M σ (settle π d s u σ)
  unfolding settle set_shelf
  settle_changes = record {
    sound = record {
      shelf = λ e r he hr. set_shelf_all (λ e r g. e < π.depots → r < π.shelves → ShelfSound π M e r g) d s new σ (λ he hr. settle_shelf) (λ e r apart he hr. z.shelf e r he hr) e r he hr;
      chain = λ e r o he hr a. subst₃ Chain (sym (same (λ c v l. v o) e r)) (sym (same (λ c v l. l o) e r)) (sym (same (λ c v l. c) o r)) (z.chain e r o he hr a);
      stable = λ e r q x he hr hq a. subst (λ y. (after.shelf e r).stable x ≤ y) (sym (same (λ c v l. v x) e q)) (below e r q x he hr hq a);
      crews = λ c hc. rests_grows π settle_grows (z.crews c hc);
    };
    grows = settle_grows;
    stands = settle_stands;
  }
    where
      below : (e r q x : ℕ) → e < π.depots → r < π.shelves → q < π.shelves → Other π.depots e x → (after.shelf e r).stable x ≤ (σ.shelf e q).seen x
      below e r q x he hr hq a = set_shelf_all (λ e r g. e < π.depots → r < π.shelves → Other π.depots e x → g.stable x ≤ (σ.shelf e q).seen x) d s new σ
          (λ he hr a. subst (λ (v : Vec). v x ≤ (σ.shelf d q).seen x) (sym (settled_stable π.depots d u old))
          (raised_below π.depots d u old.stable x _ (z.stable d s q x hd hs hq a) (offered q x hq a)))
          (λ e r apart he hr a. z.stable e r q x he hr hq a) e r he hr a
