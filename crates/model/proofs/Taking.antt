-- Taking the first message of a link changes one shelf, and keeps everything: the message's stamp is next in the link's chain.
-- Assumes nothing.
use Prim.Native.Nat.{ℕ, ◌≤◌, ◌<◌}
use native.Mathlib.Omega.{arith}
use native.Mathlib.Nat.{le_refl, le_trans}
use mathlib.Core.Path.{◌≡◌, refl, sym, subst, ap}
use mathlib.Core.Logic.{◌⊎◌, inl, inr, ⊎_elim}
use mathlib.Core.List.Memᴰ
use mathlib.Core.List.{List, ◌∷◌, Memᴰ}
use Rattle.order.specs.Vector.{Vec}
use Rattle.model.specs.Parts.{Counts, Version, Write, Message, copy, heartbeat, Shelf, State, set_shelf, stamp_of}
use Rattle.model.specs.Rules.{taking, held_of}
use Rattle.model.specs.Calls.{shelf_of}
use Rattle.model.proofs.Places.{put_all, put_both, Other, set_shelf_all, set_shelf_same}
use Rattle.model.proofs.Showing.{at_most_same, at_most_trans}
use Rattle.model.proofs.Chains.{Chain, chain_next}
use Rattle.model.proofs.Invariant.{Stands, stored, held, coming, Grows, Copied, ShelfSound, Sound, Change, rests_grows}

pub held_of_from : {w : Write} (m : Message) → Memᴰ w (held_of m) → copy w ≡ m
unfolding held_of
held_of_from (copy v) i = ap copy (Memᴰ.eq_of_singleton i)
held_of_from (heartbeat t) i = absurd (Memᴰ.not-nil i)

pub held_of_has : {w : Write} (m : Message) → copy w ≡ m → Memᴰ w (held_of m)
unfolding held_of
held_of_has {w} m e = subst (λ y. Memᴰ w (held_of y)) e (Memᴰ.head refl)

module _ (π : Counts) (M : Write → Type 0) (σ : State) (z : Sound π M σ) (d s o : ℕ) (hd : d < π.depots) (hs : s < π.shelves) (a : Other π.depots d o)
    (m : Message) (l : List Message) (e : (σ.shelf d s).untaken o ≡ m ∷ l) where
  abbrev old : Shelf
  old = σ.shelf d s

  abbrev new : Shelf
  new = taking o (m ∷ l) old

  abbrev after : State
  after = set_shelf d s new σ

  -- the link's chain from its first message on
  link : (old.seen o < stamp_of m) × Chain (stamp_of m) l (σ.shelf o s).clock
  link = chain_next _ _ m l (subst (λ y. Chain (old.seen o) y (σ.shelf o s).clock) e (z.chain d s o hd hs a))

  same : {A : Type 0} (f : ℕ → Vec → (ℕ → Version) → A) (c r : ℕ)
      → f (after.shelf c r).clock (after.shelf c r).stable (after.shelf c r).store ≡ f (σ.shelf c r).clock (σ.shelf c r).stable (σ.shelf c r).store
  same f = set_shelf_same (λ g. f g.clock g.stable g.store) d s new σ (unfold taking in refl)

  take_grows : Grows π σ after
  unfolding set_shelf taking
  take_grows = record {
    clock = λ c r. le_of (same (λ c v f. c) c r);
    stable = λ c r x. le_of (same (λ c v f. v x) c r);
    seen = set_shelf_all (λ c r g. (x : ℕ) → (σ.shelf c r).seen x ≤ g.seen x) d s new σ (put_all (λ x y. old.seen x ≤ y) o (let t = link.0 in omega arith) (λ x apart. le_refl _))
        (λ c r apart x. le_refl _);
    store = λ c r k. at_most_same (sym (same (λ c v f. f k) c r));
    crew = λ c x. le_refl _;
  }
    where
      le_of : {x y : ℕ} → x ≡ y → y ≤ x
      le_of e = omega arith

  take_shelf : ShelfSound π M d s new
  unfolding taking
  take_shelf = record {
    covers = h.covers;
    stores = h.stores;
    taken = λ p w below i. put_all (λ p c. p < π.depots → Memᴰ w c → Copied π M s p w) o
        (λ below i. ⊎_elim (λ i. h.taken o w below i) (λ i. h.untaken o w a (subst (λ y. Memᴰ (copy w) y) (sym e) (Memᴰ.head (held_of_from m i))))
        (Memᴰ.append_cases (old.taken o) i))
        (λ p apart below i. h.taken p w below i) p below i;
    untaken = λ p w b i. put_all (λ p c. Other π.depots d p → Memᴰ (copy w) c → Copied π M s p w) o
        (λ b i. h.untaken o w a (subst (λ y. Memᴰ (copy w) y) (sym e) (Memᴰ.tail i)))
        (λ p apart b i. h.untaken p w b i) p b i;
    top = h.top;
  }
    where
      h : ShelfSound π M d s old
      h = z.shelf d s hd hs

  take_stands : (w : Write) (c : ℕ) → c < π.depots → Stands π σ w c → Stands π after w c
  unfolding taking
  take_stands w c hc (stored t) = stored (at_most_trans t (take_grows.store c _ _))
  take_stands w c hc (held b i) = held b (set_shelf_all (λ c r g. Memᴰ w ((σ.shelf c r).taken from) → Memᴰ w (g.taken from)) d s new σ
      (put_all (λ p y. Memᴰ w (old.taken p) → Memᴰ w y) o (Memᴰ.append_left (held_of m)) (λ p apart i. i) from)
      (λ c r apart i. i) c (shelf_of π w.bearing) i)
    where
      from : ℕ
      from = w.version.origin
  take_stands w c hc (coming b i) = ⊎_elim (held b) (coming b) (set_shelf_all
      (λ c r g. Memᴰ (copy w) ((σ.shelf c r).untaken from) → Memᴰ w (g.taken from) ⊎ Memᴰ (copy w) (g.untaken from)) d s new σ
      (put_both (λ p x y. Memᴰ (copy w) (old.untaken p) → Memᴰ w x ⊎ Memᴰ (copy w) y) o
      (λ i. ⊎_elim (λ (f : copy w ≡ m). inl (Memᴰ.append_right (old.taken o) (held_of_has m f))) (λ (j : Memᴰ (copy w) l). inr j)
      (Memᴰ.cases_cons (subst (λ y. Memᴰ (copy w) y) e i)))
      (λ p apart i. inr i) from)
      (λ c r apart i. inr i) c (shelf_of π w.bearing) i)
    where
      from : ℕ
      from = w.version.origin

  pub take_changes : Change π M σ after
  unfolding set_shelf
  take_changes = record {
    sound = record {
      shelf = λ c r hc hr. set_shelf_all (λ c r g. c < π.depots → r < π.shelves → ShelfSound π M c r g) d s new σ (λ hc hr. take_shelf) (λ c r apart hc hr. z.shelf c r hc hr) c r hc hr;
      chain = λ c r p hc hr b. subst (λ y. Chain ((after.shelf c r).seen p) ((after.shelf c r).untaken p) y) (sym (same (λ c v f. c) p r)) (chained c r p hc hr b);
      stable = λ c r q x hc hr hq b. subst (λ y. y ≤ (after.shelf c q).seen x) (sym (same (λ c v f. v x) c r)) (le_trans (z.stable c r q x hc hr hq b) (take_grows.seen c q x));
      crews = λ c hc. rests_grows π take_grows (z.crews c hc);
    };
    grows = take_grows;
    stands = take_stands;
  }
    where
      chained : (c r p : ℕ) → c < π.depots → r < π.shelves → Other π.depots c p → Chain ((after.shelf c r).seen p) ((after.shelf c r).untaken p) (σ.shelf p r).clock
      chained c r p hc hr b = set_shelf_all (λ c r g. c < π.depots → r < π.shelves → (p : ℕ) → Other π.depots c p → Chain (g.seen p) (g.untaken p) (σ.shelf p r).clock) d s new σ
          (λ hc hr. unfold taking in put_both (λ p x y. Other π.depots d p → Chain x y (σ.shelf p s).clock) o (λ b. link.1) (λ p apart b. z.chain d s p hc hr b))
          (λ c r apart hc hr p b. z.chain c r p hc hr b) c r hc hr p b
