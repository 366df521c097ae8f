-- Sending moves one clock on and puts a message with the new clock for its stamp on every link out: each of these links' chains grows by one.
-- Assumes nothing.
use Prim.Native.Nat.{ℕ, suc, ◌≤◌, ◌<◌}
use native.Mathlib.Omega.{arith}
use native.Mathlib.Nat.{le_refl, le_trans}
use mathlib.Core.Path.{◌≡◌, refl, sym, subst, subst₂, ap, ◌∙◌}
use mathlib.Core.Logic.{⊎_elim}
use mathlib.Core.List.Memᴰ
use mathlib.Core.List.{List, [], ◌∷◌, ◌++◌, Memᴰ}
use Rattle.order.specs.Vector.{Vec}
use Rattle.model.specs.Parts.{Counts, Version, Write, Message, copy, Shelf, State, set_shelf, stamp_of, end}
use Rattle.model.specs.Rules.{ticked, receiving, emit, send}
use Rattle.model.specs.Calls.{shelf_of}
use Rattle.model.proofs.Places.{put_all, put_same, Other, set_shelf_all, set_shelf_same, set_shelf_here, emit_all, emit_same}
use Rattle.model.proofs.Showing.{at_most_same, at_most_trans}
use Rattle.model.proofs.Chains.{Chain, chain_last}
use Rattle.model.proofs.Invariant.{Stands, stored, held, coming, Grows, Copied, ShelfSound, Sound, Change, rests_grows}

module _ (π : Counts) (σ : State) (d s : ℕ) (m : Message) where
  -- the shelf, the state after the clock has moved on, and the state after the message is sent
  abbrev old : Shelf
  old = σ.shelf d s

  abbrev mid : State
  mid = set_shelf d s (ticked old) σ

  abbrev after : State
  after = emit π d s m mid

  mid_same : {A : Type 0} (f : Vec → Vec → (ℕ → Version) → (ℕ → List Write) → (ℕ → List Message) → A) (e r : ℕ)
      → f (mid.shelf e r).stable (mid.shelf e r).seen (mid.shelf e r).store (mid.shelf e r).taken (mid.shelf e r).untaken
      ≡ f (σ.shelf e r).stable (σ.shelf e r).seen (σ.shelf e r).store (σ.shelf e r).taken (σ.shelf e r).untaken
  mid_same f = set_shelf_same (λ g. f g.stable g.seen g.store g.taken g.untaken) d s (ticked old) σ (unfold ticked in refl)

  pub send_same : {A : Type 0} (f : Vec → Vec → (ℕ → Version) → (ℕ → List Write) → A) (e r : ℕ)
      → f (after.shelf e r).stable (after.shelf e r).seen (after.shelf e r).store (after.shelf e r).taken ≡ f (σ.shelf e r).stable (σ.shelf e r).seen (σ.shelf e r).store
      (σ.shelf e r).taken
  send_same f e r = emit_same π (λ g. f g.stable g.seen g.store g.taken) d s m mid (λ h. unfold receiving in refl) e r ∙ mid_same (λ v u k t l. f v u k t) e r

  send_clock : (e r : ℕ) → (after.shelf e r).clock ≡ (mid.shelf e r).clock
  send_clock = emit_same π (λ g. g.clock) d s m mid (λ h. unfold receiving in refl)

  pub clock_here : (after.shelf d s).clock ≡ suc old.clock
  unfolding ticked
  clock_here = send_clock d s ∙ ap (λ (g : Shelf). g.clock) (set_shelf_here d s (ticked old) σ)

  pub clock_there : (e r : ℕ) → ((e ≡ d) × (r ≡ s) → ⊥) → (after.shelf e r).clock ≡ (σ.shelf e r).clock
  clock_there e r apart = send_clock e r ∙ set_shelf_all (λ e r g. ((e ≡ d) × (r ≡ s) → ⊥) → g.clock ≡ (σ.shelf e r).clock) d s (ticked old) σ (λ n. absurd (n (refl, refl)))
      (λ e r n n'. refl) e r apart

  -- the message stands on every link out
  pub send_comes : (e : ℕ) → Other π.depots d e → Memᴰ m ((after.shelf e s).untaken d)
  unfolding receiving
  send_comes e o = emit_all π (λ e r g. Other π.depots d e → r ≡ s → Memᴰ m (g.untaken d)) d s m mid
      (λ e o o' same. rw put_same (Memᴰ.append_right ((mid.shelf e s).untaken d) (Memᴰ.head refl)))
      (λ e r apart o same. absurd (apart o same)) e s o refl

  -- and no other link has moved
  pub send_there : (e r o : ℕ) → ((o ≡ d) × (r ≡ s) → ⊥) → (after.shelf e r).untaken o ≡ (σ.shelf e r).untaken o
  unfolding receiving
  send_there e r o apart = emit_all π (λ e r g. ((o ≡ d) × (r ≡ s) → ⊥) → g.untaken o ≡ (mid.shelf e r).untaken o) d s m mid
      (λ e a n. put_all (λ o l. ((o ≡ d) × (s ≡ s) → ⊥) → l ≡ (mid.shelf e s).untaken o) d (λ n. absurd (n (refl, refl))) (λ o apart n. refl) o n)
      (λ e r apart n. refl) e r apart
      ∙ mid_same (λ v u k t l. l o) e r

  module _ (M : Write → Type 0) (z : Sound π M σ) (hd : d < π.depots) (hs : s < π.shelves) (stamped : stamp_of m ≡ suc (σ.shelf d s).clock) (below : (σ.shelf d s).clock < end)
      (copies : (w : Write) → copy w ≡ m → Copied π M s d w) where
    send_grows : Grows π σ after
    unfolding set_shelf emit
    send_grows = record {
      clock = λ e r. le_trans (set_shelf_all (λ e r g. (σ.shelf e r).clock ≤ g.clock) d s (ticked old) σ (unfold ticked in omega arith) (λ e r apart. le_refl _) e r) (le_of (send_clock e r));
      stable = λ e r x. le_of (send_same (λ v u k t. v x) e r);
      seen = λ e r x. le_of (send_same (λ v u k t. u x) e r);
      store = λ e r j. at_most_same (sym (send_same (λ v u k t. k j) e r));
      crew = λ c x. le_refl _;
    }
      where
        le_of : {x y : ℕ} → x ≡ y → y ≤ x
        le_of e = omega arith

    send_shelf : (e r : ℕ) → e < π.depots → r < π.shelves → ShelfSound π M e r (after.shelf e r)
    unfolding receiving
    send_shelf = emit_all π (λ e r g. e < π.depots → r < π.shelves → ShelfSound π M e r g) d s m mid
        (λ e o he hr. let h = first e s he hr in record {
          covers = h.covers;
          stores = h.stores;
          taken = h.taken;
          untaken = λ p w a i. put_all (λ p l. Other π.depots e p → Memᴰ (copy w) l → Copied π M s p w) d
              (λ a i. ⊎_elim (λ i. h.untaken d w a i) (λ i. copies w (Memᴰ.eq_of_singleton i)) (Memᴰ.append_cases ((mid.shelf e s).untaken d) i))
              (λ p apart a i. h.untaken p w a i) p a i;
          top = h.top;
        })
        (λ e r apart he hr. first e r he hr)
      where
        first : (e r : ℕ) → e < π.depots → r < π.shelves → ShelfSound π M e r (mid.shelf e r)
        first = set_shelf_all (λ e r g. e < π.depots → r < π.shelves → ShelfSound π M e r g) d s (ticked old) σ
            (λ he hr. unfold ticked in let h = z.shelf d s hd hs in record { covers = h.covers; stores = h.stores; taken = h.taken; untaken = h.untaken; top = below })
            (λ e r apart he hr. z.shelf e r he hr)

    send_stands : (w : Write) (e : ℕ) → e < π.depots → Stands π σ w e → Stands π after w e
    send_stands w e he (stored t) = stored (at_most_trans t (send_grows.store e _ _))
    send_stands w e he (held o i) = held o (subst (λ l. Memᴰ w l) (sym (send_same (λ v u k t. t w.version.origin) e _)) i)
    send_stands w e he (coming o i) = coming o (emit_all π (λ e r g. Memᴰ (copy w) ((mid.shelf e r).untaken from) → Memᴰ (copy w) (g.untaken from)) d s m mid
        (λ e a. unfold receiving in put_all (λ p l. Memᴰ (copy w) ((mid.shelf e s).untaken p) → Memᴰ (copy w) l) d (Memᴰ.append_left (m ∷ [])) (λ p apart i. i) from)
        (λ e r apart i. i) e (shelf_of π w.bearing) (subst (λ l. Memᴰ (copy w) l) (sym (mid_same (λ v u k t l. l from) e _)) i))
      where
        from : ℕ
        from = w.version.origin

    send_chain : (e r o : ℕ) → e < π.depots → r < π.shelves → Other π.depots e o → Chain ((after.shelf e r).seen o) ((after.shelf e r).untaken o) (after.shelf o r).clock
    unfolding receiving
    send_chain e r o he hr a = emit_all π (λ e r g. e < π.depots → r < π.shelves → (o : ℕ) → Other π.depots e o → Chain (g.seen o) (g.untaken o) (after.shelf o r).clock) d s m mid
        (λ e b he hr. put_all (λ o l. Other π.depots e o → Chain ((mid.shelf e s).seen o) l (after.shelf o s).clock) d
        (λ a. subst (λ y. Chain ((mid.shelf e s).seen d) ((mid.shelf e s).untaken d ++ (m ∷ [])) y) (stamped ∙ sym clock_here) (chain_last _ old.clock m _ (was e s d he hr a) (omega arith)))
        (λ o apart a. subst (λ y. Chain ((mid.shelf e s).seen o) ((mid.shelf e s).untaken o) y) (sym (clock_there o s (λ n. apart n.0))) (was e s o he hr a)))
        (λ e r apart he hr o a. subst (λ y. Chain ((mid.shelf e r).seen o) ((mid.shelf e r).untaken o) y)
        (sym (clock_there o r (λ n. apart (record { below = he; apart = λ f. a.apart (n.0 ∙ sym f) }) n.1))) (was e r o he hr a))
        e r he hr o a
      where
        was : (e r o : ℕ) → e < π.depots → r < π.shelves → Other π.depots e o → Chain ((mid.shelf e r).seen o) ((mid.shelf e r).untaken o) (σ.shelf o r).clock
        was e r o he hr a = subst₂ (λ x y. Chain x y (σ.shelf o r).clock) (sym (mid_same (λ v u k t l. u o) e r)) (sym (mid_same (λ v u k t l. l o) e r)) (z.chain e r o he hr a)

    pub send_changes : Change π M σ (send π d s m σ)
    unfolding set_shelf emit send
    send_changes = record {
      sound = record {
        shelf = send_shelf;
        chain = send_chain;
        stable = λ e r q x he hr hq a. le_trans (le_of (send_same (λ v u k t. v x) e r)) (le_trans (z.stable e r q x he hr hq a) (send_grows.seen e q x));
        crews = λ c hc. rests_grows π send_grows (z.crews c hc);
      };
      grows = send_grows;
      stands = send_stands;
    }
      where
        le_of : {x y : ℕ} → x ≡ y → x ≤ y
        le_of e = omega arith
