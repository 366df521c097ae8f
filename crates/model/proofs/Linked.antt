-- On every link the copies put on it are those taken, of which it holds the ones not yet covered, and then those not yet taken.
-- Assumes nothing.
use Prim.Native.Nat.{ℕ, suc, ◌+◌, ◌≤◌, ◌<◌}
use native.Mathlib.Omega.{arith}
use native.Mathlib.Nat.{le_trans}
use mathlib.Core.Path.{◌≡◌, refl, sym, subst, ap, ◌∙◌}
use mathlib.Core.Logic.{⊎_elim}
use mathlib.Core.Bool.{Bool, true, false, ◌&&◌}
use mathlib.Core.List.{List, [], ◌∷◌, ◌++◌, append-nil, append_assoc, Memᴰ}
use lib.Dec.{eqb}
use lib.ListN.{length}
use borrow.Author.Tests.{eqb-true, eq-eqb, ne_eqb}
use Rattle.loops.specs.Loops.{pick}
use Rattle.order.specs.Vector.{Vec}
use Rattle.loops.proofs.LoopLaws.{times_keeps}
use Rattle.loops.proofs.BoolLaws.{eq_or_ne, decided, failed, and_left, and_right, and_intro, pick_true, pick_false}
use Rattle.order.proofs.VectorLaws.{covered_at_law, covered_intro}
use Rattle.model.specs.Parts.{Counts, Write, Message, copy, heartbeat, Shelf, State, stamp, stamp_of, fresh, empty_shelf, set_shelf, set_crew, set_home}
use Rattle.model.specs.Rules.{clear, left, shown, settled, settle, storing, keep, ticked, receiving, send, held_of, copies, taking}
use Rattle.paper.specs.Calls.{Call, read, write, tick, take, refresh, move, list}
use Rattle.model.specs.Calls.{shelf_of, home_shelf, made, refusal, reading, paged, listing, acted}
use Rattle.model.specs.System.{after, run}
use Rattle.model.specs.Links.{passing}
use Rattle.model.proofs.Places.{put_all, put_both, Other, set_shelf_all, emit_all}
use Rattle.model.proofs.Chains.{Chain, chain_next}
use Rattle.model.proofs.Invariant.{Copied, Sound}
use Rattle.model.proofs.Settling.{raised_rises}
use Rattle.model.proofs.Taking.{held_of_from}
use Rattle.model.proofs.Refusals.{SetUp, take_passed, TakePassed}
use Rattle.model.proofs.Histories.{run_done, run_refused, inv}

-- laws of the copies that stay, and of those that pass
pub left_both : (f : Write → Bool) (a b : List Write) → left f (a ++ b) ≡ left f a ++ left f b
unfolding left pick
left_both f [] b = refl
left_both f (w ∷ a) b = ⊎_elim (λ (e : f w ≡ true). rw e (left_both f a b)) (λ (e : f w ≡ false). rw e (ap (λ l. w ∷ l) (left_both f a b))) (decided (f w))

pub left_none : (f : Write → Bool) (l : List Write) → ((w : Write) → Memᴰ w l → f w ≡ false) → left f l ≡ l
unfolding left pick
left_none f [] h = refl
left_none f (w ∷ l) h = rw (h w (Memᴰ.head refl)) (ap (λ l. w ∷ l) (left_none f l (λ v m. h v (Memᴰ.tail m))))

left_again : (f g : Write → Bool) → ((w : Write) → f w ≡ true → g w ≡ true) → (l : List Write) → left g (left f l) ≡ left g l
unfolding left pick
left_again f g more [] = refl
left_again f g more (w ∷ l) = ⊎_elim
    (λ (e : f w ≡ true). rw (e, more w e) (left_again f g more l))
    (λ (e : f w ≡ false). rw e (ap (λ r. pick (g w) r (w ∷ r)) (left_again f g more l)))
    (decided (f w))

pub passing_both : (f : Write → Bool) (a b : List Write) → passing f (a ++ b) ≡ passing f a ++ passing f b
unfolding passing pick
passing_both f [] b = refl
passing_both f (w ∷ a) b = ⊎_elim (λ (e : f w ≡ true). rw e (ap (λ l. w ∷ l) (passing_both f a b))) (λ (e : f w ≡ false). rw e (passing_both f a b)) (decided (f w))

pub passing_none : (f : Write → Bool) (l : List Write) → ((w : Write) → Memᴰ w l → f w ≡ false) → passing f l ≡ []
unfolding passing pick
passing_none f [] h = refl
passing_none f (w ∷ l) h = rw (h w (Memᴰ.head refl)) (passing_none f l (λ v m. h v (Memᴰ.tail m)))

pub passing_counts : (f : Write → Bool) (l : List Write) → length l ≡ length (passing f l) + length (left f l)
unfolding left passing pick
passing_counts f [] = refl
passing_counts f (w ∷ l) = let t = passing_counts f l in ⊎_elim (λ (e : f w ≡ true). rw e (omega arith)) (λ (e : f w ≡ false). rw e (omega arith)) (decided (f w))

pub copies_both : (a b : List Message) → copies (a ++ b) ≡ copies a ++ copies b
unfolding copies
copies_both [] b = refl
copies_both (m ∷ a) b = ap (λ l. held_of m ++ l) (copies_both a b) ∙ sym (append_assoc (held_of m) (copies a) (copies b))

copies_one : (m : Message) → copies (m ∷ []) ≡ held_of m
unfolding copies
copies_one m = append-nil (held_of m)

-- what a call that is done puts on every link out of shelf s of depot o: a write by a crew whose home is o, to a bearing of shelf s
unfoldable pub puts : Counts → State → Call → ℕ → ℕ → List Write
puts π σ (read c k) o s = []
puts π σ (write c k p) o s = pick (eqb o (σ.home c) && eqb s (shelf_of π k)) (record { bearing = k; version = made π c k p σ } ∷ []) []
puts π σ (tick d r) o s = []
puts π σ (take d r p) o s = []
puts π σ (refresh d r) o s = []
puts π σ (move c d) o s = []
puts π σ (list c ks) o s = []

-- what was put on them since setup, oldest first
unfoldable pub put_in : Counts → List ℕ → List Call → ℕ → ℕ → List Write
put_in π homes [] o s = []
put_in π homes (q ∷ h) o s = put_in π homes h o s ++ pick (eqb (refusal π (run π homes h) q) 0) (puts π (run π homes h) q o s) []

-- one link at depot d of n: the copies l were put on it; v is the far shelf's stable vector
pub record Linked (n d : ℕ) (l : List Write) (v : Vec) (held : List Write) (coming : List Message) : Type 0 where
  pub taken : List Write
  pub whole : l ≡ taken ++ copies coming
  pub keeps : held ≡ left (clear n d v) taken

module _ (n d : ℕ) where
  raised_linked : {l : List Write} {v : Vec} {held : List Write} {coming : List Message} (u : Vec) → ((x : ℕ) → v x ≤ u x) → Linked n d l v held coming
      → Linked n d l u (left (clear n d u) held) coming
  unfolding clear
  raised_linked {v = v} u up t = record {
    taken = t.taken;
    whole = t.whole;
    keeps = ap (left (clear n d u)) t.keeps ∙ left_again (clear n d v) (clear n d u) (λ w e. covered_intro n d _ _ (λ x hx apart. le_trans (covered_at_law n d _ _ e x hx apart) (up x))) t.taken;
  }

  sent_linked : {l : List Write} {v : Vec} {held : List Write} {coming : List Message} (m : Message) → Linked n d l v held coming → Linked n d (l ++ held_of m) v held (coming ++ (m ∷ []))
  sent_linked {coming = coming} m t = record {
    taken = t.taken;
    whole = ap (λ l. l ++ held_of m) t.whole ∙ append_assoc t.taken (copies coming) (held_of m)
        ∙ ap (λ l. t.taken ++ l) (ap (λ l. copies coming ++ l) (sym (copies_one m)) ∙ sym (copies_both coming (m ∷ [])));
    keeps = t.keeps;
  }

  took_linked : {l : List Write} {v : Vec} {held : List Write} {coming : List Message} (m : Message) → ((w : Write) → Memᴰ w (held_of m) → clear n d v w ≡ false)
      → Linked n d l v held (m ∷ coming) → Linked n d l v (held ++ held_of m) coming
  unfolding copies
  took_linked {v = v} {coming = coming} m hidden t = record {
    taken = t.taken ++ held_of m;
    whole = t.whole ∙ sym (append_assoc t.taken (held_of m) (copies coming));
    keeps = ap (λ l. l ++ held_of m) t.keeps ∙ ap (λ l. left (clear n d v) t.taken ++ l) (sym (left_none (clear n d v) (held_of m) hidden))
        ∙ sym (left_both (clear n d v) t.taken (held_of m));
  }

module _ (π : Counts) where
  -- the link from depot o of the shelf h of depot d
  abbrev LinkOf : List Write → ℕ → Shelf → ℕ → Type 0
  LinkOf l d h o = Linked π.depots d l h.stable (h.taken o) (h.untaken o)

  -- every link, S o s being what was put on those out of shelf s of depot o
  abbrev AllLinked : (ℕ → ℕ → List Write) → State → Type 0
  AllLinked S σ = (d s : ℕ) → d < π.depots → s < π.shelves → (o : ℕ) → Other π.depots d o → LinkOf (S o s) d (σ.shelf d s) o

  module _ (S : ℕ → ℕ → List Write) (σ : State) (t : AllLinked S σ) where
    -- one shelf put anew
    set_linked : (d s : ℕ) (h : Shelf) → (d < π.depots → s < π.shelves → (o : ℕ) → Other π.depots d o → LinkOf (S o s) d h o) → AllLinked S (set_shelf d s h σ)
    set_linked d s h new = set_shelf_all (λ e r g. e < π.depots → r < π.shelves → (o : ℕ) → Other π.depots e o → LinkOf (S o r) e g o) d s h σ new (λ e r apart. t e r)

    settle_linked : (d s : ℕ) (u : Vec) → AllLinked S (settle π d s u σ)
    unfolding settle settled shown
    settle_linked d s u = set_linked d s _ (λ hd hs o a. raised_linked π.depots d _ (raised_rises π.depots d u (σ.shelf d s).stable) (t d s hd hs o a))

    keep_linked : (d s : ℕ) (w : Write) → AllLinked S (keep π d s w σ)
    unfolding keep storing
    keep_linked d s w = set_linked d s _ (t d s)

    tick_linked : (d s : ℕ) → AllLinked S (set_shelf d s (ticked (σ.shelf d s)) σ)
    unfolding ticked
    tick_linked d s = set_linked d s _ (t d s)

  send_linked : (S : ℕ → ℕ → List Write) (σ : State) → AllLinked S σ → (d s : ℕ) (m : Message) → AllLinked (λ o r. S o r ++ pick (eqb o d && eqb r s) (held_of m) []) (send π d s m σ)
  unfolding send receiving
  send_linked S σ t d s m = emit_all π (λ e r g. e < π.depots → r < π.shelves → (o : ℕ) → Other π.depots e o → LinkOf (S o r ++ pick (eqb o d && eqb r s) (held_of m) []) e g o) d s m mid
      (λ e a he hr o b. put_all (λ o (y : List Message). Other π.depots e o → Linked π.depots e (S o s ++ pick (eqb o d && eqb s s) (held_of m) []) (mid.shelf e s).stable ((mid.shelf e s).taken o) y) d
      (λ b. subst (λ l. Linked π.depots e (S d s ++ l) (mid.shelf e s).stable ((mid.shelf e s).taken d) ((mid.shelf e s).untaken d ++ (m ∷ [])))
      (sym (pick_true _ _ (and_intro (eq-eqb d d refl) (eq-eqb s s refl)))) (sent_linked π.depots e m (was e s he hr d b)))
      (λ o apart b. same o s (λ c. apart c.0) (was e s he hr o b)) o b)
      (λ e r apart he hr o b. same o r (λ c. apart (record { below = he; apart = λ f. b.apart (c.0 ∙ sym f) }) c.1) (was e r he hr o b))
    where
      mid : State
      mid = set_shelf d s (ticked (σ.shelf d s)) σ

      was : AllLinked S mid
      was = tick_linked S σ t d s

      same : {e : ℕ} {v : Vec} {x : List Write} {y : List Message} (o r : ℕ) → ((o ≡ d) × (r ≡ s) → ⊥) → Linked π.depots e (S o r) v x y
          → Linked π.depots e (S o r ++ pick (eqb o d && eqb r s) (held_of m) []) v x y
      same {e} {v} {x} {y} o r apart b = subst (λ l. Linked π.depots e l v x y) (sym (ap (λ l. S o r ++ l) (pick_false _ _ (failed _ (λ h.
          apart (eqb-true o d (and_left (eqb o d) (eqb r s) h), eqb-true r s (and_right (eqb o d) (eqb r s) h))))) ∙ append-nil (S o r))) b

  -- a copy that is coming is not covered
  pub coming_hidden : (M : Write → Type 0) (σ : State) → Sound π M σ → (d s o : ℕ) → d < π.depots → s < π.shelves → Other π.depots d o → (w : Write)
      → w.version.origin ≡ o → (σ.shelf d s).seen o < stamp w.version → clear π.depots d (σ.shelf d s).stable w ≡ false
  unfolding clear
  coming_hidden M σ z d s o hd hs a w from late = failed _ (λ e.
      let low : w.version.vector o ≤ (σ.shelf d s).stable o = covered_at_law π.depots d _ _ e o a.below a.apart in
      let seen : (σ.shelf d s).stable o ≤ (σ.shelf d s).seen o = z.stable d s s o hd hs hs a in
      let new : (σ.shelf d s).seen o < w.version.vector o = subst (λ y. (σ.shelf d s).seen o < w.version.vector y) from late in
      omega arith)

  -- so it is held when it is taken
  take_linked : (M : Write → Type 0) (S : ℕ → ℕ → List Write) (σ : State) → Sound π M σ → AllLinked S σ → (d s o : ℕ) → TakePassed π σ d s o
      → AllLinked S (set_shelf d s (taking o ((σ.shelf d s).untaken o) (σ.shelf d s)) σ)
  take_linked M S σ z t d s o p = go ((σ.shelf d s).untaken o) refl
    where
      go : (l : List Message) → (σ.shelf d s).untaken o ≡ l → AllLinked S (set_shelf d s (taking o l (σ.shelf d s)) σ)
      go [] e = unfold taking in set_linked S σ t d s _ (t d s)
      go (m ∷ l) e = unfold taking in set_linked S σ t d s _ (λ hd hs. put_both (λ q (x : List Write) (y : List Message). Other π.depots d q → Linked π.depots d (S q s) (σ.shelf d s).stable x y) o
          (λ a. took_linked π.depots d m (λ w i. coming_hidden M σ z d s o hd hs a w (copied w i a).origin (later hd hs a w i))
          (subst (λ y. Linked π.depots d (S o s) (σ.shelf d s).stable ((σ.shelf d s).taken o) y) e (t d s hd hs o a)))
          (λ q apart a. t d s hd hs q a))
        where
          copied : (w : Write) → Memᴰ w (held_of m) → Other π.depots d o → Copied π M s o w
          copied w i a = (z.shelf d s p.depot p.shelf).untaken o w a (subst (λ y. Memᴰ (copy w) y) (sym e) (Memᴰ.head (held_of_from m i)))

          later : d < π.depots → s < π.shelves → Other π.depots d o → (w : Write) → Memᴰ w (held_of m) → (σ.shelf d s).seen o < stamp w.version
          later hd hs a w i = unfold stamp_of in subst (λ y. (σ.shelf d s).seen o < stamp_of y) (sym (held_of_from m i))
              (chain_next _ _ m l (subst (λ y. Chain ((σ.shelf d s).seen o) y (σ.shelf o s).clock) e (z.chain d s o hd hs a))).0

  -- a call that puts nothing on a link
  no_more : (S : ℕ → ℕ → List Write) (σ : State) → AllLinked S σ → AllLinked (λ o s. S o s ++ []) σ
  no_more S σ t d s hd hs o a = subst (λ l. LinkOf l d (σ.shelf d s) o) (sym (append-nil (S o s))) (t d s hd hs o a)

  acted_linked : (M : Write → Type 0) (S : ℕ → ℕ → List Write) (σ : State) (q : Call) → Sound π M σ → refusal π σ q ≡ 0 → AllLinked S σ → AllLinked (λ o s. S o s ++ puts π σ q o s) (acted π σ q).state
  unfolding acted reading home_shelf settle set_crew set_home listing paged puts held_of pick
  acted_linked M S σ (read c k) z e t = no_more S (acted π σ (read c k)).state (settle_linked S σ t _ _ _)
  acted_linked M S σ (write c k v) z e t = send_linked S _ (keep_linked S (set_crew c _ (settle π (σ.home c) (shelf_of π k) (σ.crew c) σ)) (settle_linked S σ t _ _ _) _ _ _) _ _ _
  acted_linked M S σ (tick d s) z e t = λ e r he hr o a. subst (λ l. LinkOf (S o r ++ l) e ((acted π σ (tick d s)).state.shelf e r) o) (none (eqb o d && eqb r s)) (send_linked S σ t d s (heartbeat (suc (σ.shelf d s).clock)) e r he hr o a)
    where
      none : (b : Bool) → ◌≡◌ {A = List Write} (pick b [] []) []
      none true = refl
      none false = refl
  acted_linked M S σ (take d s o) z e t = no_more S (acted π σ (take d s o)).state (take_linked M S σ z t d s o (take_passed π σ d s o e))
  acted_linked M S σ (refresh d s) z e t = no_more S (acted π σ (refresh d s)).state (settle_linked S σ t d s _)
  acted_linked M S σ (move c d) z e t = no_more S σ t
  acted_linked M S σ (list c l) z e t = no_more S (acted π σ (list c l)).state (times_keeps (AllLinked S) π.shelves _ σ (λ i τ hi g. settle_linked S τ g _ _ _) t)

  module _ (homes : List ℕ) (u : SetUp π homes) where
    pub history_linked : (h : List Call) → AllLinked (put_in π homes h) (run π homes h)
    unfolding after fresh empty_shelf put_in
    history_linked [] = λ d s hd hs o a. record { taken = []; whole = unfold copies in refl; keeps = unfold left in refl }
    history_linked (q ∷ h) = go (history_linked h)
      where
        go : AllLinked (put_in π homes h) (run π homes h) → AllLinked (put_in π homes (q ∷ h)) (run π homes (q ∷ h))
        go t = ⊎_elim
            (λ (e : refusal π (run π homes h) q ≡ 0). subst (AllLinked (put_in π homes (q ∷ h))) (sym (run_done π homes h q e))
            (λ d s hd hs o a. subst (λ l. LinkOf (put_in π homes h o s ++ l) d ((acted π (run π homes h) q).state.shelf d s) o) (sym (pick_true _ _ (eq-eqb _ _ e)))
            (acted_linked _ (put_in π homes h) (run π homes h) q (inv π homes u h).sound e t d s hd hs o a)))
            (λ (e : refusal π (run π homes h) q ≡ 0 → ⊥). subst (AllLinked (put_in π homes (q ∷ h))) (sym (run_refused π homes h q e))
            (λ d s hd hs o a. subst (λ l. LinkOf (put_in π homes h o s ++ l) d ((run π homes h).shelf d s) o) (sym (pick_false _ _ (ne_eqb _ _ e))) (no_more (put_in π homes h) (run π homes h) t d s hd hs o a)))
            (eq_or_ne (refusal π (run π homes h) q) 0)
