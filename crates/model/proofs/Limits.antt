-- No link holds more than it has room for, and a stable vector's own entry stays 0: each change keeps both, and only sending fills a link.
-- Assumes nothing.
use Prim.Native.Nat.{ℕ, ◌+◌, ◌≤◌, ◌<◌}
use native.Mathlib.Omega.{arith}
use native.Mathlib.Nat.{le_refl}
use mathlib.Core.Path.{◌≡◌, refl, sym, subst, ◌∙◌}
use mathlib.Core.Logic.{⊎_elim}
use mathlib.Core.Bool.{Bool}
use mathlib.Core.List.{List, [], ◌∷◌, ◌++◌}
use lib.ListN.{length, length-append}
use Rattle.order.specs.Vector.{Vec}
use Rattle.loops.proofs.BoolLaws.{eq_or_ne}
use Rattle.loops.proofs.LoopLaws.{times_keeps}
use Rattle.model.specs.Parts.{Counts, Write, Message, copy, heartbeat, Shelf, State, fresh, empty_shelf, set_shelf, set_crew, set_home, room}
use Rattle.model.specs.Rules.{left, shown, settled, settle, storing, keep, ticked, receiving, send, held_of, taking, holds}
use Rattle.paper.specs.Calls.{Call, read, write, tick, take, refresh, move, list}
use Rattle.model.specs.Calls.{setup, shelf_of, refusal, home_shelf, reading, paged, listing, acted}
use Rattle.model.specs.System.{of_model, after, run}
use Rattle.model.specs.Demands.{Limits}
use Rattle.model.proofs.Places.{pick_all, put_all, put_both, Other, set_shelf_all, emit_all}
use Rattle.model.proofs.Settling.{raised_own}
use Rattle.model.proofs.Room.{roomy_free}
use Rattle.model.proofs.Unique.{unique, beats}
use Rattle.model.proofs.Refusals.{setting_up, write_passed, tick_passed}
use Rattle.model.proofs.Dated.{made_dated, stores_dated, made_carded, stores_carded}
use Rattle.model.proofs.Histories.{run_done, run_refused, inv}

-- shelf by shelf: what each link holds is at most its room, and the own entry is 0
pub record Fits (d : ℕ) (h : Shelf) : Type 0 where
  pub links : (o : ℕ) → length (h.taken o) + length (h.untaken o) ≤ 16
  pub own : h.stable d ≡ 0

abbrev pub AllFit : State → Type 0
AllFit σ = (d s : ℕ) → Fits d (σ.shelf d s)

left_shorter : (test : Write → Bool) (l : List Write) → length (left test l) ≤ length l
unfolding left
left_shorter test [] = le_refl _
left_shorter test (w ∷ l) = let t = left_shorter test l in pick_all (λ (y : List Write). length y ≤ length (w ∷ l)) (test w) (λ p. omega arith) (λ p. omega arith)

held_short : (m : Message) → length (held_of m) ≤ 1
unfolding held_of
held_short (copy w) = le_refl _
held_short (heartbeat t) = omega arith

-- a shorter list, one more message, and a message that is taken
fewer : (a b c : ℕ) → a ≤ b → b + c ≤ 16 → a + c ≤ 16
fewer a b c h k = omega arith

one_more : (a : ℕ) (x : List Message) (m : Message) → a + length x < 16 → a + length (x ++ (m ∷ [])) ≤ 16
one_more a x m h = simp length-append (omega arith)

one_taken : (x : List Write) (m : Message) (l : List Message) → length x + length (m ∷ l) ≤ 16 → length (x ++ held_of m) + length l ≤ 16
one_taken x m l h = let t = held_short m in simp length-append (omega arith)

settled_fits : (n d : ℕ) (u : Vec) (h : Shelf) → Fits d h → Fits d (settled n d u h)
unfolding settled shown
settled_fits n d u h f = record {
  links = λ o. fewer _ _ (length (h.untaken o)) (left_shorter _ (h.taken o)) (f.links o);
  own = raised_own n d u h.stable ∙ f.own;
}

taking_fits : (d o : ℕ) (l : List Message) (h : Shelf) → h.untaken o ≡ l → Fits d h → Fits d (taking o l h)
unfolding taking
taking_fits d o [] h e f = f
taking_fits d o (m ∷ l) h e f = record {
  links = put_both (λ p (x : List Write) (y : List Message). length x + length y ≤ 16) o
      (one_taken (h.taken o) m l (subst (λ y. length (h.taken o) + length y ≤ 16) e (f.links o)))
      (λ p apart. f.links p);
  own = f.own;
}

module _ (π : Counts) where
  settle_fits : (d s : ℕ) (u : Vec) (σ : State) → AllFit σ → AllFit (settle π d s u σ)
  unfolding settle
  settle_fits d s u σ f = set_shelf_all (λ e r g. Fits e g) d s _ σ (settled_fits π.depots d u _ (f d s)) (λ e r apart. f e r)

  keep_fits : (d s : ℕ) (w : Write) (σ : State) → AllFit σ → AllFit (keep π d s w σ)
  unfolding keep storing
  keep_fits d s w σ f = set_shelf_all (λ e r g. Fits e g) d s _ σ (let t = f d s in record { links = t.links; own = t.own }) (λ e r apart. f e r)

  -- sending needs room on each link out
  send_fits : (d s : ℕ) (m : Message) (σ : State) → ((e : ℕ) → Other π.depots d e → length ((σ.shelf e s).taken d) + length ((σ.shelf e s).untaken d) < 16) → AllFit σ → AllFit (send π d s m σ)
  unfolding send receiving
  send_fits d s m σ free f = emit_all π (λ e r g. Fits e g) d s m _
      (λ e o. let t = mid e s in record {
        links = put_all (λ p (y : List Message). length ((ahead.shelf e s).taken p) + length y ≤ 16) d (one_more _ ((ahead.shelf e s).untaken d) m (gap e s o refl)) (λ p apart. t.links p);
        own = t.own;
      })
      (λ e r apart. mid e r)
    where
      ahead : State
      ahead = set_shelf d s (ticked (σ.shelf d s)) σ

      mid : AllFit ahead
      mid = set_shelf_all (λ e r g. Fits e g) d s _ σ (unfold ticked in let t = f d s in record { links = t.links; own = t.own }) (λ e r apart. f e r)

      gap : (e r : ℕ) → Other π.depots d e → r ≡ s → length ((ahead.shelf e r).taken d) + length ((ahead.shelf e r).untaken d) < 16
      gap = set_shelf_all (λ e r g. Other π.depots d e → r ≡ s → length (g.taken d) + length (g.untaken d) < 16) d s _ σ (λ o same. absurd (o.apart refl))
          (λ e r apart o same. subst (λ r. length ((σ.shelf e r).taken d) + length ((σ.shelf e r).untaken d) < 16) (sym same) (free e o))

  -- a shelf of another depot is not moved by what happens at shelf s of depot d
  elsewhere : (d s : ℕ) (h : Shelf) (σ : State) (e : ℕ) → Other π.depots d e → (set_shelf d s h σ).shelf e s ≡ σ.shelf e s
  elsewhere d s h σ e o = set_shelf_all (λ e r g. Other π.depots d e → g ≡ σ.shelf e r) d s h σ (λ o. absurd (o.apart refl)) (λ e r apart o. refl) e s o

  write_elsewhere : (d s : ℕ) (w : Write) (c : ℕ) (u v : Vec) (σ : State) (e : ℕ) → Other π.depots d e → (keep π d s w (set_crew c u (settle π d s v σ))).shelf e s ≡ σ.shelf e s
  unfolding keep settle set_crew
  write_elsewhere d s w c u v σ e o = elsewhere d s _ _ e o ∙ elsewhere d s _ σ e o

  acted_fits : (σ : State) (q : Call) → refusal π σ q ≡ 0 → AllFit σ → AllFit (acted π σ q).state
  unfolding acted reading listing paged home_shelf settle set_crew set_home
  acted_fits σ (read c k) e f = settle_fits _ _ _ σ f
  acted_fits σ (write c k v) e f = send_fits _ _ _ _
      (λ x o. subst (λ (g : Shelf). length (g.taken (σ.home c)) + length (g.untaken (σ.home c)) < 16) (sym (write_elsewhere (σ.home c) (shelf_of π k) _ c _ (σ.crew c) σ x o))
      (roomy_free π _ _ σ (write_passed π σ c k v e).room x o))
      (keep_fits _ _ _ _ (settle_fits _ _ _ σ f))
  acted_fits σ (tick d s) e f = send_fits d s _ σ (roomy_free π d s σ (tick_passed π σ d s e).room) f
  acted_fits σ (take d s o) e f = set_shelf_all (λ e r g. Fits e g) d s _ σ (taking_fits d o _ _ refl (f d s)) (λ e r apart. f e r)
  acted_fits σ (refresh d s) e f = settle_fits d s _ σ f
  acted_fits σ (move c d) e f = f
  acted_fits σ (list c ks) e f = times_keeps AllFit π.shelves _ σ (λ i τ hi g. settle_fits _ _ _ τ g) f

  module _ (homes : List ℕ) where
    pub history_fits : (h : List Call) → AllFit (run π homes h)
    unfolding after fresh empty_shelf
    history_fits [] = λ d s. record { links = λ o. omega arith; own = refl }
    history_fits (q ∷ h) = go (history_fits h)
      where
        go : AllFit (run π homes h) → AllFit (run π homes (q ∷ h))
        go f = ⊎_elim
            (λ (e : refusal π (run π homes h) q ≡ 0). subst AllFit (sym (run_done π homes h q e)) (acted_fits (run π homes h) q e f))
            (λ (e : refusal π (run π homes h) q ≡ 0 → ⊥). subst AllFit (sym (run_refused π homes h q e)) f)
            (eq_or_ne (refusal π (run π homes h) q) 0)

    pub limits : setup π homes ≡ 0 → Limits π (of_model π homes)
    unfolding holds room
    limits e = record {
      links = λ h d s o hd hs ho n. (history_fits h d s).links o;
      own = λ h d s hd hs. (history_fits h d s).own;
      clocks = λ h d s hd hs. ((inv π homes (setting_up π homes e) h).sound.shelf d s hd hs).top;
      stamps = unique π homes (setting_up π homes e);
      beats = λ l h d s q c w hd hs e'. beats π homes (setting_up π homes e) l h d s q c w;
      dated = λ h w m. made_dated π homes m.at;
      stores_dated = stores_dated π homes e;
      carded = λ h w m. made_carded π homes m.at;
      stores_carded = stores_carded π homes e;
    }
