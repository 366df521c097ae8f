-- The third part of a round: a shelf whose clock is still at the lowest has nothing on its links out, so only the clock's end refuses its tick.
-- Assumes nothing.
use Prim.Native.Nat.{ℕ, suc, ◌+◌, ◌≤◌, ◌<◌, min}
use native.Mathlib.Omega.{arith}
use native.Mathlib.Nat.{le_trans}
use mathlib.Core.Path.{◌≡◌, refl, sym, subst, subst₂, ap, ◌∙◌}
use mathlib.Core.Logic.{◌⊎◌, inl, inr, ⊎_elim}
use mathlib.Core.Bool.{true}
use mathlib.Core.List.Memᴰ
use mathlib.Core.List.{List, [], ◌∷◌, ◌++◌, Memᴰ}
use lib.ListN.{length}
use borrow.Author.Tests.{lt-leb}
use Rattle.loops.specs.Loops.{pick}
use Rattle.loops.proofs.BoolLaws.{eq_or_ne, le_or_lt}
use Rattle.model.specs.Parts.{Counts, Write, Message, heartbeat, State, stamp, end}
use Rattle.model.specs.Rules.{holds, roomy, send}
use Rattle.paper.specs.Calls.{Call, tick, first}
use Rattle.model.specs.Calls.{refusal, acted}
use Rattle.model.specs.System.{of_model, run}
use Rattle.model.specs.Demands.{Made, IsTick, a_tick, Each}
use Rattle.model.proofs.Places.{Other}
use Rattle.model.proofs.Invariant.{Copied}
use Rattle.model.proofs.Room.{roomy_clear}
use Rattle.model.proofs.Sending.{send_same, send_there, clock_here, clock_there}
use Rattle.model.proofs.Refusals.{SetUp}
use Rattle.model.proofs.Histories.{run_done, run_refused, inv, call_changes}
use Rattle.model.proofs.Refreshes.{Empty, Reached, Late}

no_members : {A : Type 0} (l : List A) → ((a : A) → Memᴰ a l → ⊥) → l ≡ []
no_members [] f = refl
no_members (a ∷ l) f = absurd (f a (Memᴰ.head refl))

-- with nothing on its links out, only the clock's end refuses a tick
tick_passes : (π : Counts) (σ : State) (d s : ℕ) → d < π.depots → s < π.shelves → (σ.shelf d s).clock < end → roomy π d s σ ≡ true → refusal π σ (tick d s) ≡ 0
unfolding refusal first pick
tick_passes π σ d s hd hs below t = rw (lt-leb π.depots d hd, lt-leb π.shelves s hs, lt-leb end (σ.shelf d s).clock below, t) refl

module _ (π : Counts) (o b : ℕ) where
  -- the clock of shelf s of depot o has moved on from b, or stands at the end
  pub Up : State → ℕ → Type 0
  Up σ s = min (suc b) end ≤ (σ.shelf o s).clock

  pub up_reads : (σ : State) (s : ℕ) → Up σ s → min (suc b) end ≤ (σ.shelf o s).clock
  unfolding Up
  up_reads σ s t = t

  -- or its links out are clear
  Clear : State → ℕ → Type 0
  Clear σ s = (b ≤ (σ.shelf o s).clock) × ((e : ℕ) → Other π.depots o e → holds o (σ.shelf e s) ≡ 0)

  send_keeps : (σ : State) (d r s : ℕ) (m : Message) → Clear σ s → Up (send π d r m σ) s ⊎ Clear (send π d r m σ) s
  unfolding Up Clear holds send
  send_keeps σ d r s m t = ⊎_elim
      (λ (e : (o ≡ d) × (s ≡ r)). inl (subst₂ (λ x y. min (suc b) end ≤ ((send π d r m σ).shelf x y).clock) (sym e.0) (sym e.1)
      (let a = clock_here π σ d r m in let c : b ≤ (σ.shelf d r).clock = subst₂ (λ x y. b ≤ (σ.shelf x y).clock) e.0 e.1 t.0 in omega arith)))
      (λ (n : (o ≡ d) × (s ≡ r) → ⊥). inr (
        subst (λ y. b ≤ y) (sym (clock_there π σ d r m o s n)) t.0,
        λ e a. ap (λ (l : List Write). length l + length (((send π d r m σ).shelf e s).untaken o)) (send_same π σ d r m (λ v u k t. t o) e s)
            ∙ ap (λ (l : List Message). length ((σ.shelf e s).taken o) + length l) (send_there π σ d r m e s o n) ∙ t.1 e a,
      ))
      (same_place (eq_or_ne o d) (eq_or_ne s r))
    where
      same_place : {A B : Type 0} → A ⊎ (A → ⊥) → B ⊎ (B → ⊥) → (A × B) ⊎ (A × B → ⊥)
      same_place (inl x) (inl y) = inl (x, y)
      same_place (inl x) (inr y) = inr (λ t. y t.1)
      same_place (inr x) y = inr (λ t. x t.0)

  module _ (homes : List ℕ) (u : SetUp π homes) (ho : o < π.depots) where
    clear_or_up : (h : List Call) → Empty π homes h → Reached π homes h o b → ((e s : ℕ) → e < π.depots → s < π.shelves → Other π.depots e o → Late π homes h e s o b)
        → (s : ℕ) → s < π.shelves → Up (run π homes h) s ⊎ Clear (run π homes h) s
    unfolding Up Clear Empty Reached Late holds
    clear_or_up h empty reached late s hs = ⊎_elim
        (λ (t : suc b ≤ ((run π homes h).shelf o s).clock). inl (omega arith))
        (λ (t : ((run π homes h).shelf o s).clock < suc b). inr (
          reached s hs,
          λ e a. let a' : Other π.depots e o = record { below = ho; apart = λ f. a.apart (sym f) } in
              let none : ((run π homes h).shelf e s).taken o ≡ [] = no_members _ (λ w m. held t e a' w a.below m) in
              rw (none, empty e s o a.below hs ho a'.apart) refl,
        ))
        (le_or_lt (suc b) ((run π homes h).shelf o s).clock)
      where
        held : ((run π homes h).shelf o s).clock < suc b → (e : ℕ) → Other π.depots e o → (w : Write) → e < π.depots → Memᴰ w (((run π homes h).shelf e s).taken o) → ⊥
        held t e a w he m =
            let c : Copied π (Made (of_model π homes) h) s o w = ((inv π homes u h).sound.shelf e s he hs).taken o w ho m in
            let g : stamp w.version ≤ ((run π homes h).shelf o s).clock = subst₂ (λ x y. stamp w.version ≤ ((run π homes h).shelf x y).clock) c.origin c.shelf
            ((inv π homes u h).good w c.made).clock in
            let l = late e s he hs a w m in
            omega arith

    -- a tick of any shelf keeps this, and the shelf's own tick moves it on
    tick_keeps : (h : List Call) (d r s : ℕ) → Up (run π homes h) s ⊎ Clear (run π homes h) s → Up (run π homes (tick d r ∷ h)) s ⊎ Clear (run π homes (tick d r ∷ h)) s
    unfolding Up acted
    tick_keeps h d r s (inl t) = inl (le_trans t ((call_changes π homes u h (tick d r)).grows.clock o s))
    tick_keeps h d r s (inr t) = ⊎_elim
        (λ (e : refusal π (run π homes h) (tick d r) ≡ 0). subst (λ (τ : State). Up τ s ⊎ Clear τ s) (sym (run_done π homes h (tick d r) e)) (send_keeps (run π homes h) d r s _ t))
        (λ (e : refusal π (run π homes h) (tick d r) ≡ 0 → ⊥). subst (λ (τ : State). Up τ s ⊎ Clear τ s) (sym (run_refused π homes h (tick d r) e)) (inr t))
        (eq_or_ne (refusal π (run π homes h) (tick d r)) 0)

    tick_ups : (h : List Call) (s : ℕ) → s < π.shelves → Up (run π homes h) s ⊎ Clear (run π homes h) s → Up (run π homes (tick o s ∷ h)) s
    unfolding Up Clear acted send
    tick_ups h s hs (inl t) = le_trans t ((call_changes π homes u h (tick o s)).grows.clock o s)
    tick_ups h s hs (inr t) = ⊎_elim
        (λ (e : end ≤ ((run π homes h).shelf o s).clock). le_trans (omega arith) ((call_changes π homes u h (tick o s)).grows.clock o s))
        (λ (e : ((run π homes h).shelf o s).clock < end).
        let p = tick_passes π (run π homes h) o s ho hs e (roomy_clear π (run π homes h) o s t.1) in
        subst (λ (τ : State). min (suc b) end ≤ (τ.shelf o s).clock) (sym (run_done π homes h (tick o s) p))
        (let a = clock_here π (run π homes h) o s (heartbeat (suc ((run π homes h).shelf o s).clock)) in let c = t.0 in omega arith))
        (le_or_lt end ((run π homes h).shelf o s).clock)

    ticks_keep : (l h : List Call) → Each IsTick l → (s : ℕ) → Up (run π homes h) s ⊎ Clear (run π homes h) s → Up (run π homes (l ++ h)) s ⊎ Clear (run π homes (l ++ h)) s
    ticks_keep [] h each s t = t
    ticks_keep (q ∷ l) h each s t = one q (each q (Memᴰ.head refl)) (ticks_keep l h (λ p m. each p (Memᴰ.tail m)) s t)
      where
        one : (q : Call) → IsTick q → Up (run π homes (l ++ h)) s ⊎ Clear (run π homes (l ++ h)) s → Up (run π homes (q ∷ (l ++ h))) s ⊎ Clear (run π homes (q ∷ (l ++ h))) s
        one q (a_tick {d = d} {s = r}) t = tick_keeps (l ++ h) d r s t

    -- after the ticks, a shelf that was ticked has moved on
    ticks_up : (l h : List Call) → Each IsTick l → (s : ℕ) → s < π.shelves → Up (run π homes h) s ⊎ Clear (run π homes h) s → Memᴰ (tick o s) l → Up (run π homes (l ++ h)) s
    unfolding Up
    ticks_up [] h each s hs t m = absurd (Memᴰ.not-nil m)
    ticks_up (q ∷ l) h each s hs t m = ⊎_elim
        (λ (e : tick o s ≡ q). subst (λ q. Up (run π homes (q ∷ (l ++ h))) s) e (tick_ups (l ++ h) s hs (ticks_keep l h (λ p m. each p (Memᴰ.tail m)) s t)))
        (λ (m : Memᴰ (tick o s) l). le_trans (ticks_up l h (λ p m. each p (Memᴰ.tail m)) s hs t m) ((call_changes π homes u (l ++ h) q).grows.clock o s))
        (Memᴰ.cases_cons m)

    pub ticks_reach : (l h : List Call) → Each IsTick l → ((s : ℕ) → s < π.shelves → Memᴰ (tick o s) l) → Empty π homes h → Reached π homes h o b
        → ((e s : ℕ) → e < π.depots → s < π.shelves → Other π.depots e o → Late π homes h e s o b) → Reached π homes (l ++ h) o (min (suc b) end)
    unfolding Reached
    ticks_reach l h each all empty reached late s hs = up_reads _ s (ticks_up l h each s hs (clear_or_up h empty reached late s hs) (all s hs))
