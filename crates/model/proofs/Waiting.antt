-- The vector and the home of a crew none of whose calls is done stay as they are while the clocks of its home move on.
-- Assumes nothing.
use Prim.Native.Nat.{ℕ, ◌-◌, ◌≤◌}
use native.Mathlib.Omega.{arith}
use mathlib.Core.Path.{◌≡◌, refl, sym, subst, ap, ◌∙◌}
use mathlib.Core.Logic.{⊎_elim}
use mathlib.Core.List.{List}
use Rattle.order.specs.Vector.{Vec}
use Rattle.loops.proofs.BoolLaws.{eq_or_ne}
use Rattle.model.specs.Parts.{Counts, State, set_shelf, set_crew, set_home}
use Rattle.model.specs.Rules.{settle, keep, emit, send}
use Rattle.paper.specs.declared.answer.Payload.{Payload}
use Rattle.paper.specs.Calls.{Call, read, write, tick, take, refresh, move, list}
use Rattle.model.specs.Calls.{shelf_of, refusal, reading, listing, acted}
use Rattle.model.specs.System.{of_model, run}
use Rattle.model.specs.Demands.{By, a_read, a_write, a_move, a_list, Silent, start, on, Rounds, lowest_clock}
use Rattle.model.proofs.Places.{put_other}
use Rattle.model.proofs.Refusals.{SetUp, shelf_below, no_wait}
use Rattle.model.proofs.Pages.{page_crews, page_homes}
use Rattle.model.proofs.Histories.{run_done, run_refused, inv}
use Rattle.model.proofs.Refreshes.{Reached}
use Rattle.model.proofs.Rounds.{rounds_reach, lowest_reached}

module _ (π : Counts) (homes : List ℕ) where
  -- the state has crew c's vector and home as it had them
  pub record Same (c : ℕ) (σ τ : State) : Type 0 where
    pub crew : τ.crew c ≡ σ.crew c
    pub home : τ.home c ≡ σ.home c

  crew_else : (σ : State) (q : Call) (c : ℕ) → (By c q → ⊥) → Same c σ (acted π σ q).state
  unfolding acted reading listing settle keep emit send set_shelf set_crew set_home
  crew_else σ (read a k) c n = record { crew = put_other a _ _ c (λ e. n (subst (λ a. By c (read a k)) e a_read)); home = refl }
  crew_else σ (write a k v) c n = record { crew = put_other a _ _ c (λ e. n (subst (λ a. By c (write a k v)) e a_write)); home = refl }
  crew_else σ (tick d s) c n = record { crew = refl; home = refl }
  crew_else σ (take d s o) c n = record { crew = refl; home = refl }
  crew_else σ (refresh d s) c n = record { crew = refl; home = refl }
  crew_else σ (move a d) c n = record { crew = refl; home = put_other a _ _ c (λ e. n (subst (λ a. By c (move a d)) e a_move)) }
  crew_else σ (list a ks) c n = record {
    crew = put_other a _ _ c (λ e. n (subst (λ a. By c (list a ks)) e a_list)) ∙ ap (λ (f : ℕ → Vec). f c) (page_crews π a σ);
    home = ap (λ (f : ℕ → ℕ). f c) (page_homes π a σ);
  }

  pub silent_crew : {c : ℕ} {g h : List Call} → Silent (of_model π homes) c g h → Same c (run π homes g) (run π homes h)
  silent_crew start = record { crew = refl; home = refl }
  silent_crew {c} {g} (on {h = h} {q = q} s n) =
      let before = silent_crew s in
      ⊎_elim
      (λ (e : refusal π (run π homes h) q ≡ 0).
      let t = crew_else (run π homes h) q c (λ b. n b e) in
      record {
        crew = ap (λ (σ : State). σ.crew c) (run_done π homes h q e) ∙ t.crew ∙ before.crew;
        home = ap (λ (σ : State). σ.home c) (run_done π homes h q e) ∙ t.home ∙ before.home;
      })
      (λ (e : refusal π (run π homes h) q ≡ 0 → ⊥). subst (Same c (run π homes g)) (sym (run_refused π homes h q e)) before)
      (eq_or_ne (refusal π (run π homes h) q) 0)

  pub waiting : SetUp π homes → (g h : List Call) (c : ℕ)
      → Rounds π (of_model π homes) ((run π homes g).crew c ((run π homes g).home c) - lowest_clock π (of_model π homes) g ((run π homes g).home c)) g h → Silent (of_model π homes) c g h
      → (k : ℕ) (p : Payload) → refusal π (run π homes h) (write c k p) ≡ 8 → ⊥
  unfolding Reached
  waiting u g h c r quiet k p = no_wait π (run π homes h) c k p (λ hc.
      let rests = (inv π homes u g).sound.crews c hc in
      let same = silent_crew quiet in
      let top = rests.top ((run π homes g).home c) rests.depot in
      let low = lowest_reached π homes u g ((run π homes g).home c) (shelf_of π k) (shelf_below π u k) in
      let clock = ((inv π homes u g).sound.shelf ((run π homes g).home c) (shelf_of π k) rests.depot (shelf_below π u k)).top in
      let up = rounds_reach π homes u r ((run π homes g).home c) (lowest_clock π (of_model π homes) g ((run π homes g).home c)) rests.depot (omega arith)
      (lowest_reached π homes u g ((run π homes g).home c)) (shelf_of π k) (shelf_below π u k) in
      subst (λ d. (run π homes h).crew c d ≤ ((run π homes h).shelf d (shelf_of π k)).clock) (sym same.home)
      (subst (λ (v : ℕ → ℕ). v ((run π homes g).home c) ≤ ((run π homes h).shelf ((run π homes g).home c) (shelf_of π k)).clock) (sym same.crew) (omega arith)))
