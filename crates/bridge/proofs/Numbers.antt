-- The refusals agree: of a fit book each check on the words is the model's check on the view, in the same order.
-- Assumes nothing.
use Prim.Native.Nat.{ℕ, ◌%◌, ◌<◌}
use native.Mathlib.Nat.{mod-lt}
use mathlib.Core.Path.{◌≡◌, refl, sym, ◌∙◌, ap, ap₂}
use mathlib.Core.Bool.{Bool, true, false, not, ◌||◌, false≢true}
use mathlib.Core.List.{List}
use lib.Dec.{eqb, ltb, leb}
use borrow.Author.Tests.{leb-false, lt-ltb, eqb-false}
use Rattle.loops.specs.Loops.{pick}
use Rattle.loops.proofs.BoolLaws.{pick_true, pick_false}
use Rattle.card.specs.Card.{card_fit}
use Rattle.paper.specs.declared.answer.Payload.{Payload}
use Rattle.paper.specs.Calls.{last_day, Call, read, write, tick, take, refresh, first, answer_by}
use Rattle.book.specs.Layout.{home, crew_vector, clock}
use Rattle.fit.specs.Fit.{fit}
use Rattle.named.proofs.NamedLaws.{fit_tick, fit_take, fit_refresh, fit_read, fit_write}
use Rattle.register.specs.Table as table
use Rattle.model.specs.Parts.{Counts, Shelf, State, end}
use Rattle.model.specs.Calls as calls
use Rattle.bridge.specs.View.{counts_in, entries_at, shelf_at, view}
use Rattle.bridge.proofs.Basics.{or_none, pick_else, pick_ap}
use Rattle.bridge.proofs.Sound.{sound}
use Rattle.bridge.proofs.Looks.{shelf_here, crew_here, home_here, untaken_here, none_here, roomy_here}

pub fit_passes : {b : Bool} → b ≡ true → not b ≡ false
fit_passes {b = true} e = refl
fit_passes {b = false} e = absurd (false≢true e)

module _ (l : List ℕ) (F : fit l ≡ true) where
  pub read_number_law : (c k : ℕ) → table.read_number l c k ≡ calls.refusal (counts_in l) (view l) (read c k)
  unfolding table.read_number first calls.refusal
  read_number_law c k = pick_false _ _ (fit_passes (fit_read l F c k))

  pub refresh_number_law : (d s : ℕ) → table.refresh_number l d s ≡ calls.refusal (counts_in l) (view l) (refresh d s)
  unfolding table.refresh_number first calls.refusal
  refresh_number_law d s = pick_false _ _ (fit_passes (fit_refresh l F d s))

  pub tick_number_law : (d s : ℕ) → table.tick_number l d s ≡ calls.refusal (counts_in l) (view l) (tick d s)
  unfolding table.tick_number first calls.refusal view end shelf_at
  tick_number_law d s =
      pick_false _ _ (fit_passes (fit_tick l F d s))
      ∙ pick_else (leb (counts_in l).depots d) 2 λ kd. pick_else (leb (counts_in l).shelves s) 3 λ ks.
      let d< = leb-false _ d kd in
      let s< = leb-false _ s ks in
      ap₂ (λ (a b : Bool). pick a 10 (pick (not b) 9 0))
      (ap (λ (h : Shelf). leb end h.clock) (sym (shelf_here (counts_in l) l d s d< s<) ∙ refl))
      (sym (roomy_here (counts_in l) l d s (sound l F) d< s<))

  pub take_number_law : (d s from : ℕ) → table.take_number l d s from ≡ calls.refusal (counts_in l) (view l) (take d s from)
  unfolding table.take_number first calls.refusal view
  take_number_law d s from =
      pick_false _ _ (fit_passes (fit_take l F d s from))
      ∙ pick_else (leb (counts_in l).depots d || leb (counts_in l).depots from) 2 λ kd. pick_else (leb (counts_in l).shelves s) 3 λ ks. pick_else (eqb d from) 6 λ apart.
      let both = or_none _ _ kd in
      let d< = leb-false _ d both.0 in
      let f< = leb-false _ from both.1 in
      let s< = leb-false _ s ks in
      ap (λ (b : Bool). pick b 7 0)
      (sym (none_here (counts_in l).depots l _)
      ∙ ap calls.none
      (sym (untaken_here (counts_in l) l d s from (record { below = f<; apart = λ e. eqb-false d from apart (sym e) }))
      ∙ ap (λ (h : Shelf). h.untaken from) (sym (shelf_here (counts_in l) l d s d< s<))))

  -- the crew's home shelf, as the model finds it
  pub home_clock : (c k : ℕ) → c < (counts_in l).crews
      → ((view l).shelf ((view l).home c) (k % (counts_in l).shelves)).clock ≡ clock l (home l c) (k % (counts_in l).shelves)
  unfolding view shelf_at
  home_clock c k h =
      let S = sound l F in
      ap (λ (d : ℕ). ((view l).shelf d (k % (counts_in l).shelves)).clock) (home_here (counts_in l) l c h)
      ∙ ap (λ (h : Shelf). h.clock) (shelf_here (counts_in l) l (home l c) (k % (counts_in l).shelves) (S.homes c h) (mod-lt k S.small.shelf))

  pub home_entry : (c : ℕ) → c < (counts_in l).crews → (view l).crew c ((view l).home c) ≡ crew_vector l c (home l c)
  unfolding view entries_at
  home_entry c h =
      ap₂ (λ (u : ℕ → ℕ) (d : ℕ). u d) (crew_here (counts_in l) l c h) (home_here (counts_in l) l c h)
      ∙ pick_true _ _ (lt-ltb _ _ ((sound l F).homes c h))

  pub write_number_law : (c k : ℕ) (payload : Payload) → table.write_number l c k payload ≡ calls.refusal (counts_in l) (view l) (write c k payload)
  unfolding table.write_number first calls.refusal calls.shelf_of view end
  write_number_law c k payload =
      pick_false _ _ (fit_passes (fit_write l F c k))
      ∙ pick_else (leb (counts_in l).crews c) 5 λ kc. pick_else (leb (counts_in l).bearings k) 4 λ kk.
      pick_else (ltb last_day payload.value) 16 λ kv. pick_else (not (card_fit payload.diameter payload.width)) 14 λ kg.
      let c< = leb-false _ c kc in
      let S = sound l F in
      let s = k % (counts_in l).shelves in
      let clk = sym (home_clock c k c<) in
      let rooms = sym (roomy_here (counts_in l) l (home l c) s S (S.homes c c<) (mod-lt k S.small.shelf))
      ∙ ap (λ (d : ℕ). Rattle.model.specs.Rules.roomy (counts_in l) d s (view l)) (sym (home_here (counts_in l) l c c<)) in
      (λ i. pick (ltb (clk i) (sym (home_entry c c<) i)) 8 (pick (leb end (clk i)) 10 (pick (not (rooms i)) 9 0)))

-- what is taken of a step of the model: of the outcome where the number is 0, else the refusal and the state as it was
pub step_answer : (π : Counts) (σ : State) (q : Call) → (calls.step π σ q).answer ≡ answer_by (calls.refusal π σ q) (calls.acted π σ q).answer
unfolding calls.step answer_by
step_answer π σ q = pick_ap (λ (o : calls.Outcome). o.answer) (eqb (calls.refusal π σ q) 0) _ _

pub step_state : (π : Counts) (σ : State) (q : Call) → (calls.step π σ q).state ≡ pick (eqb (calls.refusal π σ q) 0) (calls.acted π σ q).state σ
unfolding calls.step
step_state π σ q = pick_ap (λ (o : calls.Outcome). o.state) (eqb (calls.refusal π σ q) 0) _ _
