-- A call's number is that of its answer; a write that is done answers its stamp, current where its version is stored, superseded where a greater one is.
-- Assumes nothing.
use Prim.Native.Nat.{ℕ, ◌≤◌}
use native.Mathlib.Omega.{arith}
use mathlib.Core.Path.{◌≡◌, refl, sym, subst, subst₂, ap, ◌∙◌}
use mathlib.Core.Logic.{◌⊎◌, inl, inr, ⊎_elim}
use mathlib.Core.Bool.{true, false}
use mathlib.Core.List.{List, ◌∷◌}
use Rattle.loops.specs.Loops.{pick}
use Rattle.order.specs.Order.{above}
use Rattle.loops.proofs.BoolLaws.{decided, eq_or_ne, pick_true, pick_false}
use Rattle.model.specs.Parts.{Counts, Version, Write, copy, Shelf, State, rank, stamp, unwritten, greater, set_crew}
use Rattle.model.specs.Rules.{keeping, storing, keep, send, settle}
use Rattle.paper.specs.declared.answer.Payload.{Payload}
use Rattle.paper.specs.Calls.{Call, read, write, tick, take, refresh, move, list, Answer, number_in, current, superseded}
use Rattle.model.specs.Calls.{Outcome, shelf_of, home_shelf, answered, made, refusal, reading, listing, acted, step}
use Rattle.model.specs.System.{of_model, run}
use Rattle.model.specs.Demands.{Wrote, now, Made, WriteAnswers}
use Rattle.model.proofs.Places.{pick_all, put_same, put_other, set_shelf_here}
use Rattle.model.proofs.Sending.{send_same}
use Rattle.model.proofs.Refusals.{SetUp, shelf_below, write_passed}
use Rattle.model.proofs.Steps.{answered_made}
use Rattle.model.proofs.Histories.{step_done, step_refused, run_done, made_more, inv}
use Rattle.model.proofs.Unique.{wrote_stamp, at_least}

module _ (π : Counts) where
  -- what is done answers with the number 0
  acted_number : (σ : State) (q : Call) → number_in (acted π σ q).answer ≡ 0
  unfolding acted reading listing number_in
  acted_number σ (read c k) = refl
  acted_number σ (write c k p) = pick_all (λ (a : Answer). number_in a ≡ 0) _ (λ t. refl) (λ t. refl)
  acted_number σ (tick d s) = refl
  acted_number σ (take d s o) = refl
  acted_number σ (refresh d s) = refl
  acted_number σ (move c d) = refl
  acted_number σ (list c ks) = refl

  pub step_number : (σ : State) (q : Call) → number_in (step π σ q).answer ≡ refusal π σ q
  unfolding number_in
  step_number σ q = ⊎_elim
      (λ (e : refusal π σ q ≡ 0). ap (λ (o : Outcome). number_in o.answer) (step_done π σ q e) ∙ acted_number σ q ∙ sym e)
      (λ (e : refusal π σ q ≡ 0 → ⊥). ap (λ (o : Outcome). number_in o.answer) (step_refused π σ q e))
      (eq_or_ne (refusal π σ q) 0)

  -- where a write is done its home shelf stores the greater of what it stored, raised and shown, and the version made
  write_stores : (c k : ℕ) (p : Payload) (σ : State) → ((acted π σ (write c k p)).state.shelf (σ.home c) (shelf_of π k)).store k
      ≡ greater π.depots (answered π c k σ) (made π c k p σ)
  unfolding acted send keep storing keeping settle set_crew answered home_shelf
  write_stores c k p σ =
      send_same π (keep π d s w τ) d s (copy w) (λ v u (f : ℕ → Version) t. f k) d s
      ∙ ap (λ (g : Shelf). g.store k) (set_shelf_here d s (storing π.depots w (τ.shelf d s)) τ)
      ∙ put_same k (greater π.depots ((τ.shelf d s).store k) (made π c k p σ)) (τ.shelf d s).store
      ∙ ap (λ (g : Shelf). greater π.depots (g.store k) (made π c k p σ)) (set_shelf_here d s (home_shelf π c k σ) σ)
    where
      d : ℕ
      d = σ.home c

      s : ℕ
      s = shelf_of π k

      w : Write
      w = record { bearing = k; version = made π c k p σ }

      τ : State
      τ = set_crew c (made π c k p σ).vector (settle π d s (σ.crew c) σ)

module _ (π : Counts) (homes : List ℕ) (u : SetUp π homes) where
  module _ (h : List Call) (c k : ℕ) (p : Payload) (e : refusal π (run π homes h) (write c k p) ≡ 0) where
    abbrev σ : State
    σ = run π homes h

    abbrev v : Version
    v = made π c k p σ

    -- what the home shelf stored, raised and shown
    abbrev old : Version
    old = answered π c k σ

    abbrev new : Version
    new = ((run π homes (write c k p ∷ h)).shelf (σ.home c) (shelf_of π k)).store k

    mine : Wrote (of_model π homes) h (write c k p) c (record { bearing = k; version = v })
    mine = record { passed = e; makes = (p, refl, refl) }

    stores : new ≡ greater π.depots old v
    stores = ap (λ (τ : State). (τ.shelf (σ.home c) (shelf_of π k)).store k) (run_done π homes h (write c k p) e) ∙ write_stores π c k p σ

    was_made : (old ≡ unwritten) ⊎ Made (of_model π homes) h (record { bearing = k; version = old })
    was_made = answered_made π (Made (of_model π homes) h) σ (inv π homes u h).sound (shelf_below π u) c k (write_passed π σ c k p e).crew

    -- no version before has its stamp
    another : old ≡ v → ⊥
    unfolding unwritten
    another same =
        let new-stamp = wrote_stamp π homes mine in
        ⊎_elim
        (λ (z : old ≡ unwritten). let none : stamp v ≡ 0 = ap (λ (y : Version). stamp y) (sym same ∙ z) in omega arith)
        (λ m. let low : stamp v ≤ (σ.shelf v.origin (shelf_of π k)).clock
        = subst (λ (y : Version). stamp y ≤ (σ.shelf y.origin (shelf_of π k)).clock) same ((inv π homes u h).good _ m).clock in omega arith)
        was_made

    stays : above π.depots (rank v) (rank old) ≡ false → above π.depots (rank old) (rank v) ≡ true
    stays t = ⊎_elim (λ same. absurd (another same)) (λ a. a)
        (at_least π homes u (write c k p ∷ h) old (record { bearing = k; version = v })
        (record { before = h; author = c; at = now mine }) (record { holds = t })
        (⊎_elim inl (λ m. inr (made_more π homes _ m)) was_made))

    said : (step π σ (write c k p)).answer ≡ pick (above π.depots (rank v) (rank old)) (current (stamp v)) (superseded (stamp v))
    unfolding acted made
    said = ap (λ (o : Outcome). o.answer) (step_done π σ (write c k p) e)

    written : WriteAnswers π (of_model π homes) h (write c k p) c (record { bearing = k; version = v })
    unfolding made greater
    written = record {
      asked = refl;
      origin = refl;
      stamped = put_same _ _ _;
      entries = λ x hx apart. put_other _ _ _ x apart;
      answer = ⊎_elim
          (λ (t : above π.depots (rank v) (rank old) ≡ true). inl (said ∙ pick_true _ _ t, stores ∙ pick_true _ _ t))
          (λ (t : above π.depots (rank v) (rank old) ≡ false).
          inr (said ∙ pick_false _ _ t, subst (λ (y : Version). above π.depots (rank y) (rank v) ≡ true) (sym (stores ∙ pick_false _ _ t)) (stays t)))
          (decided (above π.depots (rank v) (rank old)));
    }

  pub write_answers : (h : List Call) (q : Call) (c : ℕ) (w : Write) → Wrote (of_model π homes) h q c w → WriteAnswers π (of_model π homes) h q c w
  write_answers h q c w t = subst₂ (λ q v. WriteAnswers π (of_model π homes) h q c (record { bearing = w.bearing; version = v }))
      (sym t.makes.1) (sym t.makes.2)
      (written h c w.bearing t.makes.0 (subst (λ q. refusal π (run π homes h) q ≡ 0) t.makes.1 t.passed))
