-- Every value written is a day of the calendar and every card is fit: a write that is done has passed both tests. What a shelf stores was written.
-- Assumes nothing.
use Prim.Native.Nat.{ℕ, ◌≤◌, ◌<◌}
use mathlib.Core.Path.{◌≡◌, sym, subst}
use mathlib.Core.Logic.{inl, inr, ⊎_elim}
use mathlib.Core.List.{List}
use Rattle.model.specs.Parts.{Counts, Version, Write, State}
use Rattle.paper.specs.declared.answer.Payload.{Payload}
use Rattle.paper.specs.Calls.{last_day, Call, write}
use Rattle.model.specs.Calls.{setup, made, refusal}
use Rattle.model.specs.System.{of_model, after, run}
use Rattle.model.specs.Demands.{Dated, HasCard, Carded, MadeAt, now, earlier}
use Rattle.model.proofs.Refusals.{WritePassed, write_passed}
use Rattle.model.proofs.Demand2.{demand2}

module _ (π : Counts) (homes : List ℕ) where
  -- what every write that is done has passed holds of the payload of every write made
  made_passed : (P : Payload → Type 0) → ((σ : State) (c k : ℕ) (p : Payload) → WritePassed π σ c k p → P p)
      → {h g : List Call} {c : ℕ} {w : Write} → MadeAt (of_model π homes) h g c w → P w.version.payload
  unfolding made
  made_passed P passed (now {h = h} {q = q} {c = c} {w = w} t) =
      let m = t.makes in
      let done = subst (λ (x : Call). refusal π (run π homes h) x ≡ 0) m.1 t.passed in
      subst (λ (v : Version). P v.payload) (sym m.2) (passed _ c w.bearing m.0 (write_passed π _ c w.bearing m.0 done))
  made_passed P passed (earlier m) = made_passed P passed m

  pub made_dated : {h g : List Call} {c : ℕ} {w : Write} → MadeAt (of_model π homes) h g c w → w.version.payload.value ≤ last_day
  made_dated = made_passed (λ p. p.value ≤ last_day) (λ σ c k p t. t.dated)

  pub made_carded : {h g : List Call} {c : ℕ} {w : Write} → MadeAt (of_model π homes) h g c w → HasCard w.version.payload
  made_carded = made_passed HasCard (λ σ c k p t. t.carded)

  module _ (e : setup π homes ≡ 0) (h : List Call) (d k : ℕ) (hd : d < π.depots) (hk : k < π.bearings) where
    pub stores_dated : Dated ((of_model π homes).store (run π homes h) d k)
    stores_dated = ⊎_elim inl (λ m. inr (made_dated m.at)) ((demand2 π homes e).not_invented h d k hd hk)

    pub stores_carded : Carded ((of_model π homes).store (run π homes h) d k)
    stores_carded = ⊎_elim inl (λ m. inr (made_carded m.at)) ((demand2 π homes e).not_invented h d k hd hk)
