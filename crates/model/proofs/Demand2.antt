-- Demand 2: each part is the invariant's, or the growth of every history, or the causal rule.
-- Assumes nothing.
use Prim.Native.Nat.{ℕ, ◌≤◌}
use mathlib.Core.Path.{◌≡◌, refl, sym, subst, subst₂, ap, ◌∙◌}
use mathlib.Core.Logic.{inl, ⊎_elim}
use mathlib.Core.List.{List, ◌∷◌}
use Rattle.order.proofs.VectorLaws.{covered_intro}
use Rattle.model.specs.Parts.{Counts, Write, Shelf, State, set_crew}
use Rattle.paper.specs.Calls.{Call, read}
use Rattle.model.specs.Calls.{reading, Outcome, told, setup, shelf_of, home_shelf, answered, made, acted}
use Rattle.model.specs.System.{of_model, run}
use Rattle.model.specs.Demands.{AtLeast, Tells, by_read, Made, Past, Done, ReadAnswers, Demand2}
use Rattle.model.proofs.Places.{set_shelf_here}
use Rattle.model.proofs.Chains.{chain_below}
use Rattle.model.proofs.Refusals.{SetUp, setting_up, read_passed, shelf_below}
use Rattle.model.proofs.Steps.{answered_covers, answered_made}
use Rattle.model.proofs.Histories.{step_done, run_done, inv, history_grows}
use Rattle.model.proofs.Causal.{past_made, rests_on_lower, causal}
use Rattle.model.proofs.Unique.{at_least}
use Rattle.model.proofs.Lists.{listed_answers}
use Rattle.model.proofs.Answering.{step_number, write_answers}

module _ (π : Counts) (homes : List ℕ) where
  -- the home shelf after a read
  pub read_shelf : (h : List Call) (c k : ℕ) → Done (of_model π homes) h (read c k) → (run π homes (read c k ∷ h)).shelf ((run π homes h).home c) (shelf_of π k) ≡ home_shelf π c k (run π homes h)
  unfolding acted reading set_crew
  read_shelf h c k e = ap (λ (σ : State). σ.shelf ((run π homes h).home c) (shelf_of π k)) (run_done π homes h (read c k) e) ∙ set_shelf_here _ _ _ (run π homes h)

  -- a read answers no version lower than a write in its crew's past
  read_past : SetUp π homes → (h : List Call) (c : ℕ) (w : Write) → Past π (of_model π homes) h c w → Done (of_model π homes) h (read c w.bearing)
      → AtLeast π.depots (answered π c w.bearing (run π homes h)) w.version
  read_past u h c w p e = at_least π homes u h (answered π c w.bearing (run π homes h)) w (past_made π homes u p) (causal π homes u p e)
      (answered_made π (Made (of_model π homes) h) (run π homes h) (inv π homes u h).sound (shelf_below π u) c w.bearing (read_passed π _ c w.bearing e).crew)

  read_answers : SetUp π homes → (h : List Call) (c k : ℕ) → Done (of_model π homes) h (read c k) → ReadAnswers π (of_model π homes) h (read c k) c k (answered π c k (run π homes h))
  unfolding acted reading answered
  read_answers u h c k e = record {
    answer = subst (λ a. Tells (read c k) a k (told π.depots (answered π c k (run π homes h)))) (sym (ap (λ (o : Outcome). o.answer) (step_done π (run π homes h) (read c k) e))) by_read;
    stored = ap (λ (g : Shelf). g.store k) (read_shelf h c k e);
    clear = covered_intro π.depots _ _ _ (λ x hx n. subst (λ (g : Shelf). (answered π c k (run π homes h)).vector x ≤ g.stable x) (sym (read_shelf h c k e))
        (answered_covers π (Made (of_model π homes) h) (run π homes h) (inv π homes u h).sound (shelf_below π u) c k (read_passed π _ c k e).crew x (record { below = hx; apart = n })));
    written = answered_made π (Made (of_model π homes) h) (run π homes h) (inv π homes u h).sound (shelf_below π u) c k (read_passed π _ c k e).crew;
    causal = λ w same p. subst (λ k. AtLeast π.depots (answered π c k (run π homes h)) w.version) same
        (read_past u h c w p (subst (λ k. Done (of_model π homes) h (read c k)) (sym same) e));
  }

  pub demand2 : setup π homes ≡ 0 → Demand2 π (of_model π homes)
  demand2 e = record {
    numbered = λ h q. step_number π (run π homes h) q;
    each_read = λ h c k e. (answered π c k (run π homes h), record { passed = e; gets = inl (refl, refl) });
    each_write = λ h c k p e. (record { bearing = k; version = made π c k p (run π homes h) }, record { passed = e; makes = (p, refl, refl) });
    crew_rises = λ l h c x hc hx. (history_grows π homes u l h).crew c x;
    hidden = λ h d k hd hk. covered_intro π.depots d _ _ (λ x hx n. ((inv π homes u h).sound.shelf d _ hd (shelf_below π u k)).covers k x (record { below = hx; apart = n }));
    seen_first = λ h d s r x hd hs hr hx n. (inv π homes u h).sound.stable d s r x hd hs hr (record { below = hx; apart = n });
    sent_first = λ h d s x hd hs hx n. chain_below _ _ _ ((inv π homes u h).sound.chain d s x hd hs (record { below = hx; apart = n }));
    not_invented = λ h d k hd hk. ((inv π homes u h).sound.shelf d _ hd (shelf_below π u k)).stores k;
    reads = λ h q c k v g. ⊎_elim
        (λ r. subst₂ (λ q v. ReadAnswers π (of_model π homes) h q c k v) (sym r.0) (sym r.1) (read_answers u h c k (subst (λ q. Done (of_model π homes) h q) r.0 g.passed)))
        (λ l. subst₂ (λ q v. ReadAnswers π (of_model π homes) h q c k v) (sym l.1) (sym l.3)
        (listed_answers π homes u h c l.0 (subst (λ q. Done (of_model π homes) h q) l.1 g.passed) k l.2))
        g.gets;
    writes = write_answers π homes u;
    rests_on_lower = rests_on_lower π homes u;
    store_rises = λ l h d k hd hk. ((history_grows π homes u l h).store d _ k).holds;
    stable_rises = λ l h d s x hd hs hx. (history_grows π homes u l h).stable d s x;
    seen_rises = λ l h d s x hd hs hx n. (history_grows π homes u l h).seen d s x;
    clock_rises = λ l h d s hd hs. (history_grows π homes u l h).clock d s;
  }
    where
      u : SetUp π homes
      u = setting_up π homes e
