-- Every history leaves a state in which the invariant holds, and nothing ever falls.
-- Assumes nothing.
use Prim.Native.Nat.{ℕ}
use native.Mathlib.Omega.{arith}
use mathlib.Core.Path.{◌≡◌, refl, sym, subst, ap}
use mathlib.Core.Logic.{◌⊎◌, inl, inr, ⊎_elim}
use mathlib.Core.List.Memᴰ
use mathlib.Core.List.{List, [], ◌∷◌, ◌++◌}
use borrow.Author.Tests.{eq-eqb, ne_eqb}
use Rattle.loops.proofs.BoolLaws.{eq_or_ne, pick_true, pick_false}
use Rattle.model.specs.Parts.{Counts, Write, State, fresh, empty_shelf, unwritten}
use Rattle.paper.specs.declared.answer.Payload.{Payload}
use Rattle.paper.specs.Calls.{Call, read, write, tick, take, refresh, move, list, refused}
use Rattle.model.specs.Calls.{Outcome, made, refusal, acted, step}
use Rattle.model.specs.System.{of_model, after, run}
use Rattle.model.specs.Demands.{Wrote, MadeAt, now, earlier, Made}
use Rattle.model.proofs.Chains.{chain_start}
use Rattle.model.proofs.Invariant.{Good, Grows, Sound, Change, grows_refl, grows_trans, good_changes, sound_more, change_more, change_none}
use Rattle.model.proofs.Refusals.{WritePassed, read_passed, write_passed, tick_passed, take_passed, refresh_passed, move_passed, list_passed, SetUp, shelf_below}
use Rattle.model.proofs.Pages.{list_done}
use Rattle.model.proofs.Steps.{read_done, write_done, write_good, tick_done, take_done, refresh_done, move_done}

pub step_done : (π : Counts) (σ : State) (q : Call) → refusal π σ q ≡ 0 → step π σ q ≡ acted π σ q
unfolding step
step_done π σ q e = pick_true _ _ (eq-eqb (refusal π σ q) 0 e)

pub step_refused : (π : Counts) (σ : State) (q : Call) → (refusal π σ q ≡ 0 → ⊥) → step π σ q ≡ record { answer = refused (refusal π σ q); state = σ }
unfolding step
step_refused π σ q e = pick_false _ _ (ne_eqb (refusal π σ q) 0 e)

module _ (π : Counts) (homes : List ℕ) where
  pub run_done : (h : List Call) (q : Call) → refusal π (run π homes h) q ≡ 0 → run π homes (q ∷ h) ≡ (acted π (run π homes h) q).state
  unfolding after
  run_done h q e = ap (λ (o : Outcome). o.state) (step_done π (run π homes h) q e)

  pub run_refused : (h : List Call) (q : Call) → (refusal π (run π homes h) q ≡ 0 → ⊥) → run π homes (q ∷ h) ≡ run π homes h
  unfolding after
  run_refused h q e = ap (λ (o : Outcome). o.state) (step_refused π (run π homes h) q e)

  pub made_more : {h : List Call} {q : Call} (w : Write) → Made (of_model π homes) h w → Made (of_model π homes) (q ∷ h) w
  made_more w m = record { before = m.before; author = m.author; at = earlier m.at }

  -- a write made was made by the last call, or before
  pub made_cases : {h : List Call} {q : Call} {w : Write} → Made (of_model π homes) (q ∷ h) w → ((c : ℕ) × Wrote (of_model π homes) h q c w) ⊎ Made (of_model π homes) h w
  made_cases {h} {q} {w} m = go m.at
    where
      go : {g : List Call} {c : ℕ} → MadeAt (of_model π homes) (q ∷ h) g c w → ((c : ℕ) × Wrote (of_model π homes) h q c w) ⊎ Made (of_model π homes) h w
      go (now t) = inl (_, t)
      go (earlier t) = inr (record { before = _; author = _; at = t })

  pub made_never : {w : Write} → Made (of_model π homes) [] w → ⊥
  made_never {w} m = go m.at
    where
      go : {g : List Call} {c : ℕ} → MadeAt (of_model π homes) [] g c w → ⊥
      go t = elim t [ ]

  -- a write call makes one write
  pub wrote_same : {h : List Call} {c k b : ℕ} {v : Payload} {w : Write} → Wrote (of_model π homes) h (write c k v) b w → w ≡ record { bearing = k; version = made π c k v (run π homes h) }
  wrote_same {h} {c} {k} {b} {v} {w} t =
      let call : write c k v ≡ write b w.bearing t.makes.0 = t.makes.1 in
      let bearing : w.bearing ≡ k = cc in
      let is = t.makes.2 in let version : w.version ≡ made π c k v (run π homes h) = cc in
      λ i. record { bearing = bearing i; version = version i }

  pub record Inv (h : List Call) : Type 0 where
    pub sound : Sound π (Made (of_model π homes) h) (run π homes h)
    pub good : (w : Write) → Made (of_model π homes) h w → Good π (run π homes h) w

  -- what a call leaves of the invariant
  record Kept (h : List Call) (q : Call) (τ : State) : Type 0 where
    change : Change π (Made (of_model π homes) (q ∷ h)) (run π homes h) τ
    wrote : (c : ℕ) (w : Write) → Wrote (of_model π homes) h q c w → Good π τ w

  module _ (u : SetUp π homes) where
    kept_done : (h : List Call) (q : Call) → Inv h → refusal π (run π homes h) q ≡ 0 → Kept h q (acted π (run π homes h) q).state
    kept_done h (read c k) i e = record {
      change = change_more π made_more (read_done π (Made (of_model π homes) h) (run π homes h) i.sound (shelf_below π u) c k (read_passed π _ c k e).crew i.good);
      wrote = λ b w t. absurd (let call = t.makes.1 in let n : ◌≡◌ {A = ℕ} 0 1 = cc in omega arith);
    }
    kept_done h (write c k v) i e = record {
      change = write_done π (Made (of_model π homes) h) (run π homes h) i.sound (shelf_below π u) c k p.crew (Made (of_model π homes) (write c k v ∷ h)) made_more v p mine;
      wrote = λ b w t. subst (Good π _) (sym (wrote_same t)) (write_good π (Made (of_model π homes) h) (run π homes h) i.sound (shelf_below π u) c k p.crew
          (Made (of_model π homes) (write c k v ∷ h)) made_more v p mine);
    }
      where
        p : WritePassed π (run π homes h) c k v
        p = write_passed π _ c k v e

        mine : Made (of_model π homes) (write c k v ∷ h) (record { bearing = k; version = made π c k v (run π homes h) })
        mine = record { before = h; author = c; at = now (record { passed = e; makes = (v, refl, refl) }) }
    kept_done h (tick d s) i e = record {
      change = change_more π made_more (tick_done π (Made (of_model π homes) h) (run π homes h) i.sound (tick_passed π _ d s e));
      wrote = λ b w t. absurd (let call = t.makes.1 in let n : ◌≡◌ {A = ℕ} 0 1 = cc in omega arith);
    }
    kept_done h (take d s o) i e = record {
      change = change_more π made_more (take_done π (Made (of_model π homes) h) (run π homes h) i.sound (take_passed π _ d s o e));
      wrote = λ b w t. absurd (let call = t.makes.1 in let n : ◌≡◌ {A = ℕ} 0 1 = cc in omega arith);
    }
    kept_done h (refresh d s) i e = record {
      change = change_more π made_more (refresh_done π (Made (of_model π homes) h) (run π homes h) i.sound (refresh_passed π _ d s e));
      wrote = λ b w t. absurd (let call = t.makes.1 in let n : ◌≡◌ {A = ℕ} 0 1 = cc in omega arith);
    }
    kept_done h (move c d) i e = record {
      change = change_more π made_more (move_done π (Made (of_model π homes) h) (run π homes h) i.sound (move_passed π _ c d e));
      wrote = λ b w t. absurd (let call = t.makes.1 in let n : ◌≡◌ {A = ℕ} 0 1 = cc in omega arith);
    }
    kept_done h (list c ks) i e = record {
      change = change_more π made_more (list_done π c (run π homes h) (Made (of_model π homes) h) i.sound (list_passed π _ c ks e).crew (shelf_below π u) i.good ks);
      wrote = λ b w t. absurd (let call = t.makes.1 in let n : ◌≡◌ {A = ℕ} 0 1 = cc in omega arith);
    }

    kept : (h : List Call) (q : Call) → Inv h → Kept h q (run π homes (q ∷ h))
    kept h q i = ⊎_elim
        (λ (e : refusal π (run π homes h) q ≡ 0). subst (Kept h q) (sym (run_done h q e)) (kept_done h q i e))
        (λ (e : refusal π (run π homes h) q ≡ 0 → ⊥). subst (Kept h q) (sym (run_refused h q e)) (record {
          change = change_none π (sound_more π made_more i.sound);
          wrote = λ c w t. absurd (e t.passed);
        }))
        (eq_or_ne (refusal π (run π homes h) q) 0)

    inv_fresh : Inv []
    unfolding after fresh empty_shelf unwritten
    inv_fresh = record {
      sound = record {
        shelf = λ d s hd hs. record {
          covers = λ k x o. omega arith;
          stores = λ k. inl refl;
          taken = λ o w o' m. absurd (Memᴰ.not-nil m);
          untaken = λ o w o' m. absurd (Memᴰ.not-nil m);
          top = omega arith;
        };
        chain = λ d s o hd hs a. chain_start;
        stable = λ d s r x hd hs hr a. omega arith;
        crews = λ c hc. record { depot = u.housed c hc; seen = λ r x hr a. omega arith; top = λ x hx. omega arith };
      };
      good = λ w m. absurd (made_never m);
    }

    pub inv : (h : List Call) → Inv h
    inv [] = inv_fresh
    inv (q ∷ h) = go (inv h)
      where
        go : Inv h → Inv (q ∷ h)
        go i = let k = kept h q i in record {
          sound = k.change.sound;
          good = λ w m. ⊎_elim (λ t. k.wrote t.0 w t.1) (λ m. good_changes π k.change (i.good w m)) (made_cases m);
        }

    -- one more call
    pub call_changes : (h : List Call) (q : Call) → Change π (Made (of_model π homes) (q ∷ h)) (run π homes h) (run π homes (q ∷ h))
    call_changes h q = (kept h q (inv h)).change

    pub history_grows : (l h : List Call) → Grows π (run π homes h) (run π homes (l ++ h))
    history_grows [] h = grows_refl π
    history_grows (q ∷ l) h = grows_trans π (history_grows l h) (call_changes (l ++ h) q).grows
