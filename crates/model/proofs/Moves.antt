-- Moves in the model. A round's takes leave every shelf with a sender's clock as the stamp seen, so a silent crew's entries are seen everywhere one round
-- after the clocks of its home have passed its home entry; its other entries are below the clocks of their senders from the start.
-- Assumes nothing.
use Prim.Native.Nat.{ℕ, ◌+◌, ◌-◌, ◌≤◌, ◌<◌}
use native.Mathlib.Omega.{arith}
use native.Mathlib.Nat.{le_trans}
use native.Mathlib.Numerals.{add-one}
use mathlib.Core.Path.{◌≡◌, refl, sym, subst, ap, ◌∙◌}
use mathlib.Core.Logic.{⊎_elim}
use mathlib.Core.Bool.{Bool, true, false, ◌||◌, not}
use mathlib.Core.List.{List, ◌∷◌}
use lib.Dec.{eqb, leb}
use borrow.Author.Tests.{eqb-false, eq-eqb, ne_eqb, lt-leb, leb-false}
use Rattle.loops.specs.Loops.{pick}
use Rattle.order.specs.Vector.{Vec, covered}
use Rattle.loops.proofs.BoolLaws.{eq_or_ne, or_left, or_next, decided, both_ways}
use Rattle.loops.proofs.LoopLaws.{every_fails}
use Rattle.order.proofs.VectorLaws.{covered_stop}
use Rattle.model.specs.Parts.{Counts, State, put, set_home}
use Rattle.model.specs.Rules.{lowest_seen}
use Rattle.paper.specs.Calls.{Call, read, move, first}
use Rattle.model.specs.Calls.{setup, shelf_of, arrived, refusal, acted}
use Rattle.model.specs.System.{of_model, run}
use Rattle.model.specs.Demands.{Silent, kept, Rounds, lowest_clock}
use Rattle.model.specs.Moves.{lowest_stamp, Behind, Moves}
use Rattle.model.proofs.Places.{put_all, put_same, put_other, Other, lowest_above}
use Rattle.model.proofs.Chains.{chain_below}
use Rattle.model.proofs.Invariant.{Rests}
use Rattle.model.proofs.Refusals.{SetUp, setting_up, move_passed, move_named}
use Rattle.model.proofs.Histories.{run_done, run_refused, inv}
use Rattle.model.proofs.Demand2.{demand2}
use Rattle.model.proofs.Refreshes.{Reached}
use Rattle.model.proofs.Rounds.{rounds_see, lowest_reached, lowest_top}
use Rattle.model.proofs.Waiting.{silent_crew}

module _ (π : Counts) where
  -- the last test: the new home is the present one, or has seen the crew's vector
  abbrev lets : State → ℕ → ℕ → Bool
  lets σ c d = eqb d (σ.home c) || arrived π d (σ.crew c) σ

  -- where crew and depot are there, it decides
  move_test : (σ : State) (c d : ℕ) → c < π.crews → d < π.depots → refusal π σ (move c d) ≡ pick (not (lets σ c d)) 12 0
  unfolding refusal first pick
  move_test σ c d hc hd = rw (lt-leb π.crews c hc, lt-leb π.depots d hd) refl

  by_test : (t : Bool) → (◌≡◌ {A = ℕ} (pick (not t) 12 0) 12 → ⊥) → ◌≡◌ {A = ℕ} (pick (not t) 12 0) 0
  unfolding pick
  by_test true n = refl
  by_test false n = absurd (n refl)

  passes : (t : Bool) → t ≡ true → ◌≡◌ {A = ℕ} (pick (not t) 12 0) 0
  unfolding pick
  passes true e = refl
  passes false e = absurd (both_ways {b = false} e refl)

  fails : (t : Bool) → t ≡ false → ◌≡◌ {A = ℕ} (pick (not t) 12 0) 12
  unfolding pick
  fails true e = absurd (both_ways {b = true} refl e)
  fails false e = refl

  failed_test : (t : Bool) → ◌≡◌ {A = ℕ} (pick (not t) 12 0) 12 → t ≡ false
  unfolding pick
  failed_test true e = absurd (omega arith)
  failed_test false e = refl

  -- a test of one entry that fails: it is another depot's, and lower
  entry_fails : (x d a b : ℕ) → eqb x d || leb a b ≡ false → (x ≡ d → ⊥) × (b < a)
  entry_fails x d a b e = ⊎_elim
      (λ (t : eqb x d ≡ true). absurd (both_ways (or_left (eqb x d) (leb a b) t) e))
      (λ (t : eqb x d ≡ false). (eqb-false x d t, leb-false a b (sym (or_next (leb a b) t) ∙ e)))
      (decided (eqb x d))

  put_stays : {A : Type 0} (i : ℕ) (f : ℕ → A) (x : ℕ) → put i (f i) f x ≡ f x
  put_stays i f = put_all (λ x a. a ≡ f x) i refl (λ x apart. refl)

  move_stays : (σ : State) (c : ℕ) → (acted π σ (move c (σ.home c))).state ≡ σ
  unfolding acted set_home
  move_stays σ c = λ i. record { shelf = σ.shelf; crew = σ.crew; home = λ x. put_stays c σ.home x i }

  module _ (homes : List ℕ) where
    refused_for : (h : List Call) (c d : ℕ) → refusal π (run π homes h) (move c d) ≡ 12
        → (c < π.crews) × (d < π.depots) × (d ≡ (run π homes h).home c → ⊥) × Behind π (of_model π homes) h c d
    unfolding arrived covered lowest_seen lowest_stamp
    refused_for h c d e =
        let n = move_named π (run π homes h) c d e in
        let t = failed_test (lets (run π homes h) c d) (sym (move_test (run π homes h) c d n.0 n.1) ∙ e) in
        ⊎_elim
        (λ (s : eqb d ((run π homes h).home c) ≡ true). absurd (both_ways (or_left _ _ s) t))
        (λ (s : eqb d ((run π homes h).home c) ≡ false).
        let f = every_fails π.depots (λ x. eqb x d || leb ((run π homes h).crew c x) (lowest_seen π d (run π homes h) x)) (sym (or_next _ s) ∙ t) in
        let g = entry_fails f.0 d _ _ f.2 in
        (n.0, n.1, eqb-false _ _ s, record { from = f.0; below = f.1; apart = g.0; unseen = g.1 }))
        (decided (eqb d ((run π homes h).home c)))

    refused_where : (h : List Call) (c d : ℕ) → c < π.crews → d < π.depots → (d ≡ (run π homes h).home c → ⊥) → Behind π (of_model π homes) h c d
        → refusal π (run π homes h) (move c d) ≡ 12
    unfolding arrived lowest_seen lowest_stamp
    refused_where h c d hc hd n b = move_test (run π homes h) c d hc hd
        ∙ fails (lets (run π homes h) c d) (or_next _ (ne_eqb _ _ n) ∙ covered_stop π.depots d _ _ b.from b.below b.apart b.unseen)

    done_else : (h : List Call) (c d : ℕ) → c < π.crews → d < π.depots → (refusal π (run π homes h) (move c d) ≡ 12 → ⊥) → refusal π (run π homes h) (move c d) ≡ 0
    done_else h c d hc hd n = move_test (run π homes h) c d hc hd ∙ by_test (lets (run π homes h) c d) (λ e. n (move_test (run π homes h) c d hc hd ∙ e))

    -- what a move leaves of crews and homes, done or not
    left_alone : {A : Type 0} (f : State → A) (h : List Call) (c d : ℕ) → ((σ : State) → f (acted π σ (move c d)).state ≡ f σ) → f (run π homes (move c d ∷ h)) ≡ f (run π homes h)
    left_alone f h c d same = ⊎_elim
        (λ (e : refusal π (run π homes h) (move c d) ≡ 0). ap f (run_done π homes h (move c d) e) ∙ same (run π homes h))
        (λ (e : refusal π (run π homes h) (move c d) ≡ 0 → ⊥). ap f (run_refused π homes h (move c d) e))
        (eq_or_ne (refusal π (run π homes h) (move c d)) 0)

    module _ (u : SetUp π homes) where
      -- a silent crew's entries are seen at every depot
      entries_seen : (g h : List Call) (c : ℕ) → c < π.crews
          → Rounds π (of_model π homes) ((run π homes g).crew c ((run π homes g).home c) - lowest_clock π (of_model π homes) g ((run π homes g).home c) + 1) g h
          → (d x s : ℕ) → d < π.depots → s < π.shelves → Other π.depots d x → (run π homes g).crew c x ≤ ((run π homes h).shelf d s).seen x
      unfolding Reached
      entries_seen g h c hc r d x s hd hs o = ⊎_elim
          (λ (e : x ≡ e₀).
          let low = lowest_top π homes u g e₀ in
          let top = rests.top e₀ rests.depot in
          let sees = rounds_see π homes u r (add-one _) e₀ (lowest_clock π (of_model π homes) g e₀) rests.depot low (lowest_reached π homes u g e₀) d s hd hs
          (subst (Other π.depots d) e o) in
          subst (λ y. (run π homes g).crew c y ≤ ((run π homes h).shelf d s).seen y) (sym e) (omega arith))
          (λ (n : x ≡ e₀ → ⊥).
          let top = rests.top x o.below in
          let sees = rounds_see π homes u r (add-one _) x ((run π homes g).crew c x) o.below top
          (λ q hq. let a : Other π.depots e₀ x = record { below = o.below; apart = n } in
          le_trans (rests.seen q x hq a) (chain_below _ _ _ ((inv π homes u g).sound.chain e₀ q x rests.depot hq a)))
          d s hd hs o in
          omega arith)
          (eq_or_ne x e₀)
        where
          e₀ : ℕ
          e₀ = (run π homes g).home c

          rests : Rests π (run π homes g) e₀ ((run π homes g).crew c)
          rests = (inv π homes u g).sound.crews c hc

      admitted : (g h : List Call) (c : ℕ)
          → Rounds π (of_model π homes) ((run π homes g).crew c ((run π homes g).home c) - lowest_clock π (of_model π homes) g ((run π homes g).home c) + 1) g h
          → Silent (of_model π homes) c g h → (d : ℕ) → refusal π (run π homes h) (move c d) ≡ 12 → ⊥
      unfolding lowest_stamp
      admitted g h c r quiet d e =
          let f = refused_for h c d e in
          let b = f.3 in
          let a : Other π.depots d b.from = record { below = b.below; apart = b.apart } in
          let top = ((inv π homes u h).sound.crews c f.0).top b.from b.below in
          let seen = lowest_above π.shelves (λ s. ((run π homes h).shelf d s).seen b.from) ((run π homes h).crew c b.from) top (λ s hs.
          subst (λ (v : Vec). v b.from ≤ ((run π homes h).shelf d s).seen b.from) (sym (silent_crew π homes quiet).crew) (entries_seen g h c f.0 r d b.from s f.1 hs a)) in
          let unseen = b.unseen in
          omega arith

    pub moves : setup π homes ≡ 0 → Moves π (of_model π homes)
    unfolding acted set_home
    moves e = record {
      refused_for = refused_for;
      refused_where = refused_where;
      done_else = done_else;
      named = λ h c d p. let q = move_passed π _ c d p in (q.crew, q.depot);
      moved = λ h c d p. ap (λ (σ : State). σ.home c) (run_done π homes h (move c d) p) ∙ put_same c d _;
      others = λ h c d b hb n. left_alone (λ σ. σ.home b) h c d (λ σ. put_other c d σ.home b n);
      vectors = λ h c d b x hb hx. left_alone (λ σ. σ.crew b x) h c d (λ σ. refl);
      stays = stays;
      unchanged = λ h c hc. run_done π homes h _ (stays h c hc) ∙ move_stays (run π homes h) c;
      let_in = λ h c d k v p g.
          let R = (demand2 π homes e).reads (move c d ∷ h) (read c k) c k v g in
          record {
            stored = subst (λ y. ((run π homes (read c k ∷ move c d ∷ h)).shelf y (shelf_of π k)).store k ≡ v)
                (ap (λ (σ : State). σ.home c) (run_done π homes h (move c d) p) ∙ put_same c d _) R.stored;
            causal = λ w same past. R.causal w same (kept past);
          };
      admitted = admitted u;
    }
      where
        u : SetUp π homes
        u = setting_up π homes e

        stays : (h : List Call) (c : ℕ) → c < π.crews → refusal π (run π homes h) (move c ((run π homes h).home c)) ≡ 0
        stays h c hc = move_test (run π homes h) c _ hc ((inv π homes u h).sound.crews c hc).depot ∙ passes (lets (run π homes h) c ((run π homes h).home c))
            (or_left _ _ (eq-eqb ((run π homes h).home c) _ refl))
