-- After every history a round can be made: take link by link until each is empty, then refresh and tick every shelf.
-- Assumes nothing.
use Prim.Native.Nat.{ℕ, zero, suc, ◌+◌, ◌*◌, ◌<◌}
use native.Mathlib.Omega.{arith}
use native.Mathlib.Nat.{zero-mul, suc-mul, add_comm}
use mathlib.Core.Path.{◌≡◌, refl, sym, subst, ap, ap₂, ◌∙◌}
use mathlib.Core.Logic.{⊎_elim}
use mathlib.Core.List.Memᴰ
use mathlib.Core.List.{List, [], ◌∷◌, ◌++◌, append_assoc, Memᴰ}
use lib.ListN.{length, length-append}
use Rattle.loops.proofs.BoolLaws.{eq_or_ne}
use Rattle.model.specs.Parts.{Counts, Message, Shelf, State}
use Rattle.model.specs.Rules.{taking}
use Rattle.paper.specs.Calls.{Call, tick, take, refresh}
use Rattle.model.specs.Calls.{refusal, acted}
use Rattle.model.specs.System.{of_model, run}
use Rattle.model.specs.Demands.{IsTake, a_take, IsRefresh, a_refresh, IsTick, a_tick, Each, RoundOnce}
use Rattle.model.proofs.Places.{put_all, put_same, Other, set_shelf_all, set_shelf_here, last_or_below}
use Rattle.model.proofs.Refusals.{take_passes, take_none}
use Rattle.model.proofs.Histories.{run_done, run_refused}

-- every f d s with d below n and s below m
unfoldable pub row : (ℕ → Call) → ℕ → List Call
row f zero = []
row f (suc i) = f i ∷ row f i

unfoldable pub grid : (ℕ → ℕ → Call) → ℕ → ℕ → List Call
grid f zero m = []
grid f (suc d) m = row (f d) m ++ grid f d m

row_has : (f : ℕ → Call) (n i : ℕ) → i < n → Memᴰ (f i) (row f n)
unfolding row
row_has f zero i h = absurd (omega arith)
row_has f (suc n) i h = ⊎_elim (λ (e : i ≡ n). Memᴰ.head (ap f e)) (λ (l : i < n). Memᴰ.tail (row_has f n i l)) (last_or_below i n h)

pub grid_has : (f : ℕ → ℕ → Call) (n m d s : ℕ) → d < n → s < m → Memᴰ (f d s) (grid f n m)
unfolding grid
grid_has f zero m d s hd hs = absurd (omega arith)
grid_has f (suc n) m d s hd hs = ⊎_elim
    (λ (e : d ≡ n). Memᴰ.append_left (grid f n m) (subst (λ y. Memᴰ (f d s) (row (f y) m)) e (row_has (f d) m s hs)))
    (λ (l : d < n). Memᴰ.append_right (row (f n) m) (grid_has f n m d s l hs))
    (last_or_below d n hd)

row_length : (f : ℕ → Call) (n : ℕ) → length (row f n) ≡ n
unfolding row
row_length f zero = refl
row_length f (suc n) = ap suc (row_length f n)

grid_length : (f : ℕ → ℕ → Call) (n m : ℕ) → length (grid f n m) ≡ n * m
unfolding grid
grid_length f zero m = sym (zero-mul m)
grid_length f (suc d) m = length-append (row (f d) m) (grid f d m) ∙ ap₂ (λ (x y : ℕ). x + y) (row_length (f d) m) (grid_length f d m) ∙ add_comm m (d * m) ∙ sym (suc-mul d m)

row_each : (kind : Call → Type 0) (f : ℕ → Call) (n : ℕ) → ((i : ℕ) → kind (f i)) → Each kind (row f n)
unfolding row
row_each kind f zero k q m = absurd (Memᴰ.not-nil m)
row_each kind f (suc n) k q m = ⊎_elim (λ (e : q ≡ f n). subst kind (sym e) (k n)) (λ (m : Memᴰ q (row f n)). row_each kind f n k q m) (Memᴰ.cases_cons m)

pub grid_each : (kind : Call → Type 0) (f : ℕ → ℕ → Call) (n m : ℕ) → ((d s : ℕ) → kind (f d s)) → Each kind (grid f n m)
unfolding grid
grid_each kind f zero m k q i = absurd (Memᴰ.not-nil i)
grid_each kind f (suc n) m k q i = ⊎_elim (row_each kind (f n) m (k n) q) (grid_each kind f n m k q) (Memᴰ.append_cases (row (f n) m) i)

-- taking leaves an empty link empty, and takes the first message off its own
taking_empty : (o : ℕ) (h : Shelf) (l : List Message) → h.untaken o ≡ l → (p : ℕ) → h.untaken p ≡ [] → (taking o l h).untaken p ≡ []
unfolding taking
taking_empty o h [] e p t = t
taking_empty o h (m ∷ l) e p t = put_all (λ p y. h.untaken p ≡ [] → y ≡ []) o (λ t. absurd (let z : ◌≡◌ {A = ℕ} 0 1 = cc in omega arith)) (λ p apart t. t) p t

module _ (π : Counts) (homes : List ℕ) where
  take_empty : (h : List Call) (q : Call) → IsTake q → (e r p : ℕ) → ((run π homes h).shelf e r).untaken p ≡ [] → ((run π homes (q ∷ h)).shelf e r).untaken p ≡ []
  unfolding acted
  take_empty h q (a_take {d = d} {s = s} {o = o}) e r p t = ⊎_elim
      (λ (c : refusal π (run π homes h) (take d s o) ≡ 0). subst (λ (σ : State). (σ.shelf e r).untaken p ≡ []) (sym (run_done π homes h (take d s o) c))
      (set_shelf_all (λ e r g. ((run π homes h).shelf e r).untaken p ≡ [] → g.untaken p ≡ []) d s _ (run π homes h) (λ t. taking_empty o ((run π homes h).shelf d s) _ refl p t)
      (λ e r apart t. t) e r t))
      (λ (c : refusal π (run π homes h) (take d s o) ≡ 0 → ⊥). subst (λ (σ : State). (σ.shelf e r).untaken p ≡ []) (sym (run_refused π homes h (take d s o) c)) t)
      (eq_or_ne (refusal π (run π homes h) (take d s o)) 0)

  -- takes after which Q holds
  record Takes (Q : List Call → Type 0) (h : List Call) : Type 0 where
    calls : List Call
    each : Each IsTake calls
    then : Q (calls ++ h)

  -- Q is kept by takes
  Kept : (List Call → Type 0) → Type 0
  Kept Q = (h : List Call) (q : Call) → IsTake q → Q h → Q (q ∷ h)

  kept_all : (Q : List Call → Type 0) → Kept Q → (l h : List Call) → Each IsTake l → Q h → Q (l ++ h)
  unfolding Kept
  kept_all Q k [] h each t = t
  kept_all Q k (q ∷ l) h each t = k (l ++ h) q (each q (Memᴰ.head refl)) (kept_all Q k l h (λ p m. each p (Memᴰ.tail m)) t)

  each_both : (kind : Call → Type 0) (a b : List Call) → Each kind a → Each kind b → Each kind (a ++ b)
  each_both kind a b f g q m = ⊎_elim (f q) (g q) (Memᴰ.append_cases a m)

  -- takes for each i below n, one after another
  loop : (n : ℕ) (Q : ℕ → List Call → Type 0) → ((i : ℕ) → Kept (Q i)) → ((i : ℕ) → i < n → (h : List Call) → Takes (Q i) h) → (h : List Call) → Takes (λ h. (i : ℕ) → i < n → Q i h) h
  loop zero Q k f h = record { calls = []; each = λ q m. absurd (Memᴰ.not-nil m); then = λ i hi. absurd (omega arith) }
  loop (suc n) Q k f h =
      let a = loop n Q k (λ i hi. f i (omega arith)) h in
      let b = f n (omega arith) (a.calls ++ h) in
      record {
        calls = b.calls ++ a.calls;
        each = each_both IsTake b.calls a.calls b.each a.each;
        then = λ i hi. rw append_assoc (⊎_elim
            (λ (e : i ≡ n). subst (λ i. Q i (b.calls ++ (a.calls ++ h))) (sym e) b.then)
            (λ (l : i < n). kept_all (Q i) (k i) b.calls (a.calls ++ h) b.each (a.then i l))
            (last_or_below i n hi));
      }

  take_next : (h : List Call) (d s o : ℕ) (m : Message) (l : List Message) → d < π.depots → s < π.shelves → Other π.depots d o → ((run π homes h).shelf d s).untaken o ≡ m ∷ l
      → ((run π homes (take d s o ∷ h)).shelf d s).untaken o ≡ l
  unfolding acted taking
  take_next h d s o m l hd hs a e = ap (λ (σ : State). (σ.shelf d s).untaken o) (run_done π homes h (take d s o) (take_passes π _ d s o m l hd hs a e))
      ∙ ap (λ (g : Shelf). g.untaken o) (set_shelf_here d s _ (run π homes h))
      ∙ ap (λ y. (taking o y ((run π homes h).shelf d s)).untaken o) e ∙ put_same o l _

  -- takes until one link is empty
  drain : (d s o : ℕ) → d < π.depots → s < π.shelves → Other π.depots d o → (l : List Message) (h : List Call) → ((run π homes h).shelf d s).untaken o ≡ l
      → Takes (λ h. ((run π homes h).shelf d s).untaken o ≡ []) h
  drain d s o hd hs a [] h e = record { calls = []; each = λ q m. absurd (Memᴰ.not-nil m); then = e }
  drain d s o hd hs a (m ∷ l) h e = let t = drain d s o hd hs a l (take d s o ∷ h) (take_next h d s o m l hd hs a e) in record {
    calls = t.calls ++ (take d s o ∷ []);
    each = each_both IsTake t.calls (take d s o ∷ []) t.each (λ q m. subst IsTake (sym (Memᴰ.eq_of_singleton m)) a_take);
    then = rw append_assoc t.then;
  }

  -- takes until every link is empty
  drain_all : (h : List Call) → Takes (λ h. (d : ℕ) → d < π.depots → (s : ℕ) → s < π.shelves → (o : ℕ) → o < π.depots → (o ≡ d → ⊥) → ((run π homes h).shelf d s).untaken o ≡ []) h
  unfolding Kept
  drain_all = loop π.depots (λ d h. (s : ℕ) → s < π.shelves → (o : ℕ) → o < π.depots → (o ≡ d → ⊥) → ((run π homes h).shelf d s).untaken o ≡ [])
      (λ d h q k t s hs o ho n. take_empty h q k d s o (t s hs o ho n))
      (λ d hd. loop π.shelves (λ s h. (o : ℕ) → o < π.depots → (o ≡ d → ⊥) → ((run π homes h).shelf d s).untaken o ≡ [])
      (λ s h q k t o ho n. take_empty h q k d s o (t o ho n))
      (λ s hs. loop π.depots (λ o h. (o ≡ d → ⊥) → ((run π homes h).shelf d s).untaken o ≡ [])
      (λ o h q k t n. take_empty h q k d s o (t n))
      (λ o ho h. ⊎_elim
      (λ (e : o ≡ d). record { calls = []; each = λ q m. absurd (Memᴰ.not-nil m); then = λ n. absurd (n e) })
      (λ (n : o ≡ d → ⊥). let t = drain d s o hd hs (record { below = ho; apart = n }) _ h refl in record { calls = t.calls; each = t.each; then = λ n. t.then })
      (eq_or_ne o d))))

  pub possible : (h : List Call) → (i : List Call) × RoundOnce π (of_model π homes) h i
  possible h = (
    ticks ++ (refreshes ++ (t.calls ++ h)),
    record {
      round = record {
        takes = t.calls;
        refreshes = refreshes;
        ticks = ticks;
        are_takes = t.each;
        are_refreshes = grid_each IsRefresh refresh π.depots π.shelves (λ d s. a_refresh);
        are_ticks = grid_each IsTick tick π.depots π.shelves (λ d s. a_tick);
        emptied = λ d s o hd hs ho n. take_none π _ d s o hd hs (record { below = ho; apart = n }) (t.then d hd s hs o ho n);
        refreshed = λ d s hd hs. grid_has refresh π.depots π.shelves d s hd hs;
        ticked = λ d s hd hs. grid_has tick π.depots π.shelves d s hd hs;
        ends = refl;
      };
      refreshes = grid_length refresh π.depots π.shelves;
      ticks = grid_length tick π.depots π.shelves;
    },
  )
    where
      t : Takes (λ h. (d : ℕ) → d < π.depots → (s : ℕ) → s < π.shelves → (o : ℕ) → o < π.depots → (o ≡ d → ⊥) → ((run π homes h).shelf d s).untaken o ≡ []) h
      t = drain_all h

      refreshes : List Call
      refreshes = grid refresh π.depots π.shelves

      ticks : List Call
      ticks = grid tick π.depots π.shelves
