-- A book that was set up follows the model, and the model meets the demands: so does the book. By the bridge, call by call.
-- Assumes nothing.
use Prim.Native.Nat.{ℕ, ◌<◌}
use native.Mathlib.Omega.{arith}
use mathlib.Core.Path.{◌≡◌, refl, sym, ◌∙◌, ap₂, subst}
use mathlib.Core.Bool.{true}
use mathlib.Core.Logic.{inl, inr}
use mathlib.Core.List.{List, [], ◌∷◌, map, Memᴰ}
use Rattle.book.specs.declared.parts.Counts as book
use Rattle.fit.specs.Fit.{fit}
use Rattle.register.specs.Table as table
use Rattle.register.specs.Calls.{set_up}
use Rattle.upkeep.proofs.FitSetup.{setup_fit}
use Rattle.model.specs.Parts.{Counts, Version, State, fresh}
use Rattle.paper.specs.declared.answer.Payload.{Payload}
use Rattle.paper.specs.Calls.{Call, read, write, tick, take, refresh, move, list, Answer}
use Rattle.model.specs.Calls.{shelf_of, made, refusal, step, answers, ends}
use Rattle.model.specs.System.{after, of_model, run}
use Rattle.model.specs.Follows.{Alike, Follows}
use Rattle.model.proofs.Refusals.{read_passed, write_passed, list_passed, waits_crew}
use Rattle.model.proofs.Transfer.{sees}
use Rattle.bridge.specs.View.{to_model, counts_in, view}
use Rattle.bridge.specs.Bridged.{Bridged}
use Rattle.upkeep.specs.Requests.{call, number_at, done_answer, changed_by, reply_to, book_after, replies, last}
use Rattle.bridge.specs.Systems.{of_books}
use Rattle.bridge.proofs.SetupView.{setup_open, setup_counts, setup_view}
use Rattle.bridge.proofs.Numbers.{read_number_law, write_number_law, tick_number_law, take_number_law, refresh_number_law}
use Rattle.bridge.proofs.TickCall.{tick_bridge}
use Rattle.bridge.proofs.TakeCall.{take_bridge}
use Rattle.bridge.proofs.RefreshCall.{refresh_bridge}
use Rattle.bridge.proofs.MoveCall.{move_number_law, move_bridge}
use Rattle.bridge.proofs.ListCall.{listed_below, list_number_law, list_bridge}
use Rattle.bridge.proofs.ReadCall.{read_bridge}
use Rattle.bridge.proofs.WriteCall.{write_bridge}
use Rattle.bridge.proofs.Agrees.{Agrees, clock_by, stable_by, seen_by, held_by, taken_by, coming_by, store_by, crew_by, home_by, home_below_by, made_by_law, answered_by, on_page_by}

-- ---- one call

module _ (l : List ℕ) (F : fit l ≡ true) where
  call_step : (q : Call) → Bridged l q (reply_to l (call q)) (book_after l (call q))
  unfolding number_at done_answer changed_by book_after reply_to
  call_step (read c k) = read_bridge l F c k _ _ refl refl
  call_step (write c k payload) = write_bridge l F c k payload _ _ refl refl
  call_step (tick d s) = tick_bridge l F d s _ _ refl refl
  call_step (take d s from) = take_bridge l F d s from _ _ refl refl
  call_step (refresh d s) = refresh_bridge l F d s _ _ refl refl
  call_step (move c d) = move_bridge l F c d _ _ refl refl
  call_step (list c ks) = list_bridge l F c ks _ _ refl refl

  call_number : (q : Call) → number_at l (call q) ≡ refusal (counts_in l) (view l) q
  unfolding number_at
  call_number (read c k) = read_number_law l F c k
  call_number (write c k payload) = write_number_law l F c k payload
  call_number (tick d s) = tick_number_law l F d s
  call_number (take d s from) = take_number_law l F d s from
  call_number (refresh d s) = refresh_number_law l F d s
  call_number (move c d) = move_number_law l F c d
  call_number (list c ks) = list_number_law l F c ks

-- ---- a book that is seen as a state

module _ (π : Counts) (σ : State) (l : List ℕ) (A : Agrees π σ l) where
  number_by : (q : Call) → number_at l (call q) ≡ refusal π σ q
  number_by q = call_number l A.fits q ∙ ap₂ (λ (p : Counts) (τ : State). refusal p τ q) A.counts A.views

  answer_by_law : (q : Call) → reply_to l (call q) ≡ (step π σ q).answer
  answer_by_law q =
      (call_step l A.fits q).answers
      ∙ ap₂ (λ (p : Counts) (τ : State). (step p τ q).answer) A.counts A.views

  agrees_next : (q : Call) → Agrees π (step π σ q).state (book_after l (call q))
  agrees_next q = let b = call_step l A.fits q in record {
    fits = b.fits;
    counts = b.counts ∙ A.counts;
    views = b.leaves ∙ ap₂ (λ (p : Counts) (τ : State). (step p τ q).state) A.counts A.views;
  }

  housed : (c : ℕ) → c < π.crews → σ.home c < π.depots
  housed c hc = subst (λ d. d < π.depots) (sym (home_by π σ l A c hc)) (home_below_by π σ l A c hc)

module _ (l₀ : List ℕ) (n : book.Counts) (homes : List ℕ) (done : table.setup_number l₀ n homes ≡ 0) where
  pub agrees_start : Agrees (to_model n) (fresh homes) (set_up n homes)
  agrees_start =
      let u = setup_open l₀ n homes done in
      let w = (Rattle.fit.proofs.FitLaws.counts_within n u.counts).crews in
      let e = u.number in
      record { fits = setup_fit l₀ n homes done; counts = setup_counts n homes (omega arith); views = setup_view u }

  abbrev π : Counts
  π = to_model n

  -- who wrote, of what is done
  by_write : (σ : State) (q : Call) (c k : ℕ) (v : Payload) → q ≡ write c k v → refusal π σ q ≡ 0 → (c < π.crews) × (k < π.bearings)
  by_write σ q c k v e p = let w = write_passed π σ c k v (subst (λ q. refusal π σ q ≡ 0) e p) in (w.crew, w.bearing)

  by_read : (σ : State) (q : Call) (c k : ℕ) → q ≡ read c k → refusal π σ q ≡ 0 → (c < π.crews) × (k < π.bearings)
  by_read σ q c k e p = let w = read_passed π σ c k (subst (λ q. refusal π σ q ≡ 0) e p) in (w.crew, w.bearing)

  by_list : (σ : State) (q : Call) (c k : ℕ) (ks : List ℕ) → q ≡ list c ks → Memᴰ k ks → refusal π σ q ≡ 0 → (c < π.crews) × (k < π.bearings)
  by_list σ q c k ks e m p = let w = list_passed π σ c ks (subst (λ q. refusal π σ q ≡ 0) e p) in (w.crew, listed_below π.bearings k ks w.below m)

  -- a list that the model does, the book does
  done_list : (l : List ℕ) (σ : State) → Agrees π σ l → (q : Call) (c : ℕ) (ks : List ℕ) → q ≡ list c ks → refusal π σ q ≡ 0 → table.list_number l c ks ≡ 0
  unfolding number_at
  done_list l σ A q c ks e p = number_by π σ l A (list c ks) ∙ subst (λ q. refusal π σ q ≡ 0) e p

  named_by : (σ : State) (q : Call) (c k : ℕ) (v : Version) → refusal π σ q ≡ 0 → (of_model π homes).gets σ q c k v → (c < π.crews) × (k < π.bearings)
  named_by σ q c k v p (inl g) = by_read σ q c k g.0 p
  named_by σ q c k v p (inr g) = by_list σ q c k g.0 g.1 g.2 p

  module _ (l : List ℕ) (σ : State) (A : Agrees π σ l) (q : Call) (c k : ℕ) (v : Version) (p : refusal π σ q ≡ 0) where
    gets_to : (of_books n homes).gets l q c k v → (of_model π homes).gets σ q c k v
    gets_to (inl g) = let a = by_read σ q c k g.0 p in inl (g.0, g.1 ∙ answered_by π σ l A c k a.0 a.1)
    gets_to (inr g) =
        inr (g.0, g.1, g.2, g.3 ∙ on_page_by π σ l A c g.0 k (done_list l σ A q c g.0 g.1 p) (by_list σ q c k g.0 g.1 g.2 p).1)

    gets_from : (of_model π homes).gets σ q c k v → (of_books n homes).gets l q c k v
    gets_from (inl g) = let a = by_read σ q c k g.0 p in inl (g.0, g.1 ∙ sym (answered_by π σ l A c k a.0 a.1))
    gets_from (inr g) =
        inr (g.0, g.1, g.2, g.3 ∙ sym (on_page_by π σ l A c g.0 k (done_list l σ A q c g.0 g.1 p) (by_list σ q c k g.0 g.1 g.2 p).1))

  alike : (l : List ℕ) (σ : State) → Agrees π σ l → Alike π (of_books n homes) (of_model π homes) l σ
  unfolding made shelf_of
  alike l σ A = record {
    number = number_by π σ l A;
    answer = answer_by_law π σ l A;
    home = λ c hc. sym (home_by π σ l A c hc);
    crew = λ c x hc hx. sym (crew_by π σ l A c x hc hx);
    clock = λ d s hd hs. sym (clock_by π σ l A d s hd hs);
    stable = λ d s x hd hs hx. sym (stable_by π σ l A d s x hd hs hx);
    seen = λ d s x hd hs hx n. sym (seen_by π σ l A d s x hd hs (record { below = hx; apart = n }));
    held = λ d s o hd hs ho n. sym (held_by π σ l A d s o hd hs (record { below = ho; apart = n }));
    taken = λ d s o hd hs ho n. sym (taken_by π σ l A d s o hd hs (record { below = ho; apart = n }));
    coming = λ d s o hd hs ho n. sym (coming_by π σ l A d s o hd hs (record { below = ho; apart = n }));
    store = λ d k hd hk. sym (store_by π σ l A d k hd hk);
    makes_to = λ q c w p m. (m.0, m.1, m.2 ∙ made_by_law π σ l A c w.bearing m.0 (by_write σ q c _ _ m.1 p).0);
    makes_from = λ q c w p m. (m.0, m.1, m.2 ∙ sym (made_by_law π σ l A c w.bearing m.0 (by_write σ q c _ _ m.1 p).0));
    gets_to = gets_to l σ A;
    gets_from = gets_from l σ A;
    reads = named_by σ;
    writes = λ q c w p m.
        let a = by_write σ q c _ _ m.1 p in
        (a.0, a.1, subst (λ (v : Version). v.origin < π.depots) (sym m.2) (housed π σ l A c a.0));
    waits = λ c k payload. waits_crew π σ c k payload;
    housed = housed π σ l A;
  }

  -- the book that was set up follows the model
  pub book_follows : Follows π (of_books n homes) (of_model π homes)
  book_follows = record {
    Sees = λ l σ. Agrees π σ l;
    start = agrees_start;
    next = λ {s = l} {t = σ} A q. agrees_next π σ l A q;
    alike = λ {s = l} {t = σ} A. alike l σ A;
  }

  pub followed : (h : List Call) → Agrees π (run π homes h) (after (of_books n homes) h)
  unfolding book_follows
  followed h = sees book_follows h

-- ---- calls one after the other, oldest first

module _ (π : Counts) where
  pub replies_model : (σ : State) (l : List ℕ) (h : List Call) → Agrees π σ l → replies l (map call h) ≡ answers π σ h
  unfolding replies answers
  replies_model σ l [] A = refl
  replies_model σ l (q ∷ h) A =
      ap₂ (λ (x : Answer) (y : List Answer). x ∷ y) (answer_by_law π σ l A q) (replies_model (step π σ q).state (book_after l (call q)) h (agrees_next π σ l A q))

  pub last_model : (σ : State) (l : List ℕ) (h : List Call) → Agrees π σ l → Agrees π (ends π σ h) (last l (map call h))
  unfolding last ends
  last_model σ l [] A = A
  last_model σ l (q ∷ h) A = last_model (step π σ q).state (book_after l (call q)) h (agrees_next π σ l A q)
