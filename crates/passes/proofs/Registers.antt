-- The model's history passes.
-- Assumes nothing.
use Prim.Native.Nat.{ℕ, zero, suc, ◌≤◌, ◌<◌}
use native.Mathlib.Omega.{arith}
use mathlib.Core.Path.{◌≡◌, refl, sym, ◌∙◌, ap, ap₂, subst, subst₂}
use mathlib.Core.Logic.{◌⊎◌, inl, inr, ⊎_elim}
use mathlib.Core.List.{List, [], ◌∷◌, ◌++◌, map, Memᴰ}
use mathlib.Core.Bool.{Bool, true, false, ◌&&◌, not, and-false}
use lib.Dec.{leb}
use lib.ListN.{length, length-map, get_or}
use borrow.Author.Tests.{lt-leb}
use Rattle.loops.proofs.BoolLaws.{and_stop, pick_true, le_or_lt, eq_or_ne}
use Rattle.order.specs.Order.{above}
use Rattle.order.proofs.OrderLaws.{above_trans}
use Rattle.paper.specs.Calls.{Call, read, write, tick, take, refresh, move, list, first}
use Rattle.paper.specs.declared.answer.Payload.{Payload}
use Rattle.model.specs.Parts.{Counts, Version, Write, rank}
use Rattle.model.specs.Calls.{setup, within, made, answered, on_page, refusal}
use Rattle.model.specs.System.{System, of_model, run}
use Rattle.model.specs.Demands.{AtLeast, Wrote, Got, MadeAt, now, earlier, Past, wrote, got, kept, under, Demand2}
use Rattle.model.proofs.Refusals.{SetUp, setting_up}
use Rattle.model.proofs.Histories.{inv, wrote_same}
use Rattle.model.proofs.Demand2.{demand2}
use Rattle.model.proofs.Lists.{list_past}
use Rattle.passes.specs.Log.{Entry, nth, Tells, a_write, a_read, Told, Logged, nothing, call}
use Rattle.passes.specs.Passes.{Passes}
use Rattle.passes.proofs.Resting.{Orderly}
use Rattle.passes.proofs.Passing.{passing}

-- ---- a call that answers with one version alone

module _ (π : Counts) (S : System) (demand : Demand2 π S)
    (apart : (h : List Call) (q : Call) (c b k : ℕ) (w : Write) (v : Version) → Wrote S h q c w → Got S h q b k v → ⊥)
    (h : List Call) (q : Call) (single : (c k j : ℕ) (v u : Version) → Got S h q c k v → Got S h q c j u → (k ≡ j) × (v ≡ u)) where
  made_before : {g : List Call} {b c k : ℕ} {u : Write} {v : Version} → Got S h q c k v → MadeAt S (q ∷ h) g b u → MadeAt S h g b u
  made_before g (now t) = absurd (apart _ _ _ _ _ _ _ t g)
  made_before g (earlier m) = m

  -- what is in the crew's past after it was so before, is what was read, or is below that
  after_read : {c k : ℕ} {v : Version} {w : Write} → Got S h q c k v → Past π S (q ∷ h) c w
      → Past π S h c w ⊎ ((v ≡ w.version) ⊎ (above π.depots (rank v) (rank w.version) ≡ true))
  after_read g (wrote t) = absurd (apart _ _ _ _ _ _ _ t g)
  after_read g (got t z) = inr (inl (single _ _ _ _ _ g t).1)
  after_read g (kept p) = inl p
  after_read {c} {v = v} {w = w} g (under {g = g'} {b = b} {v = u} p m p') =
      ⊎_elim
      (λ (x : Past π S h c u). inl (under x (made_before g m) p'))
      (λ (x : (v ≡ u.version) ⊎ (above π.depots (rank v) (rank u.version) ≡ true)).
      ⊎_elim
      (λ (y : v ≡ u.version). inr (inr (ap (λ (a : Version). above π.depots (rank a) (rank w.version)) y ∙ below)))
      (λ (y : above π.depots (rank v) (rank u.version) ≡ true). inr (inr (above_trans π.depots _ _ _ y below)))
      x)
      (after_read g p)
    where
      below : above π.depots (rank u.version) (rank w.version) ≡ true
      below = demand.rests_on_lower _ _ _ _ _ m p'

  page_of_one : (c k : ℕ) (v : Version) → Got S h q c k v → (w : Write) → w.bearing ≡ k → Past π S (q ∷ h) c w → AtLeast π.depots v w.version
  page_of_one c k v g w e p =
      ⊎_elim (λ (x : Past π S h c w). (demand.reads h q c k v g).causal w e x)
      (λ (x : (v ≡ w.version) ⊎ (above π.depots (rank v) (rank w.version) ≡ true)). x)
      (after_read g p)

-- ---- places of a list

nth_map : (f : ℕ → Entry) (ks : List ℕ) (i : ℕ) → i < length ks → nth (map f ks) i ≡ f (get_or ks i 0)
nth_map f [] i h = absurd (omega arith)
nth_map f (k ∷ ks) zero h = refl
nth_map f (k ∷ ks) (suc i) h = nth_map f ks i (omega arith)

place_in : (ks : List ℕ) (i : ℕ) → i < length ks → Memᴰ (get_or ks i 0) ks
place_in [] i h = absurd (omega arith)
place_in (k ∷ ks) zero h = mathlib.Core.List.Memᴰ.head refl
place_in (k ∷ ks) (suc i) h = mathlib.Core.List.Memᴰ.tail (place_in ks i (omega arith))

in_place : (k : ℕ) (ks : List ℕ) → Memᴰ k ks → (i : ℕ) × (i < length ks) × (get_or ks i 0 ≡ k)
in_place k [] m = absurd (mathlib.Core.List.Memᴰ.not-nil m)
in_place k (j ∷ ks) m =
    ⊎_elim
    (λ (e : k ≡ j). (0, omega arith, sym e))
    (λ (t : Memᴰ k ks). let p = in_place k ks t in let l = p.1 in (suc p.0, omega arith, p.2))
    (mathlib.Core.List.Memᴰ.cases_cons m)

-- ---- the model's calls

module _ (π : Counts) (homes : List ℕ) where
  abbrev S : System
  S = of_model π homes

  -- a call with one entry, and one with none
  told_one : {h : List Call} {q : Call} (e : Entry) → Tells S h q e → ((x : Entry) → Tells S h q x → x ≡ e) → Told S h q (e ∷ [])
  told_one {h} {q} e t o = record {
    each = λ i l. subst (λ (x : ℕ). Tells S h q (nth (e ∷ []) x)) (first_only i l) t;
    all = λ x u. (0, omega arith, sym (o x u));
    once = λ i j l m. absurd (omega arith);
  }
    where
      first_only : (i : ℕ) → i < 1 → 0 ≡ i
      first_only i l = omega arith

  told_none : {h : List Call} {q : Call} → ((e : Entry) → Tells S h q e → ⊥) → Told S h q []
  told_none n = record { each = λ i l. absurd (omega arith); all = λ e t. absurd (n e t); once = λ i j l m. absurd (omega arith) }

  refused : (h : List Call) (q : Call) → (refusal π (run π homes h) q ≡ 0 → ⊥) → (e : Entry) → Tells S h q e → ⊥
  refused h q n _ (a_write t) = n t.passed
  refused h q n _ (a_read t) = n t.passed

  -- who is answered with a version asked a read or a list
  answers_with : {h : List Call} {q : Call} {c k : ℕ} {v : Version} → Got S h q c k v → ((a j : ℕ) → q ≡ read a j → ⊥) → ((a : ℕ) (ks : List ℕ) → q ≡ list a ks → ⊥) → ⊥
  answers_with {h} {q} {c} {k} {v} t no_read no-list =
      ⊎_elim (λ (r : (q ≡ read c k) × (v ≡ answered π c k (run π homes h))). no_read _ _ r.0)
      (λ (l : (ks : List ℕ) × (q ≡ list c ks) × Memᴰ k ks × (v ≡ on_page π c k (run π homes h))). no-list _ _ l.1) t.gets

  only_read : (h : List Call) (c k : ℕ) (x : Entry) → Tells S h (read c k) x
      → x ≡ record { kind = 1; crew = c; write = record { bearing = k; version = answered π c k (run π homes h) } }
  only_read h c k _ (a_write {c = b} {w = w} t) = absurd (let e = t.makes.1 in let z : ◌≡◌ {A = ℕ} 0 1 = cc in omega arith)
  only_read h c k _ (a_read {c = b} {w = w} t) =
      ⊎_elim
      (λ (r : (read c k ≡ read b w.bearing) × (w.version ≡ answered π b w.bearing (run π homes h))).
      let e = r.0 in
      let p : b ≡ c = cc in
      let q : w.bearing ≡ k = cc in
      ap₂ (λ (x : ℕ) (y : Write). record { kind = 1; crew = x; write = y }) p
      (ap₂ (λ (x : ℕ) (y : Version). record { bearing = x; version = y }) q (r.1 ∙ ap₂ (λ (x y : ℕ). answered π x y (run π homes h)) p q)))
      (λ (l : (ks : List ℕ) × (read c k ≡ list b ks) × Memᴰ w.bearing ks × (w.version ≡ on_page π b w.bearing (run π homes h))).
      absurd (let e = l.1 in let z : ◌≡◌ {A = ℕ} 0 1 = cc in omega arith))
      t.gets

  only_write : (h : List Call) (c k : ℕ) (p : Payload) (x : Entry) → Tells S h (write c k p) x
      → x ≡ record { kind = 0; crew = c; write = record { bearing = k; version = made π c k p (run π homes h) } }
  only_write h c k p _ (a_write {c = b} {w = w} t) =
      let e = t.makes.1 in
      let same : b ≡ c = cc in
      ap₂ (λ (x : ℕ) (y : Write). record { kind = 0; crew = x; write = y }) same (wrote_same π homes t)
  only_write h c k p _ (a_read {c = b} {w = w} t) = absurd (answers_with t (λ a j e. let z : ◌≡◌ {A = ℕ} 0 1 = cc in omega arith) (λ a ks e. let z : ◌≡◌ {A = ℕ} 0 1 = cc in omega arith))

  -- a call that is neither a read nor a list nor a write makes no entry
  quiet : (h : List Call) (q : Call) → ((c k : ℕ) → q ≡ read c k → ⊥) → ((c : ℕ) (ks : List ℕ) → q ≡ list c ks → ⊥) → ((c k : ℕ) (p : Payload) → q ≡ write c k p → ⊥) → Told S h q []
  quiet h q no_read no-list no_write = told_none none
    where
      none : (e : Entry) → Tells S h q e → ⊥
      none _ (a_write {c} {w} t) = no_write c w.bearing t.makes.0 t.makes.1
      none _ (a_read {c} {w} t) = answers_with t no_read no-list

  -- THE ENTRIES OF A CALL THAT IS DONE: of a read and of a write one, of a list one for each bearing that it names, of any other none
  pub read_told : (h : List Call) (c k : ℕ) → refusal π (run π homes h) (read c k) ≡ 0
      → Told S h (read c k) (record { kind = 1; crew = c; write = record { bearing = k; version = answered π c k (run π homes h) } } ∷ [])
  read_told h c k e =
      told_one _ (a_read {w = record { bearing = k; version = answered π c k (run π homes h) }} (record { passed = e; gets = inl (refl, refl) })) (only_read h c k)

  pub write_told : (h : List Call) (c k : ℕ) (p : Payload) → refusal π (run π homes h) (write c k p) ≡ 0
      → Told S h (write c k p) (record { kind = 0; crew = c; write = record { bearing = k; version = made π c k p (run π homes h) } } ∷ [])
  write_told h c k p e =
      told_one _ (a_write {w = record { bearing = k; version = made π c k p (run π homes h) }} (record { passed = e; makes = (p, refl, refl) }))
      (only_write h c k p)

  -- what a list tells of bearing k
  lists : List Call → ℕ → ℕ → Entry
  lists h c k = record { kind = 1; crew = c; write = record { bearing = k; version = on_page π c k (run π homes h) } }

  pub list_told : (h : List Call) (c : ℕ) (ks : List ℕ) → refusal π (run π homes h) (list c ks) ≡ 0
      → Told S h (list c ks) (map (λ k. record { kind = 1; crew = c; write = record { bearing = k; version = on_page π c k (run π homes h) } }) ks)
  unfolding lists
  list_told h c ks e = record {
    each = λ i l.
        let m = subst (λ (n : ℕ). i < n) (length-map ks (lists h c)) l in
        subst (λ (x : Entry). Tells S h (list c ks) x) (sym (nth_map (lists h c) ks i m))
        (a_read {w = record { bearing = get_or ks i 0; version = on_page π c (get_or ks i 0) (run π homes h) }} (record { passed = e; gets = inr (ks, refl, place_in ks i m, refl) }));
    all = λ x t.
        let p = found x t in
        (p.0, subst (λ (n : ℕ). p.0 < n) (sym (length-map ks (lists h c))) p.1, nth_map (lists h c) ks p.0 p.1 ∙ p.2);
    once = λ i j l m z n.
        let k = subst (λ (n : ℕ). j < n) (length-map ks (lists h c)) m in
        let one = ap (λ (x : Entry). x.kind) (nth_map (lists h c) ks i (omega arith)) in
        absurd (omega (arith, one, z));
  }
    where
      found : (x : Entry) → Tells S h (list c ks) x → (i : ℕ) × (i < length ks) × (lists h c (get_or ks i 0) ≡ x)
      found _ (a_write {c = b} {w = w} t) = absurd (let f = t.makes.1 in let z : ◌≡◌ {A = ℕ} 0 1 = cc in omega arith)
      found _ (a_read {c = b} {w = w} t) =
          ⊎_elim
          (λ (r : (list c ks ≡ read b w.bearing) × (w.version ≡ answered π b w.bearing (run π homes h))). absurd (let f = r.0 in let z : ◌≡◌ {A = ℕ} 0 1 = cc in omega arith))
          (λ (l : (js : List ℕ) × (list c ks ≡ list b js) × Memᴰ w.bearing js × (w.version ≡ on_page π b w.bearing (run π homes h))).
          let f = l.1 in
          let js = l.0 in
          let p : b ≡ c = cc in
          let q : js ≡ ks = cc in
          let at = in_place w.bearing ks (subst (λ (y : List ℕ). Memᴰ w.bearing y) q l.2) in (
            at.0,
            at.1,
            unfold lists in
                ap (lists h c) at.2
                ∙ ap₂ (λ (x : ℕ) (y : Version). record { kind = 1; crew = x; write = record { bearing = w.bearing; version = y } }) (sym p)
                (sym (l.3 ∙ ap (λ (x : ℕ). on_page π x w.bearing (run π homes h)) p)),
          ))
          t.gets

  telling : (h : List Call) (q : Call) → refusal π (run π homes h) q ≡ 0 → (new : List Entry) × Told S h q new
  telling h (read c k) e = (_, read_told h c k e)
  telling h (write c k p) e = (_, write_told h c k p e)
  telling h (tick d s) e =
      ([], quiet h _ (λ c k p. let z : ◌≡◌ {A = ℕ} 0 1 = cc in omega arith) (λ c k p. let z : ◌≡◌ {A = ℕ} 0 1 = cc in omega arith) (λ c k v p. let z : ◌≡◌ {A = ℕ} 0 1 = cc in omega arith))
  telling h (take d s o) e =
      ([], quiet h _ (λ c k p. let z : ◌≡◌ {A = ℕ} 0 1 = cc in omega arith) (λ c k p. let z : ◌≡◌ {A = ℕ} 0 1 = cc in omega arith) (λ c k v p. let z : ◌≡◌ {A = ℕ} 0 1 = cc in omega arith))
  telling h (refresh d s) e =
      ([], quiet h _ (λ c k p. let z : ◌≡◌ {A = ℕ} 0 1 = cc in omega arith) (λ c k p. let z : ◌≡◌ {A = ℕ} 0 1 = cc in omega arith) (λ c k v p. let z : ◌≡◌ {A = ℕ} 0 1 = cc in omega arith))
  telling h (move c d) e =
      ([], quiet h _ (λ b k p. let z : ◌≡◌ {A = ℕ} 0 1 = cc in omega arith) (λ b k p. let z : ◌≡◌ {A = ℕ} 0 1 = cc in omega arith) (λ b k v p. let z : ◌≡◌ {A = ℕ} 0 1 = cc in omega arith))
  telling h (list c ks) e = (_, list_told h c ks e)

  log : (h : List Call) → (es : List Entry) × Logged S h es
  log [] = ([], nothing)
  log (q ∷ h) =
      let l = log h in
      let t : (new : List Entry) × Told S h q new =
      ⊎_elim (telling h q) (λ (e : refusal π (run π homes h) q ≡ 0 → ⊥). ([], told_none (refused h q e))) (eq_or_ne (refusal π (run π homes h) q) 0) in
      (l.0 ++ t.0, call l.1 t.1)

  -- ---- they are orderly

  apart : (h : List Call) (q : Call) (c b k : ℕ) (w : Write) (v : Version) → Wrote S h q c w → Got S h q b k v → ⊥
  apart h q c b k w v t g =
      let e = t.makes.1 in
      answers_with g (λ a j f. let z : ◌≡◌ {A = ℕ} 0 1 = cc in omega arith) (λ a ks f. let z : ◌≡◌ {A = ℕ} 0 1 = cc in omega arith)

  -- a read answers with one version
  single : (h : List Call) (a i : ℕ) (c k j : ℕ) (v u : Version) → Got S h (read a i) c k v → Got S h (read a i) c j u → (k ≡ j) × (v ≡ u)
  single h a i c k j v u g f =
      let r = of_read g in
      let t = of_read f in
      let same : k ≡ j = r.1 ∙ sym t.1 in
      (same, r.2 ∙ ap (λ (x : ℕ). answered π c x (run π homes h)) same ∙ sym t.2)
    where
      of_read : {k : ℕ} {v : Version} → Got S h (read a i) c k v → (c ≡ a) × (k ≡ i) × (v ≡ answered π c k (run π homes h))
      of_read {k} {v} g =
          ⊎_elim
          (λ (r : (read a i ≡ read c k) × (v ≡ answered π c k (run π homes h))).
          let e = r.0 in
          let x : c ≡ a = cc in
          let y : k ≡ i = cc in
          (x, y, r.1))
          (λ (l : (ks : List ℕ) × (read a i ≡ list c ks) × Memᴰ k ks × (v ≡ on_page π c k (run π homes h))). absurd (let e = l.1 in let z : ◌≡◌ {A = ℕ} 0 1 = cc in omega arith))
          g.gets

  one : (h : List Call) (q : Call) (c b : ℕ) (v w : Write) → Wrote S h q c v → Wrote S h q b w → (c ≡ b) × (v ≡ w)
  one h q c b v w t u =
      let e = t.makes.1 in
      let f = u.makes.1 in
      let p : c ≡ b = cc in
      (p, wrote_same π homes (at t e) ∙ sym (wrote_same π homes (at u e)))
    where
      at : {a : ℕ} {x : Write} {q' : Call} → Wrote S h q a x → q ≡ q' → Wrote S h q' a x
      at {a} {x} t e = subst (λ (r : Call). Wrote S h r a x) e t

  depots_few : setup π homes ≡ 0 → π.depots ≤ 4
  unfolding setup within first
  depots_few e =
      ⊎_elim
      (λ (l : π.depots ≤ 4). l)
      (λ (l : 4 < π.depots).
      let out : leb 1 π.depots && leb π.depots 4 ≡ false = ap (λ (b : Bool). leb 1 π.depots && b) (lt-leb π.depots 4 l) ∙ and-false (leb 1 π.depots) in
      let wrong = sym (pick_true _ _ (ap not (and_stop _ out))) ∙ e in
      absurd (omega (arith, wrong)))
      (le_or_lt π.depots 4)

  -- no answer is lower than a write to that bearing in the crew's past, the call's other answers counted
  page : setup π homes ≡ 0 → (h : List Call) (q : Call) (c k : ℕ) (v : Version) → Got S h q c k v → (w : Write) → w.bearing ≡ k → Past π S (q ∷ h) c w → AtLeast π.depots v w.version
  page e h q c k v g w same p =
      ⊎_elim
      (λ (r : (q ≡ read c k) × (v ≡ answered π c k (run π homes h))).
      let a = r.0 in
      page_of_one π S (demand2 π homes e) apart h (read c k) (single h c k) c k v (subst (λ (x : Call). Got S h x c k v) a g) w same (subst (λ (x : Call). Past π S (x ∷ h) c w) a p))
      (λ (l : (ks : List ℕ) × (q ≡ list c ks) × Memᴰ k ks × (v ≡ on_page π c k (run π homes h))).
      subst₂ (λ (y : Version) (j : ℕ). AtLeast π.depots y w.version) (ap (λ (j : ℕ). on_page π c j (run π homes h)) same ∙ sym l.3) same
      (list_past π homes (setting_up π homes e) h c l.0 (subst (λ (x : Call). refusal π (run π homes h) x ≡ 0) l.1 g.passed) w
      (subst (λ (x : Call). Past π S (x ∷ h) c w) l.1 p)))
      g.gets

  orderly : setup π homes ≡ 0 → Orderly π S
  orderly e = record {
    origin = λ h w m. ((inv π homes (setting_up π homes e) h).good w m).rests.depot;
    clock = λ h w m. ((inv π homes (setting_up π homes e) h).good w m).clock;
    one = one;
    apart = apart;
    page = page e;
  }

  pub model_passes : setup π homes ≡ 0 → Passes π S
  model_passes e = record { logged = log; causal = λ h es l short. passing π S (depots_few e) (demand2 π homes e) (orderly e) es l short }
