-- Every write in a crew's past is below the crew's vector, entry by entry; so at the home shelf, raised with that vector and shown, it can be
-- neither held nor coming: it is stored, or a greater one is.
-- Assumes nothing.
use Prim.Native.Nat.{ℕ, ◌≤◌, ◌<◌, max}
use native.Mathlib.Omega.{arith}
use native.Mathlib.Nat.{le_refl, le_trans}
use mathlib.Core.Path.{◌≡◌, sym, subst, subst₂, ap, ◌∙◌}
use mathlib.Core.Logic.{◌⊎◌, ⊎_elim}
use mathlib.Core.Bool.{true, false}
use mathlib.Core.List.{List, ◌∷◌}
use Rattle.order.specs.Vector.{Vec, merged, zeros}
use Rattle.order.specs.Order.{above}
use Rattle.order.proofs.OrderLaws.{above_entrywise}
use Rattle.order.proofs.VectorLaws.{covered_intro}
use Rattle.loops.proofs.BoolLaws.{both_ways}
use Rattle.model.specs.Parts.{Counts, Version, Write, State, rank, stamp, set_shelf, set_crew, stamp_of, unwritten}
use Rattle.model.specs.Rules.{settled, clear, keep, emit, send}
use Rattle.paper.specs.declared.answer.Payload.{Payload}
use Rattle.paper.specs.Calls.{Call, read, write, list}
use Rattle.model.specs.Calls.{gathered, shelf_of, home_shelf, answered, on_page, made, refusal, reading, listing, acted}
use Rattle.model.specs.System.{of_model, run}
use Rattle.model.specs.Demands.{Wrote, Got, MadeAt, now, earlier, Made, Past, wrote, got, kept, under}
use Rattle.model.proofs.Places.{put_all, put_same, Other}
use Rattle.model.proofs.Showing.{AtMost, at_most_trans}
use Rattle.model.proofs.Chains.{chain_member}
use Rattle.model.proofs.Invariant.{Stands, stored, held, coming, unwritten_zeros}
use Rattle.model.proofs.Settling.{raised_offered, settled_rises, settled_has}
use Rattle.model.proofs.Refusals.{read_passed, write_passed, list_passed, SetUp, shelf_below}
use Rattle.model.proofs.Pages.{gathered_has, page_made}
use Rattle.model.proofs.Steps.{answered_made}
use Rattle.model.proofs.Histories.{run_done, made_more, inv, call_changes}

module _ (π : Counts) (homes : List ℕ) where
  -- a write leaves its vector with the crew, a read the entrywise maximum
  write_crew : (h : List Call) (c k : ℕ) (v : Payload) → refusal π (run π homes h) (write c k v) ≡ 0 → (run π homes (write c k v ∷ h)).crew c ≡ (made π c k v (run π homes h)).vector
  unfolding acted send emit keep set_shelf set_crew
  write_crew h c k v e = ap (λ (σ : State). σ.crew c) (run_done π homes h (write c k v) e) ∙ put_same c _ _

  read_crew : (h : List Call) (c k : ℕ) → refusal π (run π homes h) (read c k) ≡ 0 → (run π homes (read c k ∷ h)).crew c ≡ merged ((run π homes h).crew c) (answered π c k (run π homes h)).vector
  unfolding acted reading answered home_shelf set_shelf set_crew
  read_crew h c k e = ap (λ (σ : State). σ.crew c) (run_done π homes h (read c k) e) ∙ put_same c _ _

  pub list_crew : (h : List Call) (c : ℕ) (ks : List ℕ) → refusal π (run π homes h) (list c ks) ≡ 0
      → (run π homes (list c ks ∷ h)).crew c ≡ gathered ((run π homes h).crew c) (λ k. (on_page π c k (run π homes h)).vector) ks
  unfolding acted listing on_page set_crew
  list_crew h c ks e = ap (λ (σ : State). σ.crew c) (run_done π homes h (list c ks) e) ∙ put_same c _ _

  -- a write is above its author's vector when it was made
  pub made_above : {h g : List Call} {b : ℕ} {w : Write} → MadeAt (of_model π homes) h g b w → (x : ℕ) → (run π homes g).crew b x ≤ w.version.vector x
  made_above (now {h = g} {q = q} {c = b} {w = w} t) x = subst (λ (y : Version). (run π homes g).crew b x ≤ y.vector x) (sym t.makes.2) (up x)
    where
      p : refusal π (run π homes g) (write b w.bearing t.makes.0) ≡ 0
      p = subst (λ y. refusal π (run π homes g) y ≡ 0) t.makes.1 t.passed

      up : (x : ℕ) → (run π homes g).crew b x ≤ (made π b w.bearing t.makes.0 (run π homes g)).vector x
      up = unfold made in put_all (λ x y. (run π homes g).crew b x ≤ y) _ (le_trans (write_passed π _ b _ _ p).ready (omega arith)) (λ x apart. le_refl _)
  made_above (earlier t) x = made_above t x

  -- and strictly so in its stamp
  made_strict : {h g : List Call} {b : ℕ} {w : Write} → MadeAt (of_model π homes) h g b w → (run π homes g).crew b w.version.origin < stamp w.version
  unfolding made
  made_strict (now {h = g} {q = q} {c = b} {w = w} t) =
      let p = (write_passed π _ b _ _ (subst (λ y. refusal π (run π homes g) y ≡ 0) t.makes.1 t.passed)).ready in
      subst (λ (y : Version). (run π homes g).crew b y.origin < stamp y) (sym t.makes.2)
      (subst (λ n. (run π homes g).crew b ((run π homes g).home b) < n) (sym (put_same ((run π homes g).home b) _ _)) (omega arith))
  made_strict (earlier t) = made_strict t

  wrote_below : {h : List Call} {q : Call} {c : ℕ} {w : Write} → Wrote (of_model π homes) h q c w → (x : ℕ) → w.version.vector x ≤ (run π homes (q ∷ h)).crew c x
  wrote_below {h} {q} {c} {w} t x = subst (λ y. w.version.vector x ≤ (run π homes (y ∷ h)).crew c x) (sym t.makes.1)
      (same (ap (λ (v : Version). v.vector x) t.makes.2 ∙ sym (ap (λ (v : Vec). v x)
      (write_crew h c w.bearing t.makes.0 (subst (λ y. refusal π (run π homes h) y ≡ 0) t.makes.1 t.passed)))))
    where
      same : {a b : ℕ} → a ≡ b → a ≤ b
      same e = omega arith

  got_below : {h : List Call} {q : Call} {c : ℕ} {w : Write} → Got (of_model π homes) h q c w.bearing w.version → (x : ℕ) → w.version.vector x ≤ (run π homes (q ∷ h)).crew c x
  unfolding merged
  got_below {h} {q} {c} {w} t x = ⊎_elim
      (λ r. subst (λ y. w.version.vector x ≤ (run π homes (y ∷ h)).crew c x) (sym r.0)
      (under_max ((run π homes h).crew c x) (ap (λ (v : Version). v.vector x) r.1)
      (ap (λ (v : Vec). v x) (read_crew h c w.bearing (subst (λ y. refusal π (run π homes h) y ≡ 0) r.0 t.passed)))))
      (λ l. subst (λ y. w.version.vector x ≤ (run π homes (y ∷ h)).crew c x) (sym l.1)
      (subst₂ (λ (a : Version) (b : Vec). a.vector x ≤ b x) (sym l.3) (sym (list_crew h c l.0 (subst (λ y. refusal π (run π homes h) y ≡ 0) l.1 t.passed)))
      (gathered_has _ (λ k. (on_page π c k (run π homes h)).vector) l.0 w.bearing l.2 x)))
      t.gets
    where
      under_max : {a b n : ℕ} (m : ℕ) → a ≡ b → n ≡ max m b → a ≤ n
      under_max m e f = omega arith

  pub made_since : {h g : List Call} {b : ℕ} {v w : Write} → MadeAt (of_model π homes) h g b v → Made (of_model π homes) g w → Made (of_model π homes) h w
  made_since (now t) m = made_more π homes _ m
  made_since (earlier t) m = made_more π homes _ (made_since t m)

  module _ (u : SetUp π homes) where
    pub past_below : {h : List Call} {c : ℕ} {w : Write} → Past π (of_model π homes) h c w → (x : ℕ) → w.version.vector x ≤ (run π homes h).crew c x
    past_below (wrote t) x = wrote_below t x
    past_below (got t z) x = got_below t x
    past_below (kept p) x = le_trans (past_below p x) ((call_changes π homes u _ _).grows.crew _ x)
    past_below (under p m r) x = le_trans (past_below r x) (le_trans (made_above m x) (past_below p x))

    -- what a crew read was made
    got_made : {h : List Call} {q : Call} {c : ℕ} {w : Write} → Got (of_model π homes) h q c w.bearing w.version → zeros π.depots w.version.vector ≡ false → Made (of_model π homes) h w
    got_made {h} {q} {c} {w} t z = ⊎_elim
        (λ r. is r.1 (answered_made π (Made (of_model π homes) h) (run π homes h) (inv π homes u h).sound (shelf_below π u) c w.bearing
        (read_passed π _ c w.bearing (subst (λ y. refusal π (run π homes h) y ≡ 0) r.0 t.passed)).crew))
        (λ l. is l.3 (page_made π c (run π homes h) (Made (of_model π homes) h) (inv π homes u h).sound
        (list_passed π _ c l.0 (subst (λ y. refusal π (run π homes h) y ≡ 0) l.1 t.passed)).crew (shelf_below π u) w.bearing))
        t.gets
      where
        is : {v : Version} → w.version ≡ v → (v ≡ unwritten) ⊎ Made (of_model π homes) h (record { bearing = w.bearing; version = v }) → Made (of_model π homes) h w
        is e m = ⊎_elim
            (λ a. absurd (both_ways (unwritten_zeros π.depots (e ∙ a)) z))
            (λ m. subst (λ (v : Version). Made (of_model π homes) h (record { bearing = w.bearing; version = v })) (sym e) m)
            m

    pub past_made : {h : List Call} {c : ℕ} {w : Write} → Past π (of_model π homes) h c w → Made (of_model π homes) h w
    past_made (wrote t) = record { before = _; author = _; at = now t }
    past_made (got t z) = made_more π homes _ (got_made t z)
    past_made (kept p) = made_more π homes _ (past_made p)
    past_made (under p m r) = made_since m (past_made r)

    -- what was in its author's past when a write was made is below it
    pub rests_on_lower : (h g : List Call) (b : ℕ) (v w : Write) → MadeAt (of_model π homes) h g b v → Past π (of_model π homes) g b w
        → above π.depots (rank v.version) (rank w.version) ≡ true
    rests_on_lower h g b v w m p =
        above_entrywise π.depots (rank v.version) (rank w.version) (λ x hx. le_trans (past_below p x) (made_above m x)) v.version.origin
        ((inv π homes u h).good v (record { before = g; author = b; at = m })).rests.depot
        (let a = past_below p v.version.origin in let s = made_strict m in omega arith)

    -- at a depot d whose shelves have seen the vector v, a shelf raised with v and shown stores every write that v covers, or a greater one
    pub offered_has : (h : List Call) (w : Write) → Made (of_model π homes) h w → (d : ℕ) (v : Vec) → d < π.depots
        → ((r x : ℕ) → r < π.shelves → Other π.depots d x → v x ≤ ((run π homes h).shelf d r).seen x)
        → ((x : ℕ) → Other π.depots d x → w.version.vector x ≤ v x)
        → AtMost π.depots w.version ((settled π.depots d v ((run π homes h).shelf d (shelf_of π w.bearing))).store w.bearing)
    offered_has h w m d v hd seen below = by (((inv π homes u h).good w m).stands d hd)
      where
        s : ℕ
        s = shelf_of π w.bearing

        by : Stands π (run π homes h) w d → AtMost π.depots w.version ((settled π.depots d v ((run π homes h).shelf d s)).store w.bearing)
        by (stored t) = at_most_trans t (settled_rises π.depots d v ((run π homes h).shelf d s) w.bearing)
        by (held o m) = settled_has π.depots d v ((run π homes h).shelf d s) w.version.origin o.below m
            (unfold clear in covered_intro π.depots d _ _ (λ x hx apart.
            let t : Other π.depots d x = record { below = hx; apart = apart } in le_trans (below x t) (raised_offered π.depots d v _ x t)))
        by (coming o m) = absurd (unfold stamp_of in
            let a = chain_member _ _ _ ((inv π homes u h).sound.chain d s w.version.origin hd (shelf_below π u w.bearing) o) m in
            let b = below w.version.origin o in
            let f = seen s w.version.origin (shelf_below π u w.bearing) o in
            omega arith)

    pub causal : {h : List Call} {c : ℕ} {w : Write} → Past π (of_model π homes) h c w → refusal π (run π homes h) (read c w.bearing) ≡ 0 → AtMost π.depots w.version
        (answered π c w.bearing (run π homes h))
    unfolding answered home_shelf
    causal {h} {c} {w} p e =
        let rests = (inv π homes u h).sound.crews c (read_passed π (run π homes h) c w.bearing e).crew in
        offered_has h w (past_made p) ((run π homes h).home c) ((run π homes h).crew c) rests.depot rests.seen (λ x o. past_below p x)
