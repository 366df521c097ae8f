-- Nothing lost on a link: what a link holds is, in order, what was put on it and is not covered at the far shelf; and where no link holds a copy, every write
-- made is stored at every depot, or a greater one, so that all store the same.
-- Assumes nothing.
use Prim.Native.Nat.{ℕ, ◌+◌, ◌<◌}
use native.Mathlib.Omega.{arith}
use mathlib.Core.Path.{◌≡◌, refl, sym, subst, subst₂, ap, ap₂, ◌∙◌}
use mathlib.Core.Logic.{◌⊎◌, inl, inr, ⊎_elim}
use mathlib.Core.Bool.{Bool, true, false, ◌&&◌}
use mathlib.Core.List.Memᴰ
use mathlib.Core.List.{List, [], ◌∷◌, ◌++◌, append-nil, Memᴰ}
use lib.Dec.{eqb}
use borrow.Author.Tests.{eqb-true, eq-eqb, ne_eqb}
use lib.ListN.{length, length-append}
use Rattle.order.specs.Order.{above}
use Rattle.loops.proofs.BoolLaws.{decided, eq_or_ne, both_ways, and_left, and_right, and_intro, pick_true, pick_false}
use Rattle.order.proofs.OrderLaws.{above_unwritten, above_asym}
use Rattle.paper.specs.declared.answer.Payload.{Payload}
use Rattle.paper.specs.Calls.{Call, read, write, tick, take, refresh, move, list}
use Rattle.model.specs.Parts.{Counts, Version, Write, Message, copy, State, rank, stamp_of, unwritten}
use Rattle.model.specs.Rules.{clear, left, held_of, copies}
use Rattle.model.specs.Calls.{setup, shelf_of, made, refusal}
use Rattle.model.specs.System.{of_model, run}
use Rattle.model.specs.Demands.{AtLeast, Wrote, Got, Made, NotInvented, ReadAnswers, Demand2}
use Rattle.model.specs.Demands as demands
use Rattle.model.specs.Links.{passing, Accepted, Sent, begin, more, same, From, covered_at, Lossless, Bare, NothingLost}
use Rattle.model.proofs.Places.{Other}
use Rattle.model.proofs.Showing.{AtMost, left_from}
use Rattle.model.proofs.Chains.{chain_member}
use Rattle.model.proofs.Invariant.{Stands, stored, held, coming, ShelfSound, Sound, unwritten_zeros}
use Rattle.model.proofs.Taking.{held_of_from, held_of_has}
use Rattle.model.proofs.Refusals.{SetUp, setting_up, read_passed, list_passed, shelf_below}
use Rattle.model.proofs.Histories.{made_more, made_cases, made_never, inv, history_grows}
use Rattle.model.proofs.Unique.{wrote_one, at_least}
use Rattle.model.proofs.Demand2.{demand2}
use Rattle.model.proofs.Linked.{puts, put_in, Linked, left_both, left_none, passing_both, passing_none, passing_counts, coming_hidden, history_linked}
use Rattle.model.proofs.Coming.{comes_taken, comes_on}

copies_from : {w : Write} (l : List Message) → Memᴰ w (copies l) → Memᴰ (copy w) l
unfolding copies
copies_from [] i = absurd (Memᴰ.not-nil i)
copies_from (m ∷ l) i = ⊎_elim (λ i. Memᴰ.head (held_of_from m i)) (λ i. Memᴰ.tail (copies_from l i)) (Memᴰ.append_cases (held_of m) i)

copies_has : {w : Write} (l : List Message) → Memᴰ (copy w) l → Memᴰ w (copies l)
unfolding copies
copies_has [] i = absurd (Memᴰ.not-nil i)
copies_has {w} (m ∷ l) i = ⊎_elim (λ (e : copy w ≡ m). Memᴰ.append_left (copies l) (held_of_has m e)) (λ (i : Memᴰ (copy w) l). Memᴰ.append_right (held_of m) (copies_has l i)) (Memᴰ.cases_cons i)

module _ (π : Counts) (homes : List ℕ) where
  -- an accepted write of a shelf makes its version there, and a version that was made there is an accepted write's
  accepted_from : {h : List Call} {q : Call} {o s : ℕ} {w : Write} (a : Accepted π (of_model π homes) h q o s) → Wrote (of_model π homes) h q a.crew w → From π (of_model π homes) o s w
  unfolding made
  accepted_from {w = w} a t =
      let one = a.asked in let two = t.makes.1 in let bearing : w.bearing ≡ a.bearing = cc in
      (ap (λ (v : Version). v.origin) t.makes.2 ∙ a.home, ap (shelf_of π) bearing ∙ a.shelf)

  from_accepted : {h : List Call} {q : Call} {o s c : ℕ} {w : Write} → Wrote (of_model π homes) h q c w → From π (of_model π homes) o s w → Accepted π (of_model π homes) h q o s
  unfolding made
  from_accepted {c = c} {w = w} t f = record {
    crew = c;
    bearing = w.bearing;
    payload = t.makes.0;
    asked = t.makes.1;
    passed = t.passed;
    home = sym (ap (λ (v : Version). v.origin) t.makes.2) ∙ f.0;
    shelf = f.1;
  }

  sent_one : {o s : ℕ} {h : List Call} {l m : List Write} → Sent π (of_model π homes) o s h l → Sent π (of_model π homes) o s h m → l ≡ m
  sent_one begin begin = refl
  sent_one (more a b t) (more x y u) = ap₂ (λ (x : List Write) (y : Write). x ++ (y ∷ [])) (sent_one a x) (wrote_one π homes t u)
  sent_one (more a b t) (same x n) = absurd (n b)
  sent_one (same a n) (more x y u) = absurd (n y)
  sent_one (same a n) (same x m) = sent_one a x

  sent_from : {o s : ℕ} {h : List Call} {l : List Write} {w : Write} → Sent π (of_model π homes) o s h l → Memᴰ w l → Made (of_model π homes) h w × From π (of_model π homes) o s w
  sent_from begin i = absurd (Memᴰ.not-nil i)
  sent_from {o} {s} {w = w} (more {h = h} {l = l} {q = q} {w = v} a b t) i = ⊎_elim
      (λ i. let p = sent_from a i in (made_more π homes w p.0, p.1))
      (λ i. subst (λ w. Made (of_model π homes) (q ∷ h) w × From π (of_model π homes) o s w) (sym (Memᴰ.eq_of_singleton i))
      (record { before = h; author = b.crew; at = demands.now t }, accepted_from b t))
      (Memᴰ.append_cases l i)
  sent_from {w = w} (same a n) i = let p = sent_from a i in (made_more π homes w p.0, p.1)

  sent_has : {o s : ℕ} {h : List Call} {l : List Write} {w : Write} → Sent π (of_model π homes) o s h l → Made (of_model π homes) h w → From π (of_model π homes) o s w → Memᴰ w l
  sent_has begin m f = absurd (made_never π homes m)
  sent_has (more {l = l} a b t) m f = ⊎_elim
      (λ u. Memᴰ.append_right l (Memᴰ.head (wrote_one π homes u.1 t)))
      (λ m. Memᴰ.append_left _ (sent_has a m f))
      (made_cases π homes m)
  sent_has (same a n) m f = ⊎_elim (λ u. absurd (n (from_accepted u.1 f))) (λ m. sent_has a m f) (made_cases π homes m)

  -- what a call puts on a link is what it wrote there
  none_put : {h : List Call} {q : Call} {o s : ℕ} {l : List Write} → Sent π (of_model π homes) o s h l → (Accepted π (of_model π homes) h q o s → ⊥) → Sent π (of_model π homes) o s (q ∷ h) (l ++ [])
  none_put {o = o} {s = s} {l = l} t n = subst (Sent π (of_model π homes) o s _) (sym (append-nil l)) (same t n)

  one_put : (h : List Call) (q : Call) (o s : ℕ) (l : List Write) → refusal π (run π homes h) q ≡ 0 → Sent π (of_model π homes) o s h l → Sent π (of_model π homes) o s (q ∷ h) (l ++ puts π (run π homes h) q o s)
  unfolding puts
  one_put h (read c k) o s l e t = none_put t (λ a. let call = a.asked in let n : ◌≡◌ {A = ℕ} 0 1 = cc in omega arith)
  one_put h (tick d r) o s l e t = none_put t (λ a. let call = a.asked in let n : ◌≡◌ {A = ℕ} 0 1 = cc in omega arith)
  one_put h (take d r p) o s l e t = none_put t (λ a. let call = a.asked in let n : ◌≡◌ {A = ℕ} 0 1 = cc in omega arith)
  one_put h (refresh d r) o s l e t = none_put t (λ a. let call = a.asked in let n : ◌≡◌ {A = ℕ} 0 1 = cc in omega arith)
  one_put h (move c d) o s l e t = none_put t (λ a. let call = a.asked in let n : ◌≡◌ {A = ℕ} 0 1 = cc in omega arith)
  one_put h (list c ks) o s l e t = none_put t (λ a. let call = a.asked in let n : ◌≡◌ {A = ℕ} 0 1 = cc in omega arith)
  one_put h (write c k p) o s l e t = ⊎_elim
      (λ (y : here ≡ true). subst (λ x. Sent π (of_model π homes) o s (write c k p ∷ h) (l ++ x)) (sym (pick_true _ _ y))
      (more t (mine y) (record { passed = e; makes = (p, refl, refl) })))
      (λ (y : here ≡ false). subst (λ x. Sent π (of_model π homes) o s (write c k p ∷ h) (l ++ x)) (sym (pick_false _ _ y))
      (none_put t (λ a. both_ways (is_here a) y)))
      (decided here)
    where
      here : Bool
      here = eqb o ((run π homes h).home c) && eqb s (shelf_of π k)

      mine : here ≡ true → Accepted π (of_model π homes) h (write c k p) o s
      mine y = record {
        crew = c;
        bearing = k;
        payload = p;
        asked = refl;
        passed = e;
        home = sym (eqb-true o _ (and_left (eqb o ((run π homes h).home c)) (eqb s (shelf_of π k)) y));
        shelf = sym (eqb-true s _ (and_right (eqb o ((run π homes h).home c)) (eqb s (shelf_of π k)) y));
      }

      is_here : Accepted π (of_model π homes) h (write c k p) o s → here ≡ true
      is_here a =
          let call = a.asked in let crew : c ≡ a.crew = cc in let bearing : k ≡ a.bearing = cc in
          and_intro (eq-eqb o _ (sym (ap (run π homes h).home crew ∙ a.home))) (eq-eqb s _ (sym (ap (shelf_of π) bearing ∙ a.shelf)))

  pub sent_is : (h : List Call) (o s : ℕ) → Sent π (of_model π homes) o s h (put_in π homes h o s)
  unfolding put_in
  sent_is [] o s = begin
  sent_is (q ∷ h) o s = ⊎_elim
      (λ (e : refusal π (run π homes h) q ≡ 0). subst (λ x. Sent π (of_model π homes) o s (q ∷ h) (put_in π homes h o s ++ x)) (sym (pick_true _ _ (eq-eqb _ _ e)))
      (one_put h q o s _ e (sent_is h o s)))
      (λ (e : refusal π (run π homes h) q ≡ 0 → ⊥). subst (λ x. Sent π (of_model π homes) o s (q ∷ h) (put_in π homes h o s ++ x)) (sym (pick_false _ _ (ne_eqb _ _ e)))
      (none_put (sent_is h o s) (λ a. e a.passed)))
      (eq_or_ne (refusal π (run π homes h) q) 0)

module _ (π : Counts) (homes : List ℕ) (u : SetUp π homes) where
  module _ (h : List Call) (d s o : ℕ) (hd : d < π.depots) (hs : s < π.shelves) (a : Other π.depots d o) where
    abbrev σ : State
    σ = run π homes h

    abbrev test : Write → Bool
    test = clear π.depots d (σ.shelf d s).stable

    link : Linked π.depots d (put_in π homes h o s) (σ.shelf d s).stable ((σ.shelf d s).taken o) ((σ.shelf d s).untaken o)
    link = history_linked π homes u h d s hd hs o a

    z : Sound π (Made (of_model π homes) h) σ
    z = (inv π homes u h).sound

    -- a copy not yet taken is not covered
    untaken_hidden : (w : Write) → Memᴰ w (copies ((σ.shelf d s).untaken o)) → test w ≡ false
    untaken_hidden w i = let m = copies_from ((σ.shelf d s).untaken o) i in
        coming_hidden π (Made (of_model π homes) h) σ z d s o hd hs a w ((z.shelf d s hd hs).untaken o w a m).origin (unfold stamp_of in chain_member _ _ _ (z.chain d s o hd hs a) m)

    all_held : (σ.shelf d s).taken o ++ copies ((σ.shelf d s).untaken o) ≡ left test (put_in π homes h o s)
    all_held = ap (λ l. l ++ copies ((σ.shelf d s).untaken o)) link.keeps ∙ ap (λ l. left test link.taken ++ l) (sym (left_none test _ untaken_hidden))
        ∙ sym (left_both test link.taken _) ∙ ap (left test) (sym link.whole)

    all_gone : passing test (put_in π homes h o s) ≡ passing test link.taken
    all_gone = ap (passing test) link.whole ∙ passing_both test link.taken _ ∙ ap (λ l. passing test link.taken ++ l) (passing_none test _ untaken_hidden) ∙ append-nil _

    counts : length (put_in π homes h o s) ≡ length (passing test link.taken) + (length ((σ.shelf d s).taken o) + length (copies ((σ.shelf d s).untaken o)))
    counts =
        let whole : length (put_in π homes h o s) ≡ length link.taken + length (copies ((σ.shelf d s).untaken o)) = ap length link.whole ∙ length-append link.taken _ in
        let parts = passing_counts test link.taken in
        let held : length ((σ.shelf d s).taken o) ≡ length (left test link.taken) = ap length link.keeps in
        omega arith

    -- a copy that is covered is stored, or a greater one
    covered_stored : (w : Write) → Memᴰ w (put_in π homes h o s) → test w ≡ true
        → AtLeast π.depots ((σ.shelf d (shelf_of π w.bearing)).store w.bearing) w.version
    covered_stored w i t = at_least π homes u h _ w c.0 (by (((inv π homes u h).good w c.0).stands d hd))
        ((z.shelf d (shelf_of π w.bearing) hd (shelf_below π u w.bearing)).stores w.bearing)
      where
        c : Made (of_model π homes) h w × From π (of_model π homes) o s w
        c = sent_from π homes (sent_is π homes h o s) i

        by : Stands π σ w d → AtMost π.depots w.version ((σ.shelf d (shelf_of π w.bearing)).store w.bearing)
        by (stored x) = x
        by (held b m) = absurd (both_ways t (left_from test link.taken (subst (λ l. Memᴰ w l) link.keeps
            (subst₂ (λ x y. Memᴰ w ((σ.shelf d y).taken x)) c.1.0 c.1.1 m))).1)
        by (coming b m) = absurd (both_ways t (untaken_hidden w (copies_has _ (subst₂ (λ x y. Memᴰ (copy w) ((σ.shelf d y).untaken x)) c.1.0 c.1.1 m))))

    lossless : Lossless π (of_model π homes) h d s o (put_in π homes h o s)
    unfolding covered_at clear
    lossless = record { taken = link.taken; whole = link.whole; held = link.keeps; holds = all_held; gone = all_gone; counted = counts; shown = covered_stored }

  module _ (h : List Call) (bare : Bare π (of_model π homes) h) where
    -- every write made is stored at every depot, or a greater one
    bare_stored : (w : Write) → Made (of_model π homes) h w → (d : ℕ) → d < π.depots → AtLeast π.depots (((run π homes h).shelf d (shelf_of π w.bearing)).store w.bearing) w.version
    bare_stored w m d hd = at_least π homes u h _ w m (by (((inv π homes u h).good w m).stands d hd))
        (((inv π homes u h).sound.shelf d (shelf_of π w.bearing) hd (shelf_below π u w.bearing)).stores w.bearing)
      where
        by : Stands π (run π homes h) w d → AtMost π.depots w.version (((run π homes h).shelf d (shelf_of π w.bearing)).store w.bearing)
        by (stored x) = x
        by (held a i) = absurd (Memᴰ.not-nil (subst (λ l. Memᴰ w l) (bare.taken d _ w.version.origin hd (shelf_below π u w.bearing) a.below a.apart) i))
        by (coming a i) = absurd (Memᴰ.not-nil (subst (λ l. Memᴰ w l) (bare.coming d _ w.version.origin hd (shelf_below π u w.bearing) a.below a.apart) (copies_has _ i)))

    -- two versions, each unwritten or made, of which neither is below the other if it was made
    module _ (v w : Version) where
      never_above : v ≡ unwritten → above π.depots (rank v) (rank w) ≡ true → ⊥
      never_above e t = both_ways t (above_unwritten π.depots (rank v) (rank w) (unwritten_zeros π.depots e))

    one_stored : (A B : Type 0) (v w : Version) → (v ≡ unwritten) ⊎ A → (w ≡ unwritten) ⊎ B → (A → AtLeast π.depots w v) → (B → AtLeast π.depots v w) → v ≡ w
    one_stored A B v w (inl e) (inl f) p q = e ∙ sym f
    one_stored A B v w (inl e) (inr b) p q = ⊎_elim (λ (s : v ≡ w). s) (λ (t : above π.depots (rank v) (rank w) ≡ true). absurd (never_above v w e t)) (q b)
    one_stored A B v w (inr a) (inl f) p q = ⊎_elim (λ (s : w ≡ v). sym s) (λ (t : above π.depots (rank w) (rank v) ≡ true). absurd (never_above w v f t)) (p a)
    one_stored A B v w (inr a) (inr b) p q = ⊎_elim (λ (s : v ≡ w). s)
        (λ (t : above π.depots (rank v) (rank w) ≡ true). ⊎_elim (λ (s : w ≡ v). sym s)
        (λ (r : above π.depots (rank w) (rank v) ≡ true). absurd (both_ways r (above_asym π.depots (rank v) (rank w) t))) (p a))
        (q b)

    bare_alike : (d e k : ℕ) → d < π.depots → e < π.depots → ((run π homes h).shelf d (shelf_of π k)).store k ≡ ((run π homes h).shelf e (shelf_of π k)).store k
    bare_alike d e k hd he = one_stored _ _ _ _ ((z d hd).stores k) ((z e he).stores k) (λ m. bare_stored _ m e he) (λ m. bare_stored _ m d hd)
      where
        z : (d : ℕ) → d < π.depots → ShelfSound π (Made (of_model π homes) h) d (shelf_of π k) ((run π homes h).shelf d (shelf_of π k))
        z d hd = (inv π homes u h).sound.shelf d (shelf_of π k) hd (shelf_below π u k)

    -- so is what anybody is answered with: it is no lower than what the home shelf stored, and was made
    bare_answered : Demand2 π (of_model π homes) → (q : Call) (c k : ℕ) (v : Version) → Got (of_model π homes) h q c k v → (d : ℕ) → d < π.depots → ((run π homes h).shelf d (shelf_of π k)).store k ≡ v
    bare_answered D q c k v g d hd = bare_alike d house k hd housed ∙ one_stored _ _ _ v (stores k) R.written
        (λ m. at_least π homes u h v _ m (subst (AtMost π.depots _) R.stored ((history_grows π homes u (q ∷ []) h).store house _ k)) R.written)
        (λ m. bare_stored _ m house housed)
      where
        R : ReadAnswers π (of_model π homes) h q c k v
        R = D.reads h q c k v g

        house : ℕ
        house = (run π homes h).home c

        named : c < π.crews
        named = ⊎_elim
            (λ r. (read_passed π _ c k (subst (λ q. refusal π (run π homes h) q ≡ 0) r.0 g.passed)).crew)
            (λ l. (list_passed π _ c l.0 (subst (λ q. refusal π (run π homes h) q ≡ 0) l.1 g.passed)).crew)
            g.gets

        housed : house < π.depots
        housed = ((inv π homes u h).sound.crews c named).depot

        stores : (k : ℕ) → NotInvented π (of_model π homes) h k (((run π homes h).shelf house (shelf_of π k)).store k)
        stores k = ((inv π homes u h).sound.shelf house (shelf_of π k) housed (shelf_below π u k)).stores k

pub nothing_lost : (π : Counts) (homes : List ℕ) → setup π homes ≡ 0 → NothingLost π (of_model π homes)
nothing_lost π homes e = record {
  sent = λ h o s. (put_in π homes h o s, sent_is π homes h o s);
  one = λ h o s l m. sent_one π homes;
  sent_made = λ h o s l w. sent_from π homes;
  made_sent = λ h o s l w. sent_has π homes;
  takes = λ h d s o hd hs ho n. comes_taken π d s o homes h;
  stays = λ h q d s o hd hs ho n. comes_on π d s o homes h q;
  lossless = λ h d s o l hd hs ho n t. subst (Lossless π (of_model π homes) h d s o) (sent_one π homes (sent_is π homes h o s) t)
      (lossless π homes (setting_up π homes e) h d s o hd hs (record { below = ho; apart = n }));
  all_stored = λ h bare. bare_stored π homes (setting_up π homes e) h bare;
  alike = λ h bare d e' k hd he hk. bare_alike π homes (setting_up π homes e) h bare d e' k hd he;
  answered = λ h bare. bare_answered π homes (setting_up π homes e) h bare (demand2 π homes e);
}
