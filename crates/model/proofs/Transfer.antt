-- A system that follows another meets the demands that the other meets. Each sentence looks at both through the same history.
-- Assumes nothing.
use Prim.Native.Nat.{ℕ, suc, ◌+◌, ◌-◌, ◌≤◌, ◌<◌, min, max}
use native.Mathlib.Nat.{mod-lt}
use mathlib.Core.Path.{◌≡◌, refl, sym, ◌∙◌, ap, ap₂, subst, subst₂}
use mathlib.Core.Logic.{inl, inr, ⊎_elim}
use mathlib.Core.Bool.{true}
use mathlib.Core.List.{List, [], ◌∷◌, ◌++◌}
use lib.ListN.{length}
use Rattle.order.specs.Vector.{Vec, covered, merged}
use Rattle.order.specs.Order.{above}
use Rattle.order.proofs.VectorLaws.{covered_same}
use Rattle.loops.proofs.LoopLaws.{times_same}
use Rattle.model.specs.Parts.{Counts, Version, Write, rank, stamp, lowest, end, room}
use Rattle.paper.specs.Calls.{Call, read, write, tick, take, move, list, number_in}
use Rattle.model.specs.Calls.{told, gathered, shelf_of}
use Rattle.model.specs.System.{System, after}
use Rattle.model.specs.Follows.{Alike, Follows}
use Rattle.model.specs.Page.{OnePage}
use Rattle.model.specs.Links as links
use Rattle.model.specs.Links.{passing, Accepted, Sent, covered_at, Bare, NothingLost}
use Rattle.model.specs.Rules.{left}
use Rattle.model.specs.Demands as demands
use Rattle.model.specs.Demands.{AtLeast, Tells, Dated, Carded, Silent, Wrote, Got, MadeAt, now, earlier, Made, Past, wrote, got, kept, under}
use Rattle.model.specs.Demands.{NotInvented, WriteAnswers, Demand2, Round, Rounds, lowest_clock, Demand3, Limits, Demands}
use Rattle.model.specs.Moves.{lowest_stamp, Behind, Moves}

-- an entry of a maximum is that of what it is taken of
gathered_at : (x : ℕ) (u v : Vec) (f : ℕ → Vec) (ks : List ℕ) → u x ≡ v x → gathered u f ks x ≡ gathered v f ks x
unfolding gathered merged
gathered_at x u v f [] e = e
gathered_at x u v f (k ∷ ks) e = gathered_at x (merged u (f k)) (merged v (f k)) f ks (ap (λ n. max n (f k x)) e)

-- a round of one system is a round of another that has the same numbers
round_by : {π : Counts} {S T : System} → ((h : List Call) (q : Call) → T.number (after T h) q ≡ S.number (after S h) q) → {g h : List Call} → Round π S g h → Round π T g h
round_by same {g} r = record {
  takes = r.takes;
  refreshes = r.refreshes;
  ticks = r.ticks;
  are_takes = r.are_takes;
  are_refreshes = r.are_refreshes;
  are_ticks = r.are_ticks;
  emptied = λ d s o hd hs ho n. same (r.takes ++ g) (take d s o) ∙ r.emptied d s o hd hs ho n;
  refreshed = r.refreshed;
  ticked = r.ticked;
  ends = r.ends;
}

module _ {π : Counts} {S T : System} (f : Follows π S T) where
  -- the state after every history
  pub sees : (h : List Call) → f.Sees (after S h) (after T h)
  unfolding after
  sees [] = f.start
  sees (q ∷ h) = f.next (sees h) q

  pub alike : (h : List Call) → Alike π S T (after S h) (after T h)
  alike h = f.alike (sees h)

  -- ---- writes, and the past of a crew

  wrote_to : {h : List Call} {q : Call} {c : ℕ} {w : Write} → Wrote S h q c w → Wrote T h q c w
  wrote_to {h} {q} {c} {w} t = let p = sym ((alike h).number q) ∙ t.passed in record { passed = p; makes = (alike h).makes_to q c w p t.makes }

  wrote_from : {h : List Call} {q : Call} {c : ℕ} {w : Write} → Wrote T h q c w → Wrote S h q c w
  wrote_from {h} {q} {c} {w} t = record { passed = (alike h).number q ∙ t.passed; makes = (alike h).makes_from q c w t.passed t.makes }

  got_to : {h : List Call} {q : Call} {c k : ℕ} {v : Version} → Got S h q c k v → Got T h q c k v
  got_to {h} {q} {c} {k} {v} t = let p = sym ((alike h).number q) ∙ t.passed in record { passed = p; gets = (alike h).gets_to q c k v p t.gets }

  got_from : {h : List Call} {q : Call} {c k : ℕ} {v : Version} → Got T h q c k v → Got S h q c k v
  got_from {h} {q} {c} {k} {v} t = record { passed = (alike h).number q ∙ t.passed; gets = (alike h).gets_from q c k v t.passed t.gets }

  at_to : {h g : List Call} {c : ℕ} {w : Write} → MadeAt S h g c w → MadeAt T h g c w
  at_to (now t) = now (wrote_to t)
  at_to (earlier m) = earlier (at_to m)

  at_from : {h g : List Call} {c : ℕ} {w : Write} → MadeAt T h g c w → MadeAt S h g c w
  at_from (now t) = now (wrote_from t)
  at_from (earlier m) = earlier (at_from m)

  made_to : {h : List Call} {w : Write} → Made S h w → Made T h w
  made_to m = record { before = m.before; author = m.author; at = at_to m.at }

  made_from : {h : List Call} {w : Write} → Made T h w → Made S h w
  made_from m = record { before = m.before; author = m.author; at = at_from m.at }

  past_to : {h : List Call} {c : ℕ} {w : Write} → Past π S h c w → Past π T h c w
  past_to (wrote t) = wrote (wrote_to t)
  past_to (got t z) = got (got_to t) z
  past_to (kept p) = kept (past_to p)
  past_to (under p m r) = under (past_to p) (at_to m) (past_to r)

  written_from : {h : List Call} {k : ℕ} {v : Version} → NotInvented π T h k v → NotInvented π S h k v
  written_from (inl z) = inl z
  written_from (inr m) = inr (made_from m)

  -- what was made lies on a bearing, and comes from a depot
  named : {h g : List Call} {c : ℕ} {w : Write} → MadeAt T h g c w → (c < π.crews) × (w.bearing < π.bearings) × (w.version.origin < π.depots)
  named (now {h = h} {q = q} {c = c} {w = w} t) = (alike h).writes q c w t.passed t.makes
  named (earlier m) = named m

  -- two numbers that are compared in the one system are compared in the other
  both : {a b c d : ℕ} → a ≡ c → b ≡ d → c ≤ d → a ≤ b
  both e g t = subst₂ (λ (x y : ℕ). x ≤ y) (sym e) (sym g) t

  -- ---- demand 2

  module _ (shelves : 0 < π.shelves) where
    cover : (h : List Call) (d k : ℕ) → d < π.depots → {u v : Version} → u ≡ v → covered π.depots d v.vector (T.stable (after T h) d (shelf_of π k)) ≡ true
        → covered π.depots d u.vector (S.stable (after S h) d (shelf_of π k)) ≡ true
    unfolding shelf_of
    cover h d k hd e t =
        covered_same π.depots d _ _ _ _ (λ x hx. ap (λ (v : Version). v.vector x) e) (λ x hx. (alike h).stable d _ x hd (mod-lt k shelves) hx) ∙ t

    written_as : (h : List Call) (q : Call) (c : ℕ) (w : Write) → Wrote T h q c w → WriteAnswers π T h q c w → WriteAnswers π S h q c w
    unfolding shelf_of
    written_as h q c w t R =
        let a = (alike h).writes q c w t.passed t.makes in
        let there = (alike (q ∷ h)).store w.version.origin w.bearing a.2 a.1 in
        record {
          asked = R.asked;
          origin = R.origin ∙ sym ((alike h).home c a.0);
          stamped = R.stamped ∙ ap suc (sym ((alike h).clock _ _ a.2 (mod-lt w.bearing shelves)));
          entries = λ x hx n. R.entries x hx n ∙ sym ((alike h).crew c x a.0 hx);
          answer = ⊎_elim
              (λ p. inl ((alike h).answer q ∙ p.0, there ∙ p.1))
              (λ p. inr ((alike h).answer q ∙ p.0, subst (λ (v : Version). above π.depots (rank v) (rank w.version) ≡ true) (sym there) p.1))
              R.answer;
        }

    pub demand2_from : Demand2 π T → Demand2 π S
    demand2_from D = record {
      numbered = λ h q. ap number_in ((alike h).answer q) ∙ D.numbered h q ∙ sym ((alike h).number q);
      each_read = λ h c k e. let g = D.each_read h c k (sym ((alike h).number _) ∙ e) in (g.0, got_from g.1);
      each_write = λ h c k p e. let w = D.each_write h c k p (sym ((alike h).number _) ∙ e) in (w.0, wrote_from w.1);
      crew_rises = λ l h c x hc hx. both ((alike h).crew c x hc hx) ((alike (l ++ h)).crew c x hc hx) (D.crew_rises l h c x hc hx);
      hidden = λ h d k hd hk. cover h d k hd ((alike h).store d k hd hk) (D.hidden h d k hd hk);
      seen_first = λ h d s r x hd hs hr hx n. both ((alike h).stable d s x hd hs hx) ((alike h).seen d r x hd hr hx n) (D.seen_first h d s r x hd hs hr hx n);
      sent_first = λ h d s x hd hs hx n. both ((alike h).seen d s x hd hs hx n) ((alike h).clock x s hx hs) (D.sent_first h d s x hd hs hx n);
      not_invented = λ h d k hd hk. subst (NotInvented π S h k) (sym ((alike h).store d k hd hk)) (written_from (D.not_invented h d k hd hk));
      reads = λ h q c k v g.
          let g' = got_to g in
          let R = D.reads h q c k v g' in
          let in-range = (alike h).reads q c k v g'.passed g'.gets in
          let house = (alike h).home c in-range.0 in
          let below = (alike h).housed c in-range.0 in
          record {
            answer = subst (λ a. Tells q a k (told π.depots v)) (sym ((alike h).answer q)) R.answer;
            stored = ap (λ d. S.store (after S (q ∷ h)) d k) house ∙ (alike (q ∷ h)).store _ k below in-range.1 ∙ R.stored;
            clear = subst (λ d. covered π.depots d v.vector (S.stable (after S (q ∷ h)) d (shelf_of π k)) ≡ true) (sym house) (cover (q ∷ h) _ k below {u = v} {v = v} refl R.clear);
            written = written_from R.written;
            causal = λ w e p. R.causal w e (past_to p);
          };
      writes = λ h q c w t. written_as h q c w (wrote_to t) (D.writes h q c w (wrote_to t));
      rests_on_lower = λ h g b v w m p. D.rests_on_lower h g b v w (at_to m) (past_to p);
      store_rises = λ l h d k hd hk.
          ap₂ (λ (a b : Version). above π.depots (rank a) (rank b)) ((alike h).store d k hd hk) ((alike (l ++ h)).store d k hd hk) ∙ D.store_rises l h d k hd hk;
      stable_rises = λ l h d s x hd hs hx. both ((alike h).stable d s x hd hs hx) ((alike (l ++ h)).stable d s x hd hs hx) (D.stable_rises l h d s x hd hs hx);
      seen_rises = λ l h d s x hd hs hx n. both ((alike h).seen d s x hd hs hx n) ((alike (l ++ h)).seen d s x hd hs hx n) (D.seen_rises l h d s x hd hs hx n);
      clock_rises = λ l h d s hd hs. both ((alike h).clock d s hd hs) ((alike (l ++ h)).clock d s hd hs) (D.clock_rises l h d s hd hs);
    }

    -- ---- one page, one moment

    pub page_from : OnePage π T → OnePage π S
    unfolding shelf_of
    page_from P = record {
      lists = λ h c ks e. let L = P.lists h c ks (sym ((alike h).number _) ∙ e) in record {
        named = L.named;
        version = L.version;
        answer = (alike h).answer (list c ks) ∙ L.answer;
        got = λ k m. got_from (L.got k m);
        merged = λ x hx. (alike (list c ks ∷ h)).crew c x L.named hx ∙ L.merged x hx ∙ gathered_at x _ _ _ ks (sym ((alike h).crew c x L.named hx));
        moment = λ g b v w mv mw is m p. L.moment g b v w mv mw is (at_to m) (past_to p);
      };
      alone = λ h c k e same.
          let e' = sym ((alike h).number _) ∙ e in
          let hc = (P.lists h c (k ∷ []) e').named in
          let house = (alike h).home c hc in
          let below = (alike h).housed c hc in
          let t = P.alone h c k e' (λ r x hr hx.
          sym (ap (λ d. S.stable (after S h) d r x) house ∙ (alike h).stable _ r x below hr hx)
          ∙ same r x hr hx
          ∙ ap (λ d. S.stable (after S h) d (shelf_of π k) x) house ∙ (alike h).stable _ _ x below (mod-lt k shelves) hx) in
          (t.0, (alike h).answer _ ∙ t.1, (alike h).answer _ ∙ t.2);
    }

  -- ---- demand 3

  rounds_to : {n : ℕ} {g h : List Call} → Rounds π S n g h → Rounds π T n g h
  rounds_to demands.begin = demands.begin
  rounds_to (demands.between r) = demands.between (rounds_to r)
  rounds_to (demands.round r i) = demands.round (rounds_to r) (round_by (λ h q. sym ((alike h).number q)) i)

  silent_to : {c : ℕ} {g h : List Call} → Silent S c g h → Silent T c g h
  silent_to demands.start = demands.start
  silent_to (demands.on {h = h} {q = q} s a) = demands.on (silent_to s) (λ b p. a b ((alike h).number q ∙ p))

  lowest_same : (h : List Call) (d : ℕ) → d < π.depots → lowest_clock π S h d ≡ lowest_clock π T h d
  unfolding lowest lowest_clock
  lowest_same h d hd = times_same π.shelves _ _ end λ s m hs. ap (λ (t : ℕ). min m t) ((alike h).clock d s hd hs)

  pub demand3_from : Demand3 π T → Demand3 π S
  unfolding round_by
  demand3_from D = record {
    delivered = λ g h w m r d hd.
        let m' = made_to m in
        let a = named m'.at in
        subst (λ v. AtLeast π.depots v w.version) (sym ((alike h).store d w.bearing hd a.1))
        (D.delivered g h w m' (subst (λ n. Rounds π T (stamp w.version - n + 1) g h) (lowest_same g w.version.origin a.2) (rounds_to r)) d hd);
    waits = λ g h c r s k v e.
        let e' = sym ((alike h).number (write c k v)) ∙ e in
        let hc = (alike h).waits c k v e' in
        let below = (alike g).housed c hc in
        let house = (alike g).home c hc in
        D.waits g h c
        (subst₂ (λ x y. Rounds π T (x - y) g h) (ap (S.crew (after S g) c) house ∙ (alike g).crew c _ hc below) (ap (lowest_clock π S g) house ∙ lowest_same g _ below) (rounds_to r))
        (silent_to s) k v e';
    possible = λ h. let p = D.possible h in (p.0, record { round = round_by (λ h q. (alike h).number q) p.1.round; refreshes = p.1.refreshes; ticks = p.1.ticks });
  }

  -- ---- limits

  pub limits_from : Limits π T → Limits π S
  limits_from L = record {
    links = λ h d s o hd hs ho n. subst (λ m. m ≤ room) (sym ((alike h).held d s o hd hs ho n)) (L.links h d s o hd hs ho n);
    own = λ h d s hd hs. (alike h).stable d s d hd hs hd ∙ L.own h d s hd hs;
    clocks = λ h d s hd hs. subst (λ t. t ≤ end) (sym ((alike h).clock d s hd hs)) (L.clocks h d s hd hs);
    stamps = λ h v w m n. L.stamps h v w (made_to m) (made_to n);
    beats = λ l h d s q c w hd hs e t o k.
        subst (λ n. n < stamp w.version) (sym ((alike (tick d s ∷ h)).clock d s hd hs))
        (L.beats l h d s q c w hd hs (sym ((alike h).number _) ∙ e) (wrote_to t) o k);
    dated = λ h w m. L.dated h w (made_to m);
    stores_dated = λ h d k hd hk. subst Dated (sym ((alike h).store d k hd hk)) (L.stores_dated h d k hd hk);
    carded = λ h w m. L.carded h w (made_to m);
    stores_carded = λ h d k hd hk. subst Carded (sym ((alike h).store d k hd hk)) (L.stores_carded h d k hd hk);
  }

  -- ---- links

  -- whose write is done is a crew
  writer : NothingLost π T → {h : List Call} {q : Call} {o s : ℕ} (a : Accepted π T h q o s) → a.crew < π.crews
  writer N {h} {q} {o} {s} a = go (N.sent (q ∷ h) o s).1
    where
      go : {l : List Write} → Sent π T o s (q ∷ h) l → a.crew < π.crews
      go (links.more t b w) =
          let one = a.asked in let two = b.asked in let crew : b.crew ≡ a.crew = cc in
          subst (λ c. c < π.crews) crew ((alike h).writes q b.crew _ w.passed w.makes).0
      go (links.same t n) = absurd (n a)

  module _ (N : NothingLost π T) where
    accepted_to : {h : List Call} {q : Call} {o s : ℕ} → Accepted π S h q o s → Accepted π T h q o s
    accepted_to {h} {q} {o} {s} a =
        let p = sym ((alike h).number q) ∙ a.passed in
        let there : Accepted π T h q (T.home (after T h) a.crew) s =
        record { crew = a.crew; bearing = a.bearing; payload = a.payload; asked = a.asked; passed = p; home = refl; shelf = a.shelf } in
        subst (λ o. Accepted π T h q o s) (sym ((alike h).home a.crew (writer N there)) ∙ a.home) there

    accepted_from : {h : List Call} {q : Call} {o s : ℕ} → Accepted π T h q o s → Accepted π S h q o s
    accepted_from {h} {q} a = record {
      crew = a.crew;
      bearing = a.bearing;
      payload = a.payload;
      asked = a.asked;
      passed = (alike h).number q ∙ a.passed;
      home = (alike h).home a.crew (writer N a) ∙ a.home;
      shelf = a.shelf;
    }

    sent_to_law : {o s : ℕ} {h : List Call} {l : List Write} → Sent π S o s h l → Sent π T o s h l
    unfolding accepted_to
    sent_to_law links.begin = links.begin
    sent_to_law (links.more t a w) = links.more (sent_to_law t) (accepted_to a) (wrote_to w)
    sent_to_law (links.same t n) = links.same (sent_to_law t) (λ a. n (accepted_from a))

    sent_back : {o s : ℕ} {h : List Call} {l : List Write} → Sent π T o s h l → Sent π S o s h l
    unfolding accepted_from
    sent_back links.begin = links.begin
    sent_back (links.more t a w) = links.more (sent_back t) (accepted_from a) (wrote_from w)
    sent_back (links.same t n) = links.same (sent_back t) (λ a. n (accepted_to a))

  bare_to : (h : List Call) → Bare π S h → Bare π T h
  bare_to h b = record {
    taken = λ d s o hd hs ho n. sym ((alike h).taken d s o hd hs ho n) ∙ b.taken d s o hd hs ho n;
    coming = λ d s o hd hs ho n. sym ((alike h).coming d s o hd hs ho n) ∙ b.coming d s o hd hs ho n;
  }

  covered_alike : (h : List Call) (d s : ℕ) → d < π.depots → s < π.shelves → covered_at π S h d s ≡ covered_at π T h d s
  unfolding covered_at
  covered_alike h d s hd hs = λ i w. covered_same π.depots d w.version.vector _ w.version.vector _ (λ x hx. refl) (λ x hx. (alike h).stable d s x hd hs hx) i

  pub links_from : NothingLost π T → NothingLost π S
  unfolding after
  links_from N = record {
    sent = λ h o s. let t = N.sent h o s in (t.0, sent_back N t.1);
    one = λ h o s l m t u. N.one h o s l m (sent_to_law N t) (sent_to_law N u);
    sent_made = λ h o s l w t i. let p = N.sent_made h o s l w (sent_to_law N t) i in (made_from p.0, p.1);
    made_sent = λ h o s l w t m. N.made_sent h o s l w (sent_to_law N t) (made_to m);
    takes = λ h d s o hd hs ho n e.
        let t = N.takes h d s o hd hs ho n (sym ((alike h).number _) ∙ e) in
        (t.0, t.1, (alike h).coming d s o hd hs ho n ∙ t.2 ∙ ap (λ x. t.0 ++ x) (sym ((alike (take d s o ∷ h)).coming d s o hd hs ho n)));
    stays = λ h q d s o hd hs ho n a.
        let t = N.stays h q d s o hd hs ho n (λ f p. a f ((alike h).number q ∙ p)) in
        (t.0, (alike (q ∷ h)).coming d s o hd hs ho n ∙ t.1 ∙ ap (λ x. x ++ t.0) (sym ((alike h).coming d s o hd hs ho n)));
    lossless = λ h d s o l hd hs ho n t.
        let L = N.lossless h d s o l hd hs ho n (sent_to_law N t) in
        let test = sym (covered_alike h d s hd hs) in
        let took = (alike h).taken d s o hd hs ho n in
        let comes = (alike h).coming d s o hd hs ho n in
        record {
          taken = L.taken;
          whole = L.whole ∙ ap (λ x. L.taken ++ x) (sym comes);
          held = took ∙ L.held ∙ ap (λ f. left f L.taken) test;
          holds = ap₂ (λ x y. x ++ y) took comes ∙ L.holds ∙ ap (λ f. left f l) test;
          gone = ap (λ f. passing f l) (sym test) ∙ L.gone ∙ ap (λ f. passing f L.taken) test;
          counted = L.counted ∙ (λ i. length (passing (test i) L.taken) + (length (sym took i) + length (sym comes i)));
          shown = λ w i c. let m = (N.sent_made h o s l w (sent_to_law N t) i).0 in
              subst (λ v. AtLeast π.depots v w.version) (sym ((alike h).store d w.bearing hd (named m.at).1))
              (L.shown w i (sym (ap (λ f. f w) (sym test)) ∙ c));
        };
    all_stored = λ h b w m d hd. subst (λ v. AtLeast π.depots v w.version) (sym ((alike h).store d w.bearing hd (named (made_to m).at).1))
        (N.all_stored h (bare_to h b) w (made_to m) d hd);
    alike = λ h b d e k hd he hk. (alike h).store d k hd hk ∙ N.alike h (bare_to h b) d e k hd he hk ∙ sym ((alike h).store e k he hk);
    answered = λ h b q c k v g d hd.
        let g' = got_to g in
        (alike h).store d k hd ((alike h).reads q c k v g'.passed g'.gets).1 ∙ N.answered h (bare_to h b) q c k v g' d hd;
  }

  -- ---- moves

  lowest_stamp_same : (h : List Call) (d x : ℕ) → d < π.depots → x < π.depots → (x ≡ d → ⊥) → lowest_stamp π S h d x ≡ lowest_stamp π T h d x
  unfolding lowest lowest_stamp
  lowest_stamp_same h d x hd hx n = times_same π.shelves _ _ end λ s m hs. ap (λ (t : ℕ). min m t) ((alike h).seen d s x hd hs hx n)

  behind_to : (h : List Call) (c d : ℕ) → c < π.crews → d < π.depots → Behind π S h c d → Behind π T h c d
  behind_to h c d hc hd b = record {
    from = b.from;
    below = b.below;
    apart = b.apart;
    unseen = subst₂ (λ (x y : ℕ). x < y) (lowest_stamp_same h d _ hd b.below b.apart) ((alike h).crew c _ hc b.below) b.unseen;
  }

  behind_from : (h : List Call) (c d : ℕ) → c < π.crews → d < π.depots → Behind π T h c d → Behind π S h c d
  behind_from h c d hc hd b = record {
    from = b.from;
    below = b.below;
    apart = b.apart;
    unseen = subst₂ (λ (x y : ℕ). x < y) (sym (lowest_stamp_same h d _ hd b.below b.apart)) (sym ((alike h).crew c _ hc b.below)) b.unseen;
  }

  -- that a move to the present home changes nothing is said of the state itself, which the other system does not see
  pub moves_from : ((h : List Call) (c : ℕ) → c < π.crews → after S (move c (S.home (after S h) c) ∷ h) ≡ after S h) → Moves π T → Moves π S
  moves_from same M = record {
    refused_for = λ h c d e.
        let f = M.refused_for h c d (sym ((alike h).number (move c d)) ∙ e) in
        (f.0, f.1, (λ t. f.2 (t ∙ (alike h).home c f.0)), behind_from h c d f.0 f.1 f.3);
    refused_where = λ h c d hc hd n b. (alike h).number (move c d) ∙ M.refused_where h c d hc hd (λ t. n (t ∙ sym ((alike h).home c hc))) (behind_to h c d hc hd b);
    done_else = λ h c d hc hd n. (alike h).number (move c d) ∙ M.done_else h c d hc hd (λ e. n ((alike h).number (move c d) ∙ e));
    named = λ h c d e. M.named h c d (sym ((alike h).number (move c d)) ∙ e);
    moved = λ h c d e. let p = sym ((alike h).number (move c d)) ∙ e in (alike (move c d ∷ h)).home c (M.named h c d p).0 ∙ M.moved h c d p;
    others = λ h c d b hb n. (alike (move c d ∷ h)).home b hb ∙ M.others h c d b hb n ∙ sym ((alike h).home b hb);
    vectors = λ h c d b x hb hx. (alike (move c d ∷ h)).crew b x hb hx ∙ M.vectors h c d b x hb hx ∙ sym ((alike h).crew b x hb hx);
    stays = λ h c hc.
        (alike h).number (move c (S.home (after S h) c)) ∙ ap (λ d. T.number (after T h) (move c d)) ((alike h).home c hc) ∙ M.stays h c hc;
    unchanged = same;
    let_in = λ h c d k v e g.
        let p = sym ((alike h).number (move c d)) ∙ e in
        let g' = got_to g in
        let R = M.let_in h c d k v p g' in
        let there = (alike (move c d ∷ h)).reads (read c k) c k v g'.passed g'.gets in
        record {
          stored = (alike (read c k ∷ move c d ∷ h)).store d k (M.named h c d p).1 there.1 ∙ R.stored;
          causal = λ w same past. R.causal w same (past_to past);
        };
    admitted = λ g h c r s d e.
        let e' = sym ((alike h).number (move c d)) ∙ e in
        let hc = (M.refused_for h c d e').0 in
        let below = (alike g).housed c hc in
        let house = (alike g).home c hc in
        M.admitted g h c
        (subst₂ (λ x y. Rounds π T (x - y + 1) g h) (ap (S.crew (after S g) c) house ∙ (alike g).crew c _ hc below) (ap (lowest_clock π S g) house ∙ lowest_same g _ below) (rounds_to r))
        (silent_to s) d e';
  }

  pub demands_from : 0 < π.shelves → Demands π T → Demands π S
  demands_from shelves D = record { second = demand2_from shelves D.second; third = demand3_from D.third; besides = limits_from D.besides }
