-- Each call that is done is one change after another, so it keeps the invariant; a write's own version stands at every depot after it.
-- Assumes nothing.
use Prim.Native.Nat.{ℕ, suc, ◌≤◌, ◌<◌}
use native.Mathlib.Omega.{arith}
use native.Mathlib.Nat.{le_refl, le_trans}
use mathlib.Core.Path.{◌≡◌, refl, sym, subst, ap, ◌∙◌}
use mathlib.Core.Logic.{◌⊎◌, ⊎_elim}
use mathlib.Core.Bool.{false}
use mathlib.Core.List.{List, [], ◌∷◌}
use Rattle.order.specs.Vector.{Vec, merged}
use Rattle.loops.proofs.BoolLaws.{eq_or_ne}
use Rattle.model.specs.Parts.{Counts, Version, Write, Message, copy, heartbeat, Shelf, State, stamp, stamp_of, set_shelf, set_crew, unwritten, end}
use Rattle.model.specs.Rules.{settle, storing, keep, send, taking, lowest_seen}
use Rattle.paper.specs.declared.answer.Payload.{Payload}
use Rattle.paper.specs.Calls.{read, write, tick, take, refresh, move}
use Rattle.model.specs.Calls.{none, shelf_of, home_shelf, answered, made, reading, acted}
use Rattle.model.proofs.Places.{put_all, put_same, put_other, Other, set_shelf_here, lowest_below}
use Rattle.model.proofs.Showing.{AtMost, at_most_trans}
use Rattle.model.proofs.Invariant.{Rests, stored, coming, Good, Copied, Sound, Change, changes, good_changes, rests_grows, stored_rests, merged_rests, sound_more, grows_trans}
use Rattle.model.proofs.Settling.{raised_offered, settled_stable, settled_same, settle_changes}
use Rattle.model.proofs.Taking.{take_changes}
use Rattle.model.proofs.Keeping.{crew_changes, home_changes, keep_changes, keep_has}
use Rattle.model.proofs.Sending.{send_changes, send_comes, clock_here}
use Rattle.model.proofs.Refusals.{WritePassed, TickPassed, TakePassed, RefreshPassed, MovePassed}

module _ (π : Counts) (M : Write → Type 0) (σ : State) (z : Sound π M σ) where
  pub refresh_done : {d s : ℕ} → RefreshPassed π d s → Change π M σ (acted π σ (refresh d s)).state
  unfolding acted lowest_seen
  refresh_done {d} {s} p = settle_changes π M σ z d s p.depot p.shelf (lowest_seen π d σ) (λ r x hr o. lowest_below π.shelves _ r hr)

  pub tick_done : {d s : ℕ} → TickPassed π σ d s → Change π M σ (acted π σ (tick d s)).state
  unfolding acted stamp_of
  tick_done {d} {s} p = send_changes π σ d s (heartbeat (suc (σ.shelf d s).clock)) M z p.depot p.shelf refl p.below (λ w e. absurd (let t : ◌≡◌ {A = ℕ} 0 1 = cc in omega arith))

  pub take_done : {d s o : ℕ} → TakePassed π σ d s o → Change π M σ (acted π σ (take d s o)).state
  unfolding acted none
  take_done {d} {s} {o} p = go ((σ.shelf d s).untaken o) refl p.some
    where
      go : (l : List Message) → (σ.shelf d s).untaken o ≡ l → none l ≡ false → Change π M σ (set_shelf d s (taking o ((σ.shelf d s).untaken o) (σ.shelf d s)) σ)
      go [] e t = absurd (let t : ◌≡◌ {A = ℕ} 0 1 = cc in omega arith)
      go (m ∷ l) e t = subst (λ y. Change π M σ (set_shelf d s (taking o y (σ.shelf d s)) σ)) (sym e) (take_changes π M σ z d s o p.depot p.shelf p.from m l e)

  pub move_done : {c d : ℕ} → MovePassed π σ c d → Change π M σ (acted π σ (move c d)).state
  unfolding acted
  move_done {c} {d} p = home_changes π M σ z c d (⊎_elim
      (λ (e : d ≡ σ.home c). subst (λ y. Rests π σ y (σ.crew c)) (sym e) was)
      (λ seen. record { depot = p.depot; seen = seen; top = was.top })
      p.here)
    where
      was : Rests π σ (σ.home c) (σ.crew c)
      was = z.crews c p.crew

  module _ (lies : (k : ℕ) → shelf_of π k < π.shelves) (c k : ℕ) (hc : c < π.crews) where
    abbrev d : ℕ
    d = σ.home c

    abbrev s : ℕ
    s = shelf_of π k

    abbrev mid : State
    mid = settle π d s (σ.crew c) σ

    -- raise and show with the crew's vector at its home shelf
    home_settles : Change π M σ mid
    home_settles = settle_changes π M σ z d s (z.crews c hc).depot (lies k) (σ.crew c) (z.crews c hc).seen

    home_shelf_law : mid.shelf d s ≡ home_shelf π c k σ
    unfolding settle home_shelf
    home_shelf_law = set_shelf_here d s _ σ

    mid_rests : Rests π mid d (σ.crew c)
    mid_rests = rests_grows π home_settles.grows (z.crews c hc)

    -- what the home shelf then stores is covered there, and unwritten or made
    pub answered_covers : (x : ℕ) → Other π.depots d x → (answered π c k σ).vector x ≤ (home_shelf π c k σ).stable x
    unfolding answered
    answered_covers x o = subst (λ (g : Shelf). (g.store k).vector x ≤ g.stable x) home_shelf_law ((home_settles.sound.shelf d s (z.crews c hc).depot (lies k)).covers k x o)

    pub answered_made : (answered π c k σ ≡ unwritten) ⊎ M (record { bearing = k; version = answered π c k σ })
    unfolding answered
    answered_made = subst (λ (g : Shelf). (g.store k ≡ unwritten) ⊎ M (record { bearing = k; version = g.store k })) home_shelf_law
        ((home_settles.sound.shelf d s (z.crews c hc).depot (lies k)).stores k)

    module _ (good : (w : Write) → M w → Good π σ w) where
      -- what the crew reads rests on what its home has seen
      read_rests : Rests π mid d (answered π c k σ).vector
      unfolding answered
      read_rests = subst (λ (g : Shelf). Rests π mid d (g.store k).vector) home_shelf_law
          (stored_rests π home_settles.sound (λ w m. good_changes π home_settles (good w m)) (z.crews c hc).depot (lies k) k)

      pub read_done : Change π M σ (acted π σ (read c k)).state
      unfolding acted reading merged answered home_shelf settle set_shelf
      read_done = changes π home_settles (crew_changes π M mid home_settles.sound c (merged (σ.crew c) (answered π c k σ).vector)
          (merged_rests π mid_rests read_rests)
          (λ x. omega arith))

    module _ (N : Write → Type 0) (more : (w : Write) → M w → N w) (payload : Payload) (p : WritePassed π σ c k payload) where
      -- the version made, its write, and the states in between
      abbrev v : Version
      v = made π c k payload σ

      abbrev w : Write
      w = record { bearing = k; version = v }

      abbrev told : State
      told = set_crew c v.vector mid

      abbrev put_by : State
      put_by = keep π d s w told

      abbrev end_state : State
      end_state = send π d s (copy w) put_by

      -- its stamp is the new clock
      v_stamp : stamp v ≡ suc (σ.shelf d s).clock
      unfolding made
      v_stamp = put_same d _ _

      v_rests : Rests π mid d v.vector
      unfolding made
      v_rests = record {
        depot = mid_rests.depot;
        seen = λ r x hr o. subst (λ y. y ≤ (mid.shelf d r).seen x) (sym (put_other d _ _ x o.apart)) (mid_rests.seen r x hr o);
        top = λ x hx. put_all (λ x y. x < π.depots → y ≤ end) d (λ hx. p.below) (λ x apart hx. mid_rests.top x hx) x hx;
      }

      v_rises : (x : ℕ) → σ.crew c x ≤ v.vector x
      unfolding made
      v_rises = put_all (λ x y. σ.crew c x ≤ y) d (le_trans p.ready (omega arith)) (λ x apart. le_refl _)

      crew_told : Change π N mid told
      unfolding settle set_shelf
      crew_told = crew_changes π N mid (sound_more π more home_settles.sound) c v.vector v_rests v_rises

      v_covered : (x : ℕ) → Other π.depots d x → v.vector x ≤ (told.shelf d s).stable x
      unfolding made set_crew home_shelf
      v_covered x o = subst (λ y. y ≤ (told.shelf d s).stable x) (sym (put_other d _ _ x o.apart))
          (subst (λ (g : Shelf). σ.crew c x ≤ g.stable x) (sym home_shelf_law)
          (subst (λ (u : Vec). σ.crew c x ≤ u x) (sym (settled_stable π.depots d (σ.crew c) (σ.shelf d s))) (raised_offered π.depots d (σ.crew c) _ x o)))

      same_clock : (put_by.shelf d s).clock ≡ (σ.shelf d s).clock
      unfolding keep storing set_crew home_shelf
      same_clock = ap (λ (g : Shelf). g.clock) (set_shelf_here d s _ told) ∙ ap (λ (g : Shelf). g.clock) home_shelf_law ∙ settled_same π.depots d (σ.crew c) (σ.shelf d s) (λ c u l. c)

      module _ (new : N w) where
        v_kept : Change π N told put_by
        v_kept = keep_changes π N told crew_told.sound d s mid_rests.depot (lies k) w new v_covered

        v_sent : Change π N put_by end_state
        unfolding stamp_of
        v_sent = send_changes π put_by d s (copy w) N v_kept.sound mid_rests.depot (lies k) (v_stamp ∙ ap suc (sym same_clock)) (subst (λ y. y < end) (sym same_clock) p.below)
            (λ x e. subst (λ y. Copied π N s d y) (let t : w ≡ x = cc in t) (record { made = new; origin = unfold made in refl; shelf = refl }))

        pub write_done : Change π N σ (acted π σ (write c k payload)).state
        unfolding acted
        write_done = changes π (changes π (changes π home_settles crew_told) v_kept) v_sent

        pub write_good : Good π (acted π σ (write c k payload)).state w
        unfolding acted made send
        write_good = record {
          rests = rests_grows π (grows_trans π crew_told.grows (grows_trans π v_kept.grows v_sent.grows)) v_rests;
          clock = subst (λ y. stamp v ≤ y) (v_stamp ∙ ap suc (sym same_clock) ∙ sym (clock_here π put_by d s (copy w))) (le_refl _);
          stands = λ e he. ⊎_elim
              (λ (f : e ≡ d). stored (subst (λ e. AtMost π.depots v ((end_state.shelf e s).store k)) (sym f)
              (at_most_trans (keep_has π N told crew_told.sound d s mid_rests.depot (lies k) w new v_covered) (v_sent.grows.store d s k))))
              (λ (f : e ≡ d → ⊥). coming (record { below = mid_rests.depot; apart = λ g. f (sym g) }) (send_comes π put_by d s (copy w) e (record { below = he; apart = f })))
              (eq_or_ne e d);
        }
