-- The second part of a round: where every link is empty, a refresh shows every taken copy but those with a stamp above the sender's lowest clock.
-- Assumes nothing.
use Prim.Native.Nat.{ℕ, ◌≤◌, ◌<◌}
use native.Mathlib.Nat.{le_trans}
use mathlib.Core.Path.{◌≡◌, refl, sym, subst, ap, ◌∙◌}
use mathlib.Core.Logic.{⊎_elim}
use mathlib.Core.Bool.{true, false}
use mathlib.Core.List.Memᴰ
use mathlib.Core.List.{List, [], ◌∷◌, ◌++◌, Memᴰ}
use Rattle.order.proofs.VectorLaws.{covered_intro}
use Rattle.loops.proofs.BoolLaws.{eq_or_ne, le_or_lt, both_ways}
use borrow.Author.Tests.{lt-leb}
use Rattle.loops.specs.Loops.{pick}
use Rattle.model.specs.Parts.{Counts, Write, Message, Shelf, State, stamp}
use Rattle.model.specs.Rules.{settle, clear, lowest_seen}
use Rattle.paper.specs.Calls.{Call, refresh, first}
use Rattle.model.specs.Calls.{refusal, acted}
use Rattle.model.specs.System.{of_model, run}
use Rattle.model.specs.Demands.{Made, IsRefresh, a_refresh, Each}
use Rattle.model.proofs.Places.{Other, set_shelf_all, set_shelf_same, set_shelf_here, lowest_above}
use Rattle.model.proofs.Chains.{chain_below, chain_empty}
use Rattle.model.proofs.Invariant.{Good, Copied, Sound}
use Rattle.model.proofs.Settling.{up, raised_offered, settled_same, settled_left}
use Rattle.model.proofs.Refusals.{SetUp}
use Rattle.model.proofs.Histories.{run_done, run_refused, inv, history_grows}

module _ (π : Counts) (homes : List ℕ) where
  -- no link holds an untaken message
  unfoldable pub Empty : List Call → Type 0
  Empty h = (d s o : ℕ) → d < π.depots → s < π.shelves → o < π.depots → (o ≡ d → ⊥) → ((run π homes h).shelf d s).untaken o ≡ []

  -- every clock of depot o is at least b
  unfoldable pub Reached : List Call → ℕ → ℕ → Type 0
  Reached h o b = (s : ℕ) → s < π.shelves → b ≤ ((run π homes h).shelf o s).clock

  -- every copy held at shelf s of depot d from depot o has a stamp above b
  unfoldable pub Late : List Call → ℕ → ℕ → ℕ → ℕ → Type 0
  Late h d s o b = (w : Write) → Memᴰ w (((run π homes h).shelf d s).taken o) → b < stamp w.version

  refresh_untaken : (h : List Call) (d s e r : ℕ) → ((run π homes (refresh d s ∷ h)).shelf e r).untaken ≡ ((run π homes h).shelf e r).untaken
  unfolding acted settle
  refresh_untaken h d s e r = ⊎_elim
      (λ (t : refusal π (run π homes h) (refresh d s) ≡ 0). ap (λ (σ : State). (σ.shelf e r).untaken) (run_done π homes h (refresh d s) t)
      ∙ set_shelf_same (λ g. g.untaken) d s _ (run π homes h) (settled_same π.depots d _ _ (λ c v l. l)) e r)
      (λ (t : refusal π (run π homes h) (refresh d s) ≡ 0 → ⊥). ap (λ (σ : State). (σ.shelf e r).untaken) (run_refused π homes h (refresh d s) t))
      (eq_or_ne (refusal π (run π homes h) (refresh d s)) 0)

  refresh_taken : (h : List Call) (d s e r o : ℕ) (w : Write) → Memᴰ w (((run π homes (refresh d s ∷ h)).shelf e r).taken o) → Memᴰ w (((run π homes h).shelf e r).taken o)
  unfolding acted settle
  refresh_taken h d s e r o w m = ⊎_elim
      (λ (t : refusal π (run π homes h) (refresh d s) ≡ 0). set_shelf_all (λ e r g. Memᴰ w (g.taken o) → Memᴰ w (((run π homes h).shelf e r).taken o)) d s _ (run π homes h)
      (λ m. (settled_left π.depots d _ _ o m).0) (λ e r apart m. m) e r (subst (λ (σ : State). Memᴰ w ((σ.shelf e r).taken o)) (run_done π homes h (refresh d s) t) m))
      (λ (t : refusal π (run π homes h) (refresh d s) ≡ 0 → ⊥). subst (λ (σ : State). Memᴰ w ((σ.shelf e r).taken o)) (run_refused π homes h (refresh d s) t) m)
      (eq_or_ne (refusal π (run π homes h) (refresh d s)) 0)

  refresh_passes : (σ : State) (d s : ℕ) → d < π.depots → s < π.shelves → refusal π σ (refresh d s) ≡ 0
  unfolding refusal first pick
  refresh_passes σ d s hd hs = rw (lt-leb π.depots d hd, lt-leb π.shelves s hs) refl

  -- what stays held at the shelf refreshed is not covered by the lowest stamps seen
  refresh_left : (h : List Call) (d s o : ℕ) (w : Write) → d < π.depots → s < π.shelves → Memᴰ w (((run π homes (refresh d s ∷ h)).shelf d s).taken o)
      → Memᴰ w (((run π homes h).shelf d s).taken o) × (clear π.depots d (up π.depots d (lowest_seen π d (run π homes h)) ((run π homes h).shelf d s)) w ≡ false)
  unfolding acted settle
  refresh_left h d s o w hd hs m = settled_left π.depots d _ _ o (subst (λ (g : Shelf). Memᴰ w (g.taken o))
      (ap (λ (σ : State). σ.shelf d s) (run_done π homes h (refresh d s) (refresh_passes _ d s hd hs)) ∙ set_shelf_here d s _ (run π homes h)) m)

  module _ (u : SetUp π homes) where
    refresh_late : (h : List Call) (d s o b : ℕ) → d < π.depots → s < π.shelves → Other π.depots d o → Empty h → Reached h o b → Late (refresh d s ∷ h) d s o b
    unfolding Empty Reached Late lowest_seen
    refresh_late h d s o b hd hs a empty reached w m = ⊎_elim (λ (t : stamp w.version ≤ b). absurd (both_ways (covers t) left.1)) (λ (t : b < stamp w.version). t)
        (le_or_lt (stamp w.version) b)
      where
        σ : State
        σ = run π homes h

        z : Sound π (Made (of_model π homes) h) σ
        z = (inv π homes u h).sound

        left : Memᴰ w ((σ.shelf d s).taken o) × (clear π.depots d (up π.depots d (lowest_seen π d σ) (σ.shelf d s)) w ≡ false)
        left = refresh_left h d s o w hd hs m

        copied : Copied π (Made (of_model π homes) h) s o w
        copied = (z.shelf d s hd hs).taken o w a.below left.0

        good : Good π σ w
        good = (inv π homes u h).good w copied.made

        -- an emptied link has seen the sender's clock
        seen_all : (r x : ℕ) → r < π.shelves → Other π.depots d x → (σ.shelf d r).seen x ≡ (σ.shelf x r).clock
        seen_all r x hr c = chain_empty _ _ (empty d r x hd hr c.below c.apart) (z.chain d r x hd hr c)

        entry : stamp w.version ≤ b → (x r : ℕ) → Other π.depots d x → r < π.shelves → w.version.vector x ≤ (σ.shelf x r).clock
        entry t x r c hr = ⊎_elim
            (λ (e : x ≡ w.version.origin). subst (λ y. w.version.vector y ≤ (σ.shelf y r).clock) (sym e)
            (le_trans t (subst (λ y. b ≤ (σ.shelf y r).clock) (sym copied.origin) (reached r hr))))
            (λ (e : x ≡ w.version.origin → ⊥). le_trans (good.rests.seen r x hr (record { below = c.below; apart = e }))
            (chain_below _ _ _ (z.chain w.version.origin r x good.rests.depot hr (record { below = c.below; apart = e }))))
            (eq_or_ne x w.version.origin)

        covers : stamp w.version ≤ b → clear π.depots d (up π.depots d (lowest_seen π d σ) (σ.shelf d s)) w ≡ true
        covers t = unfold clear in covered_intro π.depots d _ _ (λ x hx apart. let c : Other π.depots d x = record { below = hx; apart = apart } in
            le_trans (lowest_above π.shelves _ (w.version.vector x) (good.rests.top x hx) (λ r hr. subst (λ y. w.version.vector x ≤ y) (sym (seen_all r x hr c)) (entry t x r c hr)))
            (raised_offered π.depots d (lowest_seen π d σ) _ x c))

    pub reached_later : (l h : List Call) (o b : ℕ) → Reached h o b → Reached (l ++ h) o b
    unfolding Reached
    reached_later l h o b t s hs = le_trans (t s hs) ((history_grows π homes u l h).clock o s)

    pub refreshes_empty : (l h : List Call) → Each IsRefresh l → Empty h → Empty (l ++ h)
    unfolding Empty
    refreshes_empty [] h each empty = empty
    refreshes_empty (q ∷ l) h each empty = one q (each q (Memᴰ.head refl)) (refreshes_empty l h (λ p m. each p (Memᴰ.tail m)) empty)
      where
        one : (q : Call) → IsRefresh q → Empty (l ++ h) → Empty (q ∷ (l ++ h))
        one q (a_refresh {d = d'} {s = s'}) t d s o hd hs ho n = ap (λ (f : ℕ → List Message). f o) (refresh_untaken (l ++ h) d' s' d s) ∙ t d s o hd hs ho n

    -- after the refreshes no copy with a stamp of at most b is held where its shelf was refreshed
    pub refreshes_late : (l h : List Call) (d s o b : ℕ) → d < π.depots → s < π.shelves → Other π.depots d o → Each IsRefresh l → Empty h → Reached h o b → Memᴰ (refresh d s) l
        → Late (l ++ h) d s o b
    refreshes_late [] h d s o b hd hs a each empty reached m = absurd (Memᴰ.not-nil m)
    refreshes_late (q ∷ l) h d s o b hd hs a each empty reached m = ⊎_elim
        (λ (e : refresh d s ≡ q). subst (λ q. Late (q ∷ (l ++ h)) d s o b) e (refresh_late (l ++ h) d s o b hd hs a (refreshes_empty l h rest empty) (reached_later l h o b reached)))
        (λ (m : Memᴰ (refresh d s) l). on q (each q (Memᴰ.head refl)) (refreshes_late l h d s o b hd hs a rest empty reached m))
        (Memᴰ.cases_cons m)
      where
        rest : Each IsRefresh l
        rest p m = each p (Memᴰ.tail m)

        on : (q : Call) → IsRefresh q → Late (l ++ h) d s o b → Late (q ∷ (l ++ h)) d s o b
        on q (a_refresh {d = d'} {s = s'}) t = unfold Late in λ w m. t w (refresh_taken (l ++ h) d' s' d s o w m)
