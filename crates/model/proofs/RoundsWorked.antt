-- Rounds at work: (f) is two of them, and a read among its calls makes them none.
-- Assumes nothing.
use Prim.Native.Nat.{ℕ, zero, suc, ◌<◌}
use native.Mathlib.Omega.{arith}
use mathlib.Core.Path.{◌≡◌, refl, sym, subst, ap}
use mathlib.Core.Logic.{◌⊎◌, inl, inr, ⊎_elim}
use mathlib.Core.List.Memᴰ
use mathlib.Core.List.{List, [], ◌∷◌, ◌++◌, reverse}
use Rattle.paper.specs.Calls.{Call, read, tick, take, refresh}
use Rattle.model.specs.Parts.{State, fresh}
use Rattle.model.specs.Rules.{shown, settled, settle, storing, keep}
use Rattle.model.specs.Calls.{step, ends}
use Rattle.model.specs.System.{after, run}
use Rattle.model.specs.Demands as demands
use Rattle.model.specs.Demands.{IsTake, a_take, IsRefresh, a_refresh, IsTick, a_tick, Among, Each, Round, Rounds}
use Rattle.model.specs.Cases.{counts, homes, day, case_f}
use Rattle.model.specs.Words.{all_refreshed, all_ticked, two_writes, first_takes, one_round, second_takes, two_rounds, duo, number_after}
use Rattle.model.proofs.Possible.{row, grid, grid_has, grid_each}
use Rattle.model.proofs.Lawful.{dominates, lawful, lawful_agrees}
use Rattle.model.proofs.Computed.{answers_now, ends_now, ends_computed}

pub taking : {d s o : ℕ} {l : List Call} → Each IsTake l → Each IsTake (take d s o ∷ l)
taking each q m = ⊎_elim (λ e. subst IsTake (sym e) a_take) (each q) (Memᴰ.cases_cons m)

pub no_takes : Each IsTake []
no_takes q m = absurd (Memᴰ.not-nil m)

-- what holds of both depots, or both shelves
both : (Q : ℕ → Type 0) → Q 0 → Q 1 → (x : ℕ) → x < 2 → Q x
both Q a b zero h = a
both Q a b (suc zero) h = b
both Q a b (suc (suc x)) h = absurd (omega arith)

-- or of both depots and the other one
apart : (Q : ℕ → ℕ → Type 0) → Q 0 1 → Q 1 0 → (d o : ℕ) → d < 2 → o < 2 → (o ≡ d → ⊥) → Q d o
apart Q a b d o hd ho = both (λ d. (o ≡ d → ⊥) → Q d o)
    (both (λ o. (o ≡ 0 → ⊥) → Q 0 o) (λ n. absurd (n refl)) (λ n. a) o ho)
    (both (λ o. (o ≡ 1 → ⊥) → Q 1 o) (λ n. b) (λ n. absurd (n refl)) o ho)
    d hd

-- two depots with two shelves have four links: of all of them
abbrev pub OfLinks : (ℕ → ℕ → ℕ → Type 0) → Type 0
OfLinks Q = (d s o : ℕ) → d < 2 → s < 2 → o < 2 → (o ≡ d → ⊥) → Q d s o

pub all_links : (Q : ℕ → ℕ → ℕ → Type 0) → Q 0 0 1 → Q 0 1 1 → Q 1 0 0 → Q 1 1 0 → OfLinks Q
all_links Q a b c e d s o hd hs ho n = both (λ s. Q d s o) (apart (λ d o. Q d 0 o) a c d o hd ho n) (apart (λ d o. Q d 1 o) b e d o hd ho n) s hs

-- a link is empty after history h
abbrev pub Emptied : List Call → ℕ → ℕ → ℕ → Type 0
Emptied h d s o = number_after h (take d s o) ≡ 7

-- and four shelves
pub all_refreshes : Each IsRefresh all_refreshed
unfolding all_refreshed grid row
all_refreshes = grid_each IsRefresh refresh 2 2 (λ d s. a_refresh)

pub all_ticks : Each IsTick all_ticked
unfolding all_ticked grid row
all_ticks = grid_each IsTick tick 2 2 (λ d s. a_tick)

-- a round of these takes, then every shelf refreshed, then every shelf ticked
pub round_of : (takes g : List Call) → Each IsTake takes → OfLinks (Emptied (takes ++ g))
    → Round counts duo g (all_ticked ++ (all_refreshed ++ (takes ++ g)))
unfolding all_refreshed all_ticked counts grid row
round_of takes g are emptied = record {
  takes = takes;
  refreshes = all_refreshed;
  ticks = all_ticked;
  are_takes = are;
  are_refreshes = all_refreshes;
  are_ticks = all_ticks;
  emptied = emptied;
  refreshed = grid_has refresh 2 2;
  ticked = grid_has tick 2 2;
  ends = refl;
}

first_emptied : OfLinks (Emptied (first_takes ++ two_writes))
unfolding answers_now counts homes first_takes two_writes after step settled shown settle storing keep
first_emptied = all_links (Emptied (first_takes ++ two_writes)) refl refl refl refl

second_emptied : OfLinks (Emptied (second_takes ++ one_round))
unfolding answers_now counts homes first_takes second_takes all_refreshed all_ticked one_round two_writes after step settled shown settle storing keep
second_emptied = all_links (Emptied (second_takes ++ one_round)) refl refl refl refl

first_takes_law : Each IsTake first_takes
unfolding first_takes
first_takes_law = taking (taking (taking (taking (taking (taking no_takes)))))

second_takes_law : Each IsTake second_takes
unfolding second_takes
second_takes_law = taking (taking (taking (taking (taking (taking (taking (taking no_takes)))))))

pub is_f : reverse two_rounds ++ (read 0 0 ∷ (read 1 0 ∷ [])) ≡ case_f
unfolding case_f two_rounds one_round first_takes second_takes all_refreshed all_ticked two_writes
is_f = refl

pub f_rounds : Rounds counts duo 2 two_writes two_rounds
unfolding one_round two_rounds
f_rounds = demands.round (demands.round demands.begin (round_of first_takes two_writes first_takes_law first_emptied)) (round_of second_takes one_round second_takes_law second_emptied)

oldest_first : List Call
unfolding all_ticked all_refreshed first_takes two_writes
oldest_first = reverse (all_ticked ++ (all_refreshed ++ (first_takes ++ two_writes)))

pub not_yet : (((run counts homes one_round).shelf 1 0).store 0).payload ≡ day 9
unfolding ends_now dominates lawful counts homes one_round oldest_first after ends
not_yet = ap (λ (σ : State). ((σ.shelf 1 0).store 0).payload) (ends_computed counts lawful lawful_agrees (fresh homes) oldest_first)

nothing_there : OfLinks (Emptied [])
unfolding answers_now counts homes after
nothing_there = all_links (Emptied []) refl refl refl refl

pub plain : Round counts duo [] (all_ticked ++ all_refreshed)
unfolding all_refreshed
plain = round_of [] [] no_takes nothing_there

-- a round has takes, refreshes and ticks, and nothing else
of_round : {h : List Call} {q : Call} → Round counts duo [] h → Among q h → IsTick q ⊎ (IsRefresh q ⊎ IsTake q)
of_round {h} {q} r m =
    ⊎_elim (λ t. inl (r.are_ticks q t))
    (λ t. ⊎_elim (λ t. inr (inl (r.are_refreshes q t)))
    (λ t. ⊎_elim (λ t. inr (inr (r.are_takes q t))) (λ t. absurd (Memᴰ.not-nil t)) (Memᴰ.append_cases r.takes t))
    (Memᴰ.append_cases r.refreshes t))
    (Memᴰ.append_cases r.ticks (subst (Among q) r.ends m))

pub no_read : {h : List Call} → Among (read 0 0) h → Round counts duo [] h → ⊥
no_read m r = ⊎_elim (λ t. elim t [ ]) (λ t. ⊎_elim (λ t. elim t [ ]) (λ t. elim t [ ]) t) (of_round r m)
