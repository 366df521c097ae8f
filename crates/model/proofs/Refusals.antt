-- What a call that is not refused has passed: the tests of its row, one after another.
-- Assumes nothing.
use Prim.Native.Nat.{ℕ, suc, ◌≤◌, ◌<◌}
use native.Mathlib.Omega.{arith}
use native.Mathlib.Nat.{mod-lt, le_trans}
use mathlib.Core.Path.{◌≡◌, refl, sym, ◌∙◌}
use mathlib.Core.Logic.{◌⊎◌, inl, inr, ⊎_elim}
use mathlib.Core.Bool.{Bool, true, false, not, ◌&&◌, ◌||◌}
use mathlib.Core.List.{List, [], ◌∷◌}
use lib.Dec.{eqb, ltb, leb}
use lib.ListN.{get_or, length}
use borrow.Author.Tests.{eqb-true, eqb-false, ltb-true, ltb-false, leb-true, leb-false, le-ltb, lt-leb, ne_eqb}
use Rattle.loops.specs.Loops.{pick, every}
use Rattle.loops.proofs.BoolLaws.{and_left, and_right, or_cases, both_ways}
use Rattle.loops.proofs.LoopLaws.{every_at}
use Rattle.order.proofs.VectorLaws.{covered_at_law}
use Rattle.card.specs.Card.{card_fit}
use Rattle.paper.specs.declared.answer.Payload.{Payload}
use Rattle.model.specs.Parts.{Counts, Message, State, most_bearings, most_listed, fresh, end}
use Rattle.model.specs.Rules.{roomy, lowest_seen}
use Rattle.paper.specs.Calls.{last_day, read, write, tick, take, refresh, move, list, first}
use Rattle.model.specs.Calls.{none, within, all_below, setup, shelf_of, arrived, refusal}
use Rattle.model.proofs.Places.{Other, lowest_below}

-- no number comes from the first test, and none from the rest
pub first_none : (t : Bool) (n : ℕ) (l : List (Bool × ℕ)) → first ((t, suc n) ∷ l) ≡ 0 → (t ≡ false) × (first l ≡ 0)
unfolding first pick
first_none true n l e = absurd (omega arith)
first_none false n l e = (refl, e)

or_none : (a b : Bool) → a || b ≡ false → (a ≡ false) × (b ≡ false)
or_none false b e = (refl, e)
or_none true b e = let z : true ≡ false = e in (z, absurd (let t : ◌≡◌ {A = ℕ} 0 1 = cc in omega arith))

not_none : (b : Bool) → not b ≡ false → b ≡ true
not_none true e = refl
not_none false e = sym e

-- a number m that is not the first test's comes from the rest
first_skips : (t : Bool) (n m : ℕ) (l : List (Bool × ℕ)) → first ((t, n) ∷ l) ≡ m → (n ≡ m → ⊥) → (t ≡ false) × (first l ≡ m)
unfolding first pick
first_skips true n m l e f = absurd (f e)
first_skips false n m l e f = (refl, e)

first_failed : (t : Bool) (n m : ℕ) (l : List (Bool × ℕ)) → first ((t, n) ∷ l) ≡ m → t ≡ false → first l ≡ m
unfolding first pick
first_failed true n m l e f = absurd (both_ways {b = true} refl f)
first_failed false n m l e f = e

first_ends : first [] ≡ 8 → ⊥
unfolding first
first_ends e = omega arith

module _ (π : Counts) where
  -- where its home entry is at most the clock, a crew is not told to wait
  pub no_wait : (σ : State) (c k : ℕ) (v : Payload) → (c < π.crews → σ.crew c (σ.home c) ≤ (σ.shelf (σ.home c) (shelf_of π k)).clock) → refusal π σ (write c k v) ≡ 8 → ⊥
  unfolding refusal
  no_wait σ c k v ready e =
      let a = first_skips (leb π.crews c) 5 8 _ e (λ n. omega arith) in
      let b = first_skips (leb π.bearings k) 4 8 _ a.1 (λ n. omega arith) in
      let y = first_skips _ 16 8 _ b.1 (λ n. omega arith) in
      let g = first_skips _ 14 8 _ y.1 (λ n. omega arith) in
      let w = first_failed (ltb (σ.shelf (σ.home c) (shelf_of π k)).clock (σ.crew c (σ.home c))) 8 8 _ g.1 (le-ltb _ _ (ready (leb-false _ _ a.0))) in
      let t = first_skips (leb end (σ.shelf (σ.home c) (shelf_of π k)).clock) 10 8 _ w (λ n. omega arith) in
      let r = first_skips (not (roomy π (σ.home c) (shelf_of π k) σ)) 9 8 _ t.1 (λ n. omega arith) in
      first_ends r.1

  pub take_passes : (σ : State) (d s o : ℕ) (m : Message) (l : List Message) → d < π.depots → s < π.shelves → Other π.depots d o → (σ.shelf d s).untaken o ≡ m ∷ l → refusal π σ (take d s o) ≡ 0
  unfolding refusal first pick none
  take_passes σ d s o m l hd hs a e = rw (lt-leb π.depots d hd, lt-leb π.depots o a.below, lt-leb π.shelves s hs, ne_eqb d o (λ f. a.apart (sym f)), e) refl

  -- an empty link answers EMPTY LINK, and only an empty one does
  pub take_none : (σ : State) (d s o : ℕ) → d < π.depots → s < π.shelves → Other π.depots d o → (σ.shelf d s).untaken o ≡ [] → refusal π σ (take d s o) ≡ 7
  unfolding refusal first pick none
  take_none σ d s o hd hs a e = rw (lt-leb π.depots d hd, lt-leb π.depots o a.below, lt-leb π.shelves s hs, ne_eqb d o (λ f. a.apart (sym f)), e) refl

  pub take_seven : (σ : State) (d s o : ℕ) → d < π.depots → s < π.shelves → Other π.depots d o → refusal π σ (take d s o) ≡ 7 → (σ.shelf d s).untaken o ≡ []
  take_seven σ d s o hd hs a e = by ((σ.shelf d s).untaken o) refl
    where
      by : (l : List Message) → (σ.shelf d s).untaken o ≡ l → l ≡ []
      by [] t = refl
      by (m ∷ l) t = absurd (let z : ◌≡◌ {A = ℕ} 0 7 = sym (take_passes σ d s o m l hd hs a t) ∙ e in omega arith)

  -- who waits is a crew
  pub waits_crew : (σ : State) (c k : ℕ) (v : Payload) → refusal π σ (write c k v) ≡ 8 → c < π.crews
  unfolding refusal
  waits_crew σ c k v e = leb-false _ _ (first_skips (leb π.crews c) 5 8 _ e (λ n. omega arith)).0

  pub record ReadPassed (c k : ℕ) : Type 0 where
    pub crew : c < π.crews
    pub bearing : k < π.bearings

  pub read_passed : (σ : State) (c k : ℕ) → refusal π σ (read c k) ≡ 0 → ReadPassed c k
  unfolding refusal
  read_passed σ c k e =
      let a = first_none (leb π.crews c) 4 _ e in
      let b = first_none (leb π.bearings k) 3 _ a.1 in
      record { crew = leb-false π.crews c a.0; bearing = leb-false π.bearings k b.0 }

  pub record WritePassed (σ : State) (c k : ℕ) (v : Payload) : Type 0 where
    pub crew : c < π.crews
    pub bearing : k < π.bearings
    pub dated : v.value ≤ last_day
    pub carded : card_fit v.diameter v.width ≡ true
    pub ready : σ.crew c (σ.home c) ≤ (σ.shelf (σ.home c) (shelf_of π k)).clock
    pub below : (σ.shelf (σ.home c) (shelf_of π k)).clock < end
    pub room : roomy π (σ.home c) (shelf_of π k) σ ≡ true

  pub write_passed : (σ : State) (c k : ℕ) (v : Payload) → refusal π σ (write c k v) ≡ 0 → WritePassed σ c k v
  unfolding refusal
  write_passed σ c k v e =
      let a = first_none (leb π.crews c) 4 _ e in
      let b = first_none (leb π.bearings k) 3 _ a.1 in
      let y = first_none _ 15 _ b.1 in
      let g = first_none _ 13 _ y.1 in
      let w = first_none (ltb (σ.shelf (σ.home c) (shelf_of π k)).clock (σ.crew c (σ.home c))) 7 _ g.1 in
      let t = first_none (leb end (σ.shelf (σ.home c) (shelf_of π k)).clock) 9 _ w.1 in
      let r = first_none (not (roomy π (σ.home c) (shelf_of π k) σ)) 8 _ t.1 in
      record {
        crew = leb-false π.crews c a.0;
        bearing = leb-false π.bearings k b.0;
        dated = ltb-false _ _ y.0;
        carded = not_none _ g.0;
        ready = ltb-false _ _ w.0;
        below = leb-false _ _ t.0;
        room = not_none _ r.0;
      }

  pub record TickPassed (σ : State) (d s : ℕ) : Type 0 where
    pub depot : d < π.depots
    pub shelf : s < π.shelves
    pub below : (σ.shelf d s).clock < end
    pub room : roomy π d s σ ≡ true

  pub tick_passed : (σ : State) (d s : ℕ) → refusal π σ (tick d s) ≡ 0 → TickPassed σ d s
  unfolding refusal
  tick_passed σ d s e =
      let a = first_none (leb π.depots d) 1 _ e in
      let b = first_none (leb π.shelves s) 2 _ a.1 in
      let t = first_none (leb end (σ.shelf d s).clock) 9 _ b.1 in
      let r = first_none (not (roomy π d s σ)) 8 _ t.1 in
      record { depot = leb-false _ _ a.0; shelf = leb-false _ _ b.0; below = leb-false _ _ t.0; room = not_none _ r.0 }

  pub record TakePassed (σ : State) (d s o : ℕ) : Type 0 where
    pub depot : d < π.depots
    pub shelf : s < π.shelves
    pub from : Other π.depots d o
    pub some : none ((σ.shelf d s).untaken o) ≡ false

  pub take_passed : (σ : State) (d s o : ℕ) → refusal π σ (take d s o) ≡ 0 → TakePassed σ d s o
  unfolding refusal
  take_passed σ d s o e =
      let a = first_none (leb π.depots d || leb π.depots o) 1 _ e in
      let both = or_none (leb π.depots d) (leb π.depots o) a.0 in
      let b = first_none (leb π.shelves s) 2 _ a.1 in
      let c = first_none (eqb d o) 5 _ b.1 in
      let n = first_none (none ((σ.shelf d s).untaken o)) 6 _ c.1 in
      record {
        depot = leb-false _ _ both.0;
        shelf = leb-false _ _ b.0;
        from = record { below = leb-false _ _ both.1; apart = λ f. eqb-false d o c.0 (sym f) };
        some = n.0;
      }

  pub record RefreshPassed (d s : ℕ) : Type 0 where
    pub depot : d < π.depots
    pub shelf : s < π.shelves

  pub refresh_passed : (σ : State) (d s : ℕ) → refusal π σ (refresh d s) ≡ 0 → RefreshPassed d s
  unfolding refusal
  refresh_passed σ d s e =
      let a = first_none (leb π.depots d) 1 _ e in
      let b = first_none (leb π.shelves s) 2 _ a.1 in
      record { depot = leb-false _ _ a.0; shelf = leb-false _ _ b.0 }

  pub record MovePassed (σ : State) (c d : ℕ) : Type 0 where
    pub crew : c < π.crews
    pub depot : d < π.depots
    pub here : (d ≡ σ.home c) ⊎ ((r x : ℕ) → r < π.shelves → Other π.depots d x → σ.crew c x ≤ (σ.shelf d r).seen x)

  pub move_passed : (σ : State) (c d : ℕ) → refusal π σ (move c d) ≡ 0 → MovePassed σ c d
  unfolding refusal arrived lowest_seen
  move_passed σ c d e =
      let a = first_none (leb π.crews c) 4 _ e in
      let b = first_none (leb π.depots d) 1 _ a.1 in
      let t = first_none (not (eqb d (σ.home c) || arrived π d (σ.crew c) σ)) 11 _ b.1 in
      record {
        crew = leb-false π.crews c a.0;
        depot = leb-false π.depots d b.0;
        here = ⊎_elim (λ (h : eqb d (σ.home c) ≡ true). inl (eqb-true _ _ h))
            (λ (h : arrived π d (σ.crew c) σ ≡ true). inr (λ r x hr o. le_trans (covered_at_law π.depots d _ _ h x o.below o.apart) (lowest_below π.shelves _ r hr)))
            (or_cases (eqb d (σ.home c)) (arrived π d (σ.crew c) σ) (not_none _ t.0));
      }

  -- who is not here yet is a crew, and asks for a depot
  pub move_named : (σ : State) (c d : ℕ) → refusal π σ (move c d) ≡ 12 → (c < π.crews) × (d < π.depots)
  unfolding refusal
  move_named σ c d e =
      let a = first_skips (leb π.crews c) 5 12 _ e (λ n. omega arith) in
      let b = first_skips (leb π.depots d) 2 12 _ a.1 (λ n. omega arith) in
      (leb-false _ _ a.0, leb-false _ _ b.0)

  pub record ListPassed (c : ℕ) (ks : List ℕ) : Type 0 where
    pub crew : c < π.crews
    pub counted : within (length ks) most_listed ≡ true
    pub below : all_below π.bearings ks ≡ true

  pub list_passed : (σ : State) (c : ℕ) (ks : List ℕ) → refusal π σ (list c ks) ≡ 0 → ListPassed c ks
  unfolding refusal
  list_passed σ c ks e =
      let a = first_none (leb π.crews c) 4 _ e in
      let b = first_none (not (within (length ks) most_listed)) 14 _ a.1 in
      let t = first_none (not (all_below π.bearings ks)) 3 _ b.1 in
      record { crew = leb-false π.crews c a.0; counted = not_none _ b.0; below = not_none _ t.0 }

  -- what a setup that is done has settled
  pub record SetUp (homes : List ℕ) : Type 0 where
    pub shelves : 0 < π.shelves
    pub housed : (c : ℕ) → c < π.crews → (fresh homes).home c < π.depots

  pub setting_up : (homes : List ℕ) → setup π homes ≡ 0 → SetUp homes
  unfolding setup within fresh
  setting_up homes e =
      let a = first_none (not (within π.depots 4 && (within π.shelves 4 && (within π.bearings most_bearings && (within π.crews 16 && eqb (length homes) π.crews))))) 10 _ e in
      let b = first_none (not (every π.crews (λ c. ltb (get_or homes c 0) π.depots))) 1 _ a.1 in
      let counts = and_right (within π.depots 4) (within π.shelves 4 && (within π.bearings most_bearings && (within π.crews 16 && eqb (length homes) π.crews))) (not_none _ a.0) in
      let shelves = and_left (within π.shelves 4) (within π.bearings most_bearings && (within π.crews 16 && eqb (length homes) π.crews)) counts in
      record {
        shelves = leb-true 1 π.shelves (and_left (leb 1 π.shelves) (leb π.shelves 4) shelves);
        housed = λ c h. ltb-true _ _ (every_at π.crews _ (not_none _ b.0) c h);
      }

  pub shelf_below : {homes : List ℕ} → SetUp homes → (k : ℕ) → shelf_of π k < π.shelves
  unfolding shelf_of
  shelf_below u k = mod-lt k u.shelves
