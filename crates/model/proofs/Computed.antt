-- The model over again with the order as a parameter: at the sealed order it is the model, and at an order that computes it computes closed cases.
-- Assumes nothing.
use Prim.Native.Nat.{ℕ}
use mathlib.Core.Path.{◌≡◌, refl, ap, ◌∙◌, sym}
use mathlib.Core.Bool.{Bool}
use mathlib.Core.List.{List, [], ◌∷◌}
use lib.Dec.{eqb}
use lib.Ieee.{of_bits, lt, le}
use Rattle.loops.specs.Loops.{times, every, pick}
use Rattle.card.specs.Card.{length_fit, card_fit}
use Rattle.order.specs.Vector.{Vec, merged, covered, zeros, agree}
use Rattle.order.specs.Order.{Rank, above}
use Rattle.model.specs.Parts.{Counts, Version, Write, copy, Shelf, State, put, rank, greater, set_shelf, set_crew, set_home, lowest, other, stamp_of, unwritten, empty_shelf, fresh, end, room}
use Rattle.model.specs.Rules.{raised, keeping, clear, shown_of, left, shown, settled, settle, storing, keep, ticked, receiving, held_of, taking, holds, emit, send, roomy, lowest_seen}
use Rattle.paper.specs.declared.answer.Payload.{Payload}
use Rattle.paper.specs.Calls.{Call, read, write, tick, take, refresh, move, list, Answer, refused, done, current, superseded, first}
use Rattle.model.specs.Calls.{Outcome, entries, told, none, shelf_of, home_shelf, answered, made, arrived, gathered, all_below, within, page_vector, paged, listing, refusal, reading, acted, step, answers, ends}

unfoldable pub refresh_from : ℕ → ℕ → State → Shelf → Outcome
refresh_from d s σ g = record { answer = done; state = set_shelf d s g σ }

module _ (higher : ℕ → Rank → Rank → Bool) where
  unfoldable pub keeping_by : ℕ → Write → (ℕ → Version) → ℕ → Version
  keeping_by n w store = put w.bearing (pick (higher n (rank w.version) (rank (store w.bearing))) w.version (store w.bearing)) store

  unfoldable pub shown_by : ℕ → (Write → Bool) → List Write → (ℕ → Version) → ℕ → Version
  shown_by n test [] store = store
  shown_by n test (w ∷ l) store = shown_by n test l (pick (test w) (keeping_by n w store) store)

  unfoldable pub settled_by : ℕ → ℕ → Vec → Shelf → Shelf
  settled_by n d u h = record {
    clock = h.clock;
    stable = raised n d u h.stable;
    seen = h.seen;
    store = times n (λ o. shown_by n (clear n d (raised n d u h.stable)) (h.taken o)) h.store;
    taken = λ o. left (clear n d (raised n d u h.stable)) (h.taken o);
    untaken = h.untaken;
  }

  unfoldable pub storing_by : ℕ → Write → Shelf → Shelf
  storing_by n w h = record
      { clock = h.clock; stable = h.stable; seen = h.seen; store = keeping_by n w h.store; taken = h.taken; untaken = h.untaken }

  -- a write, from its home shelf g raised and shown
  module _ (π : Counts) where
    unfoldable pub write_from : ℕ → ℕ → Payload → State → Shelf → Outcome
    write_from c k p σ g =
        let d = σ.home c in
        let s = shelf_of π k in
        let v = made π c k p σ in
        let w : Write = record { bearing = k; version = v } in
        let τ = set_crew c v.vector (set_shelf d s g σ) in
        record {
          answer = pick (higher π.depots (rank v) (rank (g.store k))) (current (v.vector d)) (superseded (v.vector d));
          state = send π d s (copy w) (set_shelf d s (storing_by π.depots w (τ.shelf d s)) τ);
        }

    unfoldable pub paged_by : ℕ → State → State
    paged_by c σ = times π.shelves (λ s τ. set_shelf (σ.home c) s (settled_by π.depots (σ.home c) (page_vector π c σ) (τ.shelf (σ.home c) s)) τ) σ

    unfoldable pub acted_by : State → Call → Outcome
    acted_by σ (read c k) = reading π c k σ (settled_by π.depots (σ.home c) (σ.crew c) (σ.shelf (σ.home c) (shelf_of π k)))
    acted_by σ (write c k p) = write_from c k p σ (settled_by π.depots (σ.home c) (σ.crew c) (σ.shelf (σ.home c) (shelf_of π k)))
    acted_by σ (tick d s) = acted π σ (tick d s)
    acted_by σ (take d s o) = acted π σ (take d s o)
    acted_by σ (move c d) = acted π σ (move c d)
    acted_by σ (list c ks) = listing π c ks σ (paged_by c σ)
    acted_by σ (refresh d s) = refresh_from d s σ (settled_by π.depots d (lowest_seen π d σ) (σ.shelf d s))

    unfoldable pub step_by : State → Call → Outcome
    step_by σ q = pick (eqb (refusal π σ q) 0) (acted_by σ q) (record { answer = refused (refusal π σ q); state = σ })

    unfoldable pub ends_by : State → List Call → State
    ends_by σ [] = σ
    ends_by σ (q ∷ l) = ends_by (step_by σ q).state l

    unfoldable pub answers_by : State → List Call → List Answer
    answers_by σ [] = []
    answers_by σ (q ∷ l) = (step_by σ q).answer ∷ answers_by (step_by σ q).state l

-- the answers and the state after calls, at the order f; whoever unfolds these unfolds all that they are computed from
unfoldable pub answers_now : (ℕ → Rank → Rank → Bool) → Counts → State → List Call → List Answer
unfolding zeros agree times every pick covered merged
    card_fit length_fit lt le of_bits
    put lowest other stamp_of unwritten empty_shelf fresh set_shelf set_crew set_home end room
    raised clear left ticked receiving held_of taking holds lowest_seen emit send roomy
    entries told first none shelf_of made arrived gathered all_below within page_vector listing refusal reading acted
    refresh_from keeping_by shown_by settled_by storing_by write_from paged_by acted_by step_by answers_by
answers_now f π σ l = answers_by f π σ l

unfoldable pub ends_now : (ℕ → Rank → Rank → Bool) → Counts → State → List Call → State
unfolding answers_now ends_by
ends_now f π σ l = ends_by f π σ l

shown_is : (n : ℕ) (test : Write → Bool) (l : List Write) (store : ℕ → Version) → shown_by above n test l store ≡ shown_of n test l store
unfolding shown_by keeping_by shown_of keeping greater
shown_is n test [] store = refl
shown_is n test (w ∷ l) store = shown_is n test l (pick (test w) (keeping n w store) store)

settled_is : (n d : ℕ) (u : Vec) (h : Shelf) → settled_by above n d u h ≡ settled n d u h
unfolding settled_by settled shown
settled_is n d u h = λ i. record {
  clock = h.clock;
  stable = raised n d u h.stable;
  seen = h.seen;
  store = times n (λ o store. shown_is n (clear n d (raised n d u h.stable)) (h.taken o) store i) h.store;
  taken = λ o. left (clear n d (raised n d u h.stable)) (h.taken o);
  untaken = h.untaken;
}

module _ (π : Counts) where
  acted_is : (σ : State) (q : Call) → acted_by above π σ q ≡ acted π σ q
  unfolding acted_by paged_by paged refresh_from write_from storing_by keeping_by acted home_shelf answered settle keep storing keeping greater
  acted_is σ (read c k) = ap (reading π c k σ) (settled_is _ _ _ _)
  acted_is σ (write c k p) = ap (write_from above π c k p σ) (settled_is _ _ _ _)
  acted_is σ (tick d s) = refl
  acted_is σ (take d s o) = refl
  acted_is σ (move c d) = refl
  acted_is σ (list c ks) = λ i.
      listing π c ks σ (times π.shelves (λ s τ. set_shelf (σ.home c) s (settled_is π.depots (σ.home c) (page_vector π c σ) (τ.shelf (σ.home c) s) i) τ) σ)
  acted_is σ (refresh d s) = ap (λ (g : Shelf). refresh_from d s σ g) (settled_is _ _ _ _)

  step_is : (σ : State) (q : Call) → step_by above π σ q ≡ step π σ q
  unfolding step_by step
  step_is σ q = ap (λ (o : Outcome). pick (eqb (refusal π σ q) 0) o (record { answer = refused (refusal π σ q); state = σ })) (acted_is σ q)

  answers_are : (σ : State) (l : List Call) → answers_by above π σ l ≡ answers π σ l
  unfolding answers_by answers
  answers_are σ [] = refl
  answers_are σ (q ∷ l) = ap (λ (o : Outcome). o.answer ∷ answers_by above π o.state l) (step_is σ q) ∙ ap (λ (r : List Answer). (step π σ q).answer ∷ r) (answers_are (step π σ q).state l)

  ends_is : (σ : State) (l : List Call) → ends_by above π σ l ≡ ends π σ l
  unfolding ends_by ends
  ends_is σ [] = refl
  ends_is σ (q ∷ l) = ap (λ (o : Outcome). ends_by above π o.state l) (step_is σ q) ∙ ends_is (step π σ q).state l

  -- at an order that agrees with the sealed one
  module _ (f : ℕ → Rank → Rank → Bool) (agrees : (n : ℕ) (a b : Rank) → above n a b ≡ f n a b) where
    pub answers_computed : (σ : State) (l : List Call) → answers π σ l ≡ answers_now f π σ l
    unfolding answers_now
    answers_computed σ l = sym (answers_are σ l) ∙ ap (λ (f : ℕ → Rank → Rank → Bool). answers_by f π σ l) (λ i n a b. agrees n a b i)

    pub ends_computed : (σ : State) (l : List Call) → ends π σ l ≡ ends_now f π σ l
    unfolding ends_now
    ends_computed σ l = sym (ends_is σ l) ∙ ap (λ (f : ℕ → Rank → Rank → Bool). ends_by f π σ l) (λ i n a b. agrees n a b i)
