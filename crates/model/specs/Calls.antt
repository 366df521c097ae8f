-- The calls: what each answers and leaves, when it is refused.
-- Assumes nothing.
use Rattle.std.specs.Prelude.{ℕ, zero, suc, ◌%◌, Bool, true, false, ◌||◌, not, ◌&&◌, List, [], ◌∷◌, ◌++◌, map, eqb, ltb, leb, length, get_or}
use Rattle.paper.specs.Calls.{last_day, Call, read, write, tick, take, refresh, move, list, Told, read_value, read_unwritten, Answer, refused, done, reads, current, superseded, listed, first}
use Rattle.loops.specs.Loops.{times, every, pick}
use Rattle.card.specs.Card.{card_fit}
use Rattle.paper.specs.declared.answer.Payload.{Payload}
use Rattle.order.specs.Vector.{Vec, merged, zeros, covered}
use Rattle.order.specs.Order.{above}
use Rattle.model.specs.Parts.{most_depots, most_shelves, most_bearings, most_crews, most_listed}
use Rattle.model.specs.Parts.{Counts, Version, Write, Message, copy, heartbeat, Shelf, State, put, rank, set_shelf, set_crew, set_home, end}
use Rattle.model.specs.Rules.{settled, settle, keep, send, roomy, taking, lowest_seen}

-- an answer and the state after it
pub record Outcome : Type 0 where
  pub answer : Answer
  pub state : State

-- the first n entries of a vector
unfoldable pub entries : ℕ → Vec → List ℕ
entries zero u = []
entries (suc i) u = entries i u ++ (u i ∷ [])

-- what is told of the stored version v, with n depots
unfoldable pub told : ℕ → Version → Told
told n v = pick (zeros n v.vector) (read_unwritten (entries n v.vector)) (read_value v.payload (entries n v.vector))

-- every bearing of the list is below n
unfoldable pub all_below : ℕ → List ℕ → Bool
all_below n [] = true
all_below n (k ∷ ks) = ltb k n && all_below n ks

-- the entrywise maximum of u and of f k for every k of the list
unfoldable pub gathered : Vec → (ℕ → Vec) → List ℕ → Vec
gathered u f [] = u
gathered u f (k ∷ ks) = gathered (merged u (f k)) f ks

-- no untaken message
unfoldable pub none : List Message → Bool
none [] = true
none (m ∷ l) = false

-- setup, of four counts and a list of homes: 11 where a count is out of range or there are not C homes, 2 where a home is D or more
unfoldable pub within : ℕ → ℕ → Bool
within x most = leb 1 x && leb x most

unfoldable pub setup : Counts → List ℕ → ℕ
setup π homes = first
    ((not (within π.depots most_depots && (within π.shelves most_shelves && (within π.bearings most_bearings && (within π.crews most_crews && eqb (length homes) π.crews)))), 11)
    ∷ ((not (every π.crews (λ c. ltb (get_or homes c 0) π.depots)), 2)
    ∷ []))

module _ (π : Counts) where
  -- bearing k lies on shelf k mod P of every depot
  unfoldable pub shelf_of : ℕ → ℕ
  shelf_of k = k % π.shelves

  -- the shelf that a crew meets at home, raised with its vector and shown
  unfoldable pub home_shelf : ℕ → ℕ → State → Shelf
  home_shelf c k σ = settled π.depots (σ.home c) (σ.crew c) (σ.shelf (σ.home c) (shelf_of k))

  -- the version that a read answers with
  unfoldable pub answered : ℕ → ℕ → State → Version
  answered c k σ = (home_shelf c k σ).store k

  -- what a list offers: the entrywise maximum of the crew's vector and the stable vectors of all home shelves
  unfoldable pub page_vector : ℕ → State → Vec
  page_vector c σ = times π.shelves (λ s u. merged u (σ.shelf (σ.home c) s).stable) (σ.crew c)

  -- every home shelf raised with it and shown
  unfoldable pub paged : ℕ → State → State
  paged c σ = times π.shelves (λ s τ. settle π (σ.home c) s (page_vector c σ) τ) σ

  -- the version that a list answers with for bearing k
  unfoldable pub on_page : ℕ → ℕ → State → Version
  on_page c k σ = ((paged c σ).shelf (σ.home c) (shelf_of k)).store k

  -- the version that a write makes: the crew's vector, with the home entry set to the new clock
  unfoldable pub made : ℕ → ℕ → Payload → State → Version
  made c k p σ = record {
    payload = p;
    origin = σ.home c;
    vector = put (σ.home c) (suc (σ.shelf (σ.home c) (shelf_of k)).clock) (σ.crew c);
  }

  -- depot d has seen the vector u: for every other depot, u's entry is at most the lowest stamp that any shelf of d has seen from it
  unfoldable pub arrived : ℕ → Vec → State → Bool
  arrived d u σ = covered π.depots d u (lowest_seen π d σ)

  -- when the desk says no: the checks of each call, in their order
  unfoldable pub refusal : State → Call → ℕ
  refusal σ (read c k) = first
      ((leb π.crews c, 5)
      ∷ ((leb π.bearings k, 4)
      ∷ []))
  refusal σ (write c k p) = first
      ((leb π.crews c, 5)
      ∷ ((leb π.bearings k, 4)
      ∷ ((ltb last_day p.value, 16)
      ∷ ((not (card_fit p.diameter p.width), 14)
      ∷ ((ltb (σ.shelf (σ.home c) (shelf_of k)).clock (σ.crew c (σ.home c)), 8)
      ∷ ((leb end (σ.shelf (σ.home c) (shelf_of k)).clock, 10)
      ∷ ((not (roomy π (σ.home c) (shelf_of k) σ), 9)
      ∷ [])))))))
  refusal σ (tick d s) = first
      ((leb π.depots d, 2)
      ∷ ((leb π.shelves s, 3)
      ∷ ((leb end (σ.shelf d s).clock, 10)
      ∷ ((not (roomy π d s σ), 9)
      ∷ []))))
  refusal σ (take d s from) = first
      ((leb π.depots d || leb π.depots from, 2)
      ∷ ((leb π.shelves s, 3)
      ∷ ((eqb d from, 6)
      ∷ ((none ((σ.shelf d s).untaken from), 7)
      ∷ []))))
  refusal σ (refresh d s) = first
      ((leb π.depots d, 2)
      ∷ ((leb π.shelves s, 3)
      ∷ []))
  refusal σ (move c d) = first
      ((leb π.crews c, 5)
      ∷ ((leb π.depots d, 2)
      ∷ ((not (eqb d (σ.home c) || arrived d (σ.crew c) σ), 12)
      ∷ [])))
  refusal σ (list c ks) = first
      ((leb π.crews c, 5)
      ∷ ((not (within (length ks) most_listed), 15)
      ∷ ((not (all_below π.bearings ks), 4)
      ∷ [])))

  -- a read, its home shelf h raised and shown: it answers what h stores, and the crew's vector becomes the entrywise maximum with it
  unfoldable pub reading : ℕ → ℕ → State → Shelf → Outcome
  reading c k σ h = record {
    answer = reads (told π.depots (h.store k));
    state = set_crew c (merged (σ.crew c) (h.store k).vector) (set_shelf (σ.home c) (shelf_of k) h σ);
  }

  -- a list, the state τ having every home shelf raised and shown: it answers what they store, and the crew's vector becomes the maximum with all of it
  unfoldable pub listing : ℕ → List ℕ → State → State → Outcome
  listing c ks σ τ = record {
    answer = listed (map (λ k. told π.depots ((τ.shelf (σ.home c) (shelf_of k)).store k)) ks);
    state = set_crew c (gathered (σ.crew c) (λ k. ((τ.shelf (σ.home c) (shelf_of k)).store k).vector) ks) τ;
  }

  -- what a call answers and does where it is not refused
  unfoldable pub acted : State → Call → Outcome
  acted σ (read c k) = reading c k σ (home_shelf c k σ)
  acted σ (write c k p) =
      let d = σ.home c in
      let s = shelf_of k in
      let v = made c k p σ in
      let w : Write = record { bearing = k; version = v } in
      record {
        answer = pick (above π.depots (rank v) (rank (answered c k σ))) (current (v.vector d)) (superseded (v.vector d));
        state = send π d s (copy w) (keep π d s w (set_crew c v.vector (settle π d s (σ.crew c) σ)));
      }
  acted σ (tick d s) = record {
    answer = done;
    state = send π d s (heartbeat (suc (σ.shelf d s).clock)) σ;
  }
  acted σ (take d s from) = record {
    answer = done;
    state = set_shelf d s (taking from ((σ.shelf d s).untaken from) (σ.shelf d s)) σ;
  }
  acted σ (refresh d s) = record {
    answer = done;
    state = settle π d s (lowest_seen π d σ) σ;
  }
  acted σ (move c d) = record {
    answer = done;
    state = set_home c d σ;
  }
  acted σ (list c ks) = listing c ks σ (paged c σ)

  -- a call: a refused one changes nothing
  unfoldable pub step : State → Call → Outcome
  step σ q = pick (eqb (refusal σ q) 0) (acted σ q) (record { answer = refused (refusal σ q); state = σ })

  -- the answers to calls, oldest first
  unfoldable pub answers : State → List Call → List Answer
  answers σ [] = []
  answers σ (q ∷ l) = (step σ q).answer ∷ answers (step σ q).state l

  -- the state after calls, oldest first
  unfoldable pub ends : State → List Call → State
  ends σ [] = σ
  ends σ (q ∷ l) = ends (step σ q).state l
