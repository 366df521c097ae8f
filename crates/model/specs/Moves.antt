-- What is asked of moves, of any system: when one is refused, what one that is done changes, and what a crew may count on that moves. A history has its
-- newest call first.
-- Assumes nothing.
use Rattle.std.specs.Prelude.{ℕ, ◌+◌, ◌-◌, ◌<◌, ◌≡◌, List, ◌∷◌}
use Rattle.model.specs.Parts.{Counts, Version, Write, lowest}
use Rattle.paper.specs.Calls.{Call, read, move}
use Rattle.model.specs.System.{System, after}
use Rattle.model.specs.Demands.{AtLeast, Done, Silent, Got, Past, Rounds, lowest_clock}

module _ (π : Counts) (S : System) where
  -- the lowest stamp that any shelf of depot d has seen from depot x, after history h
  unfoldable pub lowest_stamp : List Call → ℕ → ℕ → ℕ
  lowest_stamp h d x = lowest π.shelves (λ s. S.seen (after S h) d s x)

  -- depot d is behind crew c: for some depot other than d, the crew's entry is above the lowest stamp that any shelf of d has seen from it
  pub record Behind (h : List Call) (c d : ℕ) : Type 0 where
    pub from : ℕ
    pub below : from < π.depots
    pub apart : from ≡ d → ⊥
    pub unseen : lowest_stamp h d from < S.crew (after S h) c from

  -- a crew which was let in reads at its new home nothing lower than its past: of bearing k it is told the version v, which the new home then stores,
  -- and which is no lower than any write to that bearing in the past that it came with
  pub record ReadsThere (h : List Call) (c d k : ℕ) (v : Version) : Type 0 where
    pub stored : S.store (after S (read c k ∷ move c d ∷ h)) d k ≡ v
    pub causal : (w : Write) → w.bearing ≡ k → Past π S h c w → AtLeast π.depots v w.version

  pub record Moves : Type 0 where
    -- NOT HERE YET exactly when crew and depot are there, the new home isn't the present one, and it is behind the crew; a move whose crew and depot
    -- are there is done otherwise
    pub refused_for : (h : List Call) (c d : ℕ) → S.number (after S h) (move c d) ≡ 12
        → (c < π.crews) × (d < π.depots) × (d ≡ S.home (after S h) c → ⊥) × Behind h c d
    pub refused_where : (h : List Call) (c d : ℕ) → c < π.crews → d < π.depots → (d ≡ S.home (after S h) c → ⊥) → Behind h c d → S.number (after S h) (move c d) ≡ 12
    pub done_else : (h : List Call) (c d : ℕ) → c < π.crews → d < π.depots → (S.number (after S h) (move c d) ≡ 12 → ⊥) → Done S h (move c d)
    -- what is done names what there is; the crew then has its new home; every other home and every vector is what it was
    pub named : (h : List Call) (c d : ℕ) → Done S h (move c d) → (c < π.crews) × (d < π.depots)
    pub moved : (h : List Call) (c d : ℕ) → Done S h (move c d) → S.home (after S (move c d ∷ h)) c ≡ d
    pub others : (h : List Call) (c d b : ℕ) → b < π.crews → (b ≡ c → ⊥) → S.home (after S (move c d ∷ h)) b ≡ S.home (after S h) b
    pub vectors : (h : List Call) (c d b x : ℕ) → b < π.crews → x < π.depots → S.crew (after S (move c d ∷ h)) b x ≡ S.crew (after S h) b x
    -- a move to the present home is done and changes nothing
    pub stays : (h : List Call) (c : ℕ) → c < π.crews → Done S h (move c (S.home (after S h) c))
    pub unchanged : (h : List Call) (c : ℕ) → c < π.crews → after S (move c (S.home (after S h) c) ∷ h) ≡ after S h
    -- a crew which was let in reads at its new home nothing lower than its past
    pub let_in : (h : List Call) (c d k : ℕ) (v : Version) → Done S h (move c d) → Got S (move c d ∷ h) (read c k) c k v → ReadsThere h c d k v
    -- a crew that is silent for max(0, home entry - m) + 1 rounds, m the lowest clock of its home, is refused NOT HERE YET at no depot
    pub admitted : (g h : List Call) (c : ℕ) → Rounds π S (S.crew (after S g) c (S.home (after S g) c) - lowest_clock π S g (S.home (after S g) c) + 1) g h → Silent S c g h
        → (d : ℕ) → S.number (after S h) (move c d) ≡ 12 → ⊥
