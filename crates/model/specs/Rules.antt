-- What happens at one shelf: raise and show, storing, sending on every link out, taking.
-- Assumes nothing.
use Rattle.std.specs.Prelude.{ℕ, suc, ◌+◌, max, Bool, ◌&&◌, ◌||◌, List, [], ◌∷◌, ◌++◌, eqb, ltb, length}
use Rattle.loops.specs.Loops.{times, every, pick}
use Rattle.order.specs.Vector.{Vec, covered}
use Rattle.model.specs.Parts.{Counts, Version, Write, Message, copy, heartbeat, Shelf, State, put, lowest, other, greater, stamp_of, set_shelf, room}

-- each other-depot entry of the stable vector v becomes the larger of itself and what is offered
unfoldable pub raised : ℕ → ℕ → Vec → Vec → Vec
raised n d offered v x = pick (other n d x) (max (v x) (offered x)) (v x)

-- the write's version replaces the stored one if greater
unfoldable pub keeping : ℕ → Write → (ℕ → Version) → ℕ → Version
keeping n w store = put w.bearing (greater n (store w.bearing) w.version) store

-- the copy's vector is covered by the stable vector v in all entries but depot d's
unfoldable pub clear : ℕ → ℕ → Vec → Write → Bool
clear n d v w = covered n d w.version.vector v

-- of the copies of one link, oldest first: the store after those that pass the test are shown, and the copies that stay
unfoldable pub shown_of : ℕ → (Write → Bool) → List Write → (ℕ → Version) → ℕ → Version
shown_of n test [] store = store
shown_of n test (w ∷ l) store = shown_of n test l (pick (test w) (keeping n w store) store)

unfoldable pub left : (Write → Bool) → List Write → List Write
left test [] = []
left test (w ∷ l) = pick (test w) (left test l) (w ∷ left test l)

-- show: from depot 0 on and oldest first, each taken copy that is covered is shown: it replaces the stored version if greater, and leaves its link
unfoldable pub shown : ℕ → ℕ → Shelf → Shelf
shown n d h = record {
  clock = h.clock;
  stable = h.stable;
  seen = h.seen;
  store = times n (λ o. shown_of n (clear n d h.stable) (h.taken o)) h.store;
  taken = λ o. left (clear n d h.stable) (h.taken o);
  untaken = h.untaken;
}

-- raise and show
unfoldable pub settled : ℕ → ℕ → Vec → Shelf → Shelf
settled n d offered h = shown n d (record {
  clock = h.clock;
  stable = raised n d offered h.stable;
  seen = h.seen;
  store = h.store;
  taken = h.taken;
  untaken = h.untaken;
})

-- the shelf with this write's version stored if greater
unfoldable pub storing : ℕ → Write → Shelf → Shelf
storing n w h = record
    { clock = h.clock; stable = h.stable; seen = h.seen; store = keeping n w h.store; taken = h.taken; untaken = h.untaken }

-- the clock moves on by one
unfoldable pub ticked : Shelf → Shelf
ticked h = record
    { clock = suc h.clock; stable = h.stable; seen = h.seen; store = h.store; taken = h.taken; untaken = h.untaken }

-- the message stands last on the link from depot d
unfoldable pub receiving : ℕ → Message → Shelf → Shelf
receiving d m h = record
    { clock = h.clock; stable = h.stable; seen = h.seen; store = h.store; taken = h.taken; untaken = put d (h.untaken d ++ (m ∷ [])) h.untaken }

-- the first untaken message is taken: the stamp seen becomes its stamp; a copy is held until it is shown, a heartbeat leaves the link
unfoldable pub held_of : Message → List Write
held_of (copy w) = w ∷ []
held_of (heartbeat t) = []

unfoldable pub taking : ℕ → List Message → Shelf → Shelf
taking o [] h = h
taking o (m ∷ l) h = record {
  clock = h.clock;
  stable = h.stable;
  seen = put o (stamp_of m) h.seen;
  store = h.store;
  taken = put o (h.taken o ++ held_of m) h.taken;
  untaken = put o l h.untaken;
}

-- the copies among the messages of a link, oldest first
unfoldable pub copies : List Message → List Write
copies [] = []
copies (m ∷ l) = held_of m ++ copies l

-- the messages that hold room on the link from depot o: a heartbeat until taken, a copy until taken and shown
unfoldable pub holds : ℕ → Shelf → ℕ
holds o h = length (h.taken o) + length (h.untaken o)

module _ (π : Counts) where
  -- raise and show at shelf s of depot d
  unfoldable pub settle : ℕ → ℕ → Vec → State → State
  settle d s offered σ = set_shelf d s (settled π.depots d offered (σ.shelf d s)) σ

  -- at shelf s of depot d the write's version is stored if greater than what is there
  unfoldable pub keep : ℕ → ℕ → Write → State → State
  keep d s w σ = set_shelf d s (storing π.depots w (σ.shelf d s)) σ

  -- the lowest stamp seen over all shelves of depot d, for each other depot
  unfoldable pub lowest_seen : ℕ → State → Vec
  lowest_seen d σ x = lowest π.shelves (λ s. (σ.shelf d s).seen x)

  -- the message goes on every link out of shelf s of depot d
  unfoldable pub emit : ℕ → ℕ → Message → State → State
  emit d s m σ = record {
    shelf = λ e r. pick (other π.depots d e && eqb r s) (receiving d m (σ.shelf e r)) (σ.shelf e r);
    crew = σ.crew;
    home = σ.home;
  }

  -- the clock moves on by one, and the message goes on every link out
  unfoldable pub send : ℕ → ℕ → Message → State → State
  send d s m σ = emit d s m (set_shelf d s (ticked (σ.shelf d s)) σ)

  -- every link out of shelf s of depot d has room
  unfoldable pub roomy : ℕ → ℕ → State → Bool
  roomy d s σ = every π.depots (λ e. eqb e d || ltb (holds d (σ.shelf e s)) room)
