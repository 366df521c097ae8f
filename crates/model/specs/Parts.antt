-- The parts of a register: counts, versions, messages, shelves with their incoming links, crews, and the state they make up.
-- Assumes nothing.
use Rattle.std.specs.Prelude.{ℕ, min, Bool, ◌&&◌, not, List, [], eqb, ltb, get_or}
use Rattle.loops.specs.Loops.{times, pick}
use Rattle.order.specs.Vector.{Vec}
use Rattle.order.specs.Order.{Rank, above}
use Rattle.paper.specs.declared.answer.Payload.{Payload}

-- D depots, P shelves in each, K bearings, C crews, all numbered from 0
pub record Counts : Type 0 where
  pub depots : ℕ
  pub shelves : ℕ
  pub bearings : ℕ
  pub crews : ℕ

-- how many of each a register may have; at least one
abbrev pub most_depots : ℕ
most_depots = 4

abbrev pub most_shelves : ℕ
most_shelves = 4

abbrev pub most_bearings : ℕ
most_bearings = 160

abbrev pub most_crews : ℕ
most_crews = 16

-- a list has at least one bearing, and at most
abbrev pub most_listed : ℕ
most_listed = 8

-- entries, clocks and stamps go from 0 to here
unfoldable pub end : ℕ
end = 2147483647

-- a link has room for 16 messages
unfoldable pub room : ℕ
room = 16

-- f with a in the place i
unfoldable pub put : {A : Type 0} → ℕ → A → (ℕ → A) → ℕ → A
put i a f x = pick (eqb x i) a (f x)

-- the lowest of f 0, .. and f (n - 1)
unfoldable pub lowest : ℕ → (ℕ → ℕ) → ℕ
lowest n f = times n (λ i m. min m (f i)) end

-- x is a depot other than d, of n
unfoldable pub other : ℕ → ℕ → ℕ → Bool
other n d x = ltb x n && not (eqb x d)

-- a version: payload (value and card), origin depot, vector; its bearing stands beside it
pub record Version : Type 0 where
  pub payload : Payload
  pub origin : ℕ
  pub vector : Vec

-- its stamp is its origin's entry
abbrev pub stamp : Version → ℕ
stamp v = v.vector v.origin

abbrev pub rank : Version → Rank
rank v = record { vector = v.vector; origin = v.origin }

-- an unwritten bearing has the zero vector, and no card: 0 is no length
abbrev pub nothing : Payload
nothing = record { value = 0; diameter = 0; width = 0 }

unfoldable pub unwritten : Version
unwritten = record { payload = nothing; origin = 0; vector = λ x. 0 }

-- b where it is greater, else a
unfoldable pub greater : ℕ → Version → Version → Version
greater n a b = pick (above n (rank b) (rank a)) b a

-- a write: the bearing, and the version that it made
pub record Write : Type 0 where
  pub bearing : ℕ
  pub version : Version

-- what a link holds: copies of versions, or heartbeats holding a stamp
pub data Message : Type 0 where
  copy : Write → Message
  heartbeat : ℕ → Message

unfoldable pub stamp_of : Message → ℕ
stamp_of (copy w) = stamp w.version
stamp_of (heartbeat t) = t

-- a shelf of a depot: its clock, its stable vector, per other depot the last stamp seen, the version stored of each bearing, and per
-- other depot the incoming link, oldest first: the copies taken and not yet shown, then the messages not yet taken
pub record Shelf : Type 0 where
  pub clock : ℕ
  pub stable : Vec
  pub seen : Vec
  pub store : ℕ → Version
  pub taken : ℕ → List Write
  pub untaken : ℕ → List Message

-- a register: shelf s of depot d, the vector of each crew, the home depot of each crew
pub record State : Type 0 where
  pub shelf : ℕ → ℕ → Shelf
  pub crew : ℕ → Vec
  pub home : ℕ → ℕ

-- every clock, vector and stamp 0, links empty, bearings unwritten
unfoldable pub empty_shelf : Shelf
empty_shelf = record { clock = 0; stable = λ x. 0; seen = λ x. 0; store = λ k. unwritten; taken = λ o. []; untaken = λ o. [] }

unfoldable pub fresh : List ℕ → State
fresh homes = record { shelf = λ d s. empty_shelf; crew = λ c x. 0; home = λ c. get_or homes c 0 }

-- the state with the shelf h, or the crew's vector u, or its home d, put in its place
unfoldable pub set_shelf : ℕ → ℕ → Shelf → State → State
set_shelf d s h σ = record { shelf = put d (put s h (σ.shelf d)) σ.shelf; crew = σ.crew; home = σ.home }

unfoldable pub set_crew : ℕ → Vec → State → State
set_crew c u σ = record { shelf = σ.shelf; crew = put c u σ.crew; home = σ.home }

unfoldable pub set_home : ℕ → ℕ → State → State
set_home c d σ = record { shelf = σ.shelf; crew = σ.crew; home = put c d σ.home }
