-- What is demanded of a system, over every history of calls from its start: demands 2 and 3, and limits. A history has its newest call first.
-- Assumes nothing.
use Rattle.std.specs.Prelude.{ℕ, suc, ◌+◌, ◌-◌, ◌*◌, ◌≤◌, ◌<◌, ◌≡◌, ◌⊎◌, true, false, length, get_or}
use mathlib.Core.List.{List, ◌∷◌, ◌++◌, Memᴰ}
use Rattle.order.specs.Vector.{covered, zeros}
use Rattle.order.specs.Order.{above}
use Rattle.model.specs.Parts.{Counts, Version, Write, rank, stamp, unwritten, lowest, end, room}
use Rattle.card.specs.Card.{card_fit}
use Rattle.paper.specs.declared.answer.Payload.{Payload}
use Rattle.paper.specs.Calls.{last_day, Call, read, write, tick, take, refresh, move, list, Told, Answer, reads, listed, current, superseded, number_in}
use Rattle.model.specs.Calls.{told, shelf_of}
use Rattle.model.specs.System.{System, after}

-- ---- words

-- the three parts of a round
pub data IsTake : Call → Type 0 where
  a_take : {d s o : ℕ} → IsTake (take d s o)

pub data IsRefresh : Call → Type 0 where
  a_refresh : {d s : ℕ} → IsRefresh (refresh d s)

pub data IsTick : Call → Type 0 where
  a_tick : {d s : ℕ} → IsTick (tick d s)

-- a call of crew c's
pub data By (c : ℕ) : Call → Type 0 where
  a_read : {k : ℕ} → By c (read c k)
  a_write : {k : ℕ} {p : Payload} → By c (write c k p)
  a_move : {d : ℕ} → By c (move c d)
  a_list : {ks : List ℕ} → By c (list c ks)

-- the call q is one of the list l
abbrev pub Among : Call → List Call → Type 0
Among q l = Memᴰ q l

-- every call of the list l is of the kind named
abbrev pub Each : (Call → Type 0) → List Call → Type 0
Each kind l = (q : Call) → Among q l → kind q

-- with n depots, the version a is b or a greater one
abbrev pub AtLeast : ℕ → Version → Version → Type 0
AtLeast n a b = (a ≡ b) ⊎ (above n (rank a) (rank b) ≡ true)

-- the answer to the call q tells t of bearing k: a read's does, and so does a list's wherever the bearing stands in it
pub data Tells : Call → Answer → ℕ → Told → Type 0 where
  by_read : {c k : ℕ} {t : Told} → Tells (read c k) (reads t) k t
  by_list : {c k : ℕ} {ks : List ℕ} {t : Told} {ts : List Told} → length ts ≡ length ks → ((i : ℕ) → i < length ks → get_or ks i 0 ≡ k → get_or ts i t ≡ t)
      → Tells (list c ks) (listed ts) k t

-- the version v is unwritten, or its value is a day of the calendar
abbrev pub Dated : Version → Type 0
Dated v = (v ≡ unwritten) ⊎ (v.payload.value ≤ last_day)

-- a payload's card is fit; the version v is unwritten, or its card is
abbrev pub HasCard : Payload → Type 0
HasCard p = card_fit p.diameter p.width ≡ true

abbrev pub Carded : Version → Type 0
Carded v = (v ≡ unwritten) ⊎ HasCard v.payload

-- ---- writes, and the past of a crew

module _ (S : System) where
  -- a call that is done after history h
  abbrev pub Done : List Call → Call → Type 0
  Done h q = S.number (after S h) q ≡ 0

  -- no call of crew c's is done between history g and h; one that is refused and asked again does not count
  pub data Silent (c : ℕ) (g : List Call) : List Call → Type 0 where
    start : Silent c g g
    on : {h : List Call} {q : Call} → Silent c g h → (By c q → Done h q → ⊥) → Silent c g (q ∷ h)

  -- call q, done after history h, is crew c's write w
  pub record Wrote (h : List Call) (q : Call) (c : ℕ) (w : Write) : Type 0 where
    pub passed : Done h q
    pub makes : S.makes (after S h) q c w

  -- call q, done after history h, answers crew c, of bearing k, with the version v
  pub record Got (h : List Call) (q : Call) (c k : ℕ) (v : Version) : Type 0 where
    pub passed : Done h q
    pub gets : S.gets (after S h) q c k v

  -- in history h, crew c made the write w when the history was g
  pub data MadeAt : List Call → List Call → ℕ → Write → Type 0 where
    now : {h : List Call} {q : Call} {c : ℕ} {w : Write} → Wrote h q c w → MadeAt (q ∷ h) h c w
    earlier : {h g : List Call} {q : Call} {c : ℕ} {w : Write} → MadeAt h g c w → MadeAt (q ∷ h) g c w

  -- in history h, somebody made the write w
  pub record Made (h : List Call) (w : Write) : Type 0 where
    pub before : List Call
    pub author : ℕ
    pub at : MadeAt h before author w

module _ (π : Counts) (S : System) where
  -- the causal rule: a write is in a crew's past if that crew wrote it, read it, or it was in the past of a write's author when a write
  -- in this past was made
  pub data Past : List Call → ℕ → Write → Type 0 where
    wrote : {h : List Call} {q : Call} {c : ℕ} {w : Write} → Wrote S h q c w → Past (q ∷ h) c w
    got : {h : List Call} {q : Call} {c : ℕ} {w : Write} → Got S h q c w.bearing w.version → zeros π.depots w.version.vector ≡ false → Past (q ∷ h) c w
    kept : {h : List Call} {q : Call} {c : ℕ} {w : Write} → Past h c w → Past (q ∷ h) c w
    under : {h g : List Call} {c b : ℕ} {v w : Write} → Past h c v → MadeAt S h g b v → Past g b w → Past h c w

  -- ---- demand 2

  -- at depot d after history h, the stable vector of bearing k's shelf covers the version v in all entries but the depot's own
  abbrev pub Covered : List Call → ℕ → ℕ → Version → Type 0
  Covered h d k v = covered π.depots d v.vector (S.stable (after S h) d (shelf_of π k)) ≡ true

  -- the version v of bearing k is unwritten, or one that somebody wrote to that very bearing
  abbrev pub NotInvented : List Call → ℕ → Version → Type 0
  NotInvented h k v = (v ≡ unwritten) ⊎ Made S h (record { bearing = k; version = v })

  -- what the call q, done after history h, answers crew c of bearing k: the version v
  pub record ReadAnswers (h : List Call) (q : Call) (c k : ℕ) (v : Version) : Type 0 where
    pub answer : Tells q (S.answer (after S h) q) k (told π.depots v)
    -- it is what the home shelf then stores
    pub stored : S.store (after S (q ∷ h)) (S.home (after S h) c) k ≡ v
    pub clear : Covered (q ∷ h) (S.home (after S h) c) k v
    pub written : NotInvented h k v
    -- it is no version lower than any write to that bearing in the crew's past: that write's, or a greater one
    pub causal : (w : Write) → w.bearing ≡ k → Past h c w → AtLeast π.depots v w.version

  -- the call q, done after history h, is crew c's write w
  pub record WriteAnswers (h : List Call) (q : Call) (c : ℕ) (w : Write) : Type 0 where
    -- what was asked for is made at the crew's home
    pub asked : q ≡ write c w.bearing w.version.payload
    pub origin : w.version.origin ≡ S.home (after S h) c
    -- the stamp is the clock moved on by one, the other entries are the crew's
    pub stamped : stamp w.version ≡ suc (S.clock (after S h) w.version.origin (shelf_of π w.bearing))
    pub entries : (x : ℕ) → x < π.depots → (x ≡ w.version.origin → ⊥) → w.version.vector x ≡ S.crew (after S h) c x
    -- the answer is the stamp, and "current" where the home shelf then stores it, "superseded" where it stores a greater one
    pub answer : ((S.answer (after S h) q ≡ current (stamp w.version)) × (S.store (after S (q ∷ h)) w.version.origin w.bearing ≡ w.version))
        ⊎ ((S.answer (after S h) q ≡ superseded (stamp w.version))
        × (above π.depots (rank (S.store (after S (q ∷ h)) w.version.origin w.bearing)) (rank w.version) ≡ true))

  pub record Demand2 : Type 0 where
    -- a call's number is that of its answer; each read that is done answers with a version, each write that is done makes one
    pub numbered : (h : List Call) (q : Call) → number_in (S.answer (after S h) q) ≡ S.number (after S h) q
    pub each_read : (h : List Call) (c k : ℕ) → Done S h (read c k) → (v : Version) × Got S h (read c k) c k v
    pub each_write : (h : List Call) (c k : ℕ) (p : Payload) → Done S h (write c k p) → (w : Write) × Wrote S h (write c k p) c w
    -- a crew's vector never goes down, entry by entry
    pub crew_rises : (l h : List Call) (c x : ℕ) → c < π.crews → x < π.depots → S.crew (after S h) c x ≤ S.crew (after S (l ++ h)) c x
    -- a version is stored at a shelf only if the shelf's stable vector covers it in all entries but the depot's own
    pub hidden : (h : List Call) (d k : ℕ) → d < π.depots → k < π.bearings → Covered h d k (S.store (after S h) d k)
    -- and no other entry of a stable vector is above what any shelf of the depot has seen
    pub seen_first : (h : List Call) (d s r x : ℕ) → d < π.depots → s < π.shelves → r < π.shelves → x < π.depots → (x ≡ d → ⊥)
        → S.stable (after S h) d s x ≤ S.seen (after S h) d r x
    -- nor is what a shelf has seen above the clock of the shelf that sent it
    pub sent_first : (h : List Call) (d s x : ℕ) → d < π.depots → s < π.shelves → x < π.depots → (x ≡ d → ⊥)
        → S.seen (after S h) d s x ≤ S.clock (after S h) x s
    -- a shelf stores unwritten, or a version that somebody wrote to that very bearing
    pub not_invented : (h : List Call) (d k : ℕ) → d < π.depots → k < π.bearings → NotInvented h k (S.store (after S h) d k)
    -- and a read answers nothing else, and nothing lower than its crew's past
    pub reads : (h : List Call) (q : Call) (c k : ℕ) (v : Version) → Got S h q c k v → ReadAnswers h q c k v
    pub writes : (h : List Call) (q : Call) (c : ℕ) (w : Write) → Wrote S h q c w → WriteAnswers h q c w
    -- a version resting on another is the greater: what was in its author's past when a write was made is below it
    pub rests_on_lower : (h g : List Call) (b : ℕ) (v w : Write) → MadeAt S h g b v → Past g b w
        → above π.depots (rank v.version) (rank w.version) ≡ true
    -- a shelf's store, stable vector, seen stamps and clock never go down
    pub store_rises : (l h : List Call) (d k : ℕ) → d < π.depots → k < π.bearings
        → above π.depots (rank (S.store (after S h) d k)) (rank (S.store (after S (l ++ h)) d k)) ≡ false
    pub stable_rises : (l h : List Call) (d s x : ℕ) → d < π.depots → s < π.shelves → x < π.depots
        → S.stable (after S h) d s x ≤ S.stable (after S (l ++ h)) d s x
    pub seen_rises : (l h : List Call) (d s x : ℕ) → d < π.depots → s < π.shelves → x < π.depots → (x ≡ d → ⊥)
        → S.seen (after S h) d s x ≤ S.seen (after S (l ++ h)) d s x
    pub clock_rises : (l h : List Call) (d s : ℕ) → d < π.depots → s < π.shelves → S.clock (after S h) d s ≤ S.clock (after S (l ++ h)) d s

  -- ---- demand 3

  -- a round leads from history g to h: takes until every link answers EMPTY LINK, then every shelf refreshed, then every shelf ticked, in any
  -- order within each part, refused ticks counting
  pub record Round (g h : List Call) : Type 0 where
    pub takes : List Call
    pub refreshes : List Call
    pub ticks : List Call
    pub are_takes : Each IsTake takes
    pub are_refreshes : Each IsRefresh refreshes
    pub are_ticks : Each IsTick ticks
    pub emptied : (d s o : ℕ) → d < π.depots → s < π.shelves → o < π.depots → (o ≡ d → ⊥) → S.number (after S (takes ++ g)) (take d s o) ≡ 7
    pub refreshed : (d s : ℕ) → d < π.depots → s < π.shelves → Among (refresh d s) refreshes
    pub ticked : (d s : ℕ) → d < π.depots → s < π.shelves → Among (tick d s) ticks
    pub ends : h ≡ ticks ++ (refreshes ++ (takes ++ g))

  -- n rounds lead from history g to h; between rounds any calls
  pub data Rounds : ℕ → List Call → List Call → Type 0 where
    begin : {h : List Call} → Rounds 0 h h
    between : {n : ℕ} {g h : List Call} {q : Call} → Rounds n g h → Rounds n g (q ∷ h)
    round : {n : ℕ} {g h i : List Call} → Rounds n g h → Round h i → Rounds (suc n) g i

  -- a round with each shelf refreshed once and ticked once: it has as many of each as there are shelves
  pub record RoundOnce (g h : List Call) : Type 0 where
    pub round : Round g h
    pub refreshes : length round.refreshes ≡ π.depots * π.shelves
    pub ticks : length round.ticks ≡ π.depots * π.shelves

  -- the lowest clock of depot d after history h
  unfoldable pub lowest_clock : List Call → ℕ → ℕ
  lowest_clock h d = lowest π.shelves (λ s. S.clock (after S h) d s)

  pub record Demand3 : Type 0 where
    -- for every write made, t its stamp and m the lowest clock of its depot at any later moment g: after max(0, t - m) + 1 rounds every
    -- depot stores that version or a greater one
    pub delivered : (g h : List Call) (w : Write) → Made S g w → Rounds (stamp w.version - lowest_clock g w.version.origin + 1) g h
        → (d : ℕ) → d < π.depots → AtLeast π.depots (S.store (after S h) d w.bearing) w.version
    -- a crew that is silent for max(0, home entry - m) rounds is not told to wait, at any shelf, m the lowest clock of its home
    pub waits : (g h : List Call) (c : ℕ) → Rounds (S.crew (after S g) c (S.home (after S g) c) - lowest_clock g (S.home (after S g) c)) g h → Silent S c g h
        → (k : ℕ) (p : Payload) → S.number (after S h) (write c k p) ≡ 8 → ⊥
    -- after every history a round can be made
    pub possible : (h : List Call) → (i : List Call) × RoundOnce h i

  -- ---- what besides stays within its limits after every history

  pub record Limits : Type 0 where
    -- no link holds more than 16 messages, those taken and not yet shown counted
    pub links : (h : List Call) (d s o : ℕ) → d < π.depots → s < π.shelves → o < π.depots → (o ≡ d → ⊥) → S.held (after S h) d s o ≤ room
    -- a stable vector's own entry stays 0
    pub own : (h : List Call) (d s : ℕ) → d < π.depots → s < π.shelves → S.stable (after S h) d s d ≡ 0
    -- a clock never passes the end
    pub clocks : (h : List Call) (d s : ℕ) → d < π.depots → s < π.shelves → S.clock (after S h) d s ≤ end
    -- no two writes of one depot to one shelf share a stamp
    pub stamps : (h : List Call) (v w : Write) → Made S h v → Made S h w → v.version.origin ≡ w.version.origin
        → shelf_of π v.bearing ≡ shelf_of π w.bearing → stamp v.version ≡ stamp w.version → v ≡ w
    -- nor do a heartbeat, whose stamp is the clock after its tick, and a later write of its shelf: the write's is above it
    pub beats : (l h : List Call) (d s : ℕ) (q : Call) (c : ℕ) (w : Write) → d < π.depots → s < π.shelves → Done S h (tick d s)
        → Wrote S (l ++ (tick d s ∷ h)) q c w → w.version.origin ≡ d → shelf_of π w.bearing ≡ s → S.clock (after S (tick d s ∷ h)) d s < stamp w.version
    -- every value written is a day of the calendar; so a shelf stores unwritten, or a version whose value is one
    pub dated : (h : List Call) (w : Write) → Made S h w → w.version.payload.value ≤ last_day
    pub stores_dated : (h : List Call) (d k : ℕ) → d < π.depots → k < π.bearings → Dated (S.store (after S h) d k)
    -- and every card written is fit; so a shelf stores unwritten, or a version whose card is
    pub carded : (h : List Call) (w : Write) → Made S h w → HasCard w.version.payload
    pub stores_carded : (h : List Call) (d k : ℕ) → d < π.depots → k < π.bearings → Carded (S.store (after S h) d k)

  pub record Demands : Type 0 where
    pub second : Demand2
    pub third : Demand3
    pub besides : Limits
