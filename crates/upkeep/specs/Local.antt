-- Locality. What a request is answered, and every word that it writes, is settled by the words that it names; and a word that it does not write
-- stays, whatever stands there. The words named are those of the parts in named/specs/Named.antt: lay `TickWord` beside `tick_parts`, `LinkWord`
-- beside `link_fit`, `WaitingWord` beside `waiting_fit`, and so on.
-- Assumes nothing.
use Rattle.std.specs.Prelude.{ℕ, ◌+◌, ◌*◌, ◌-◌, ◌%◌, ◌≤◌, ◌<◌, ◌≡◌, true, List, length, get_or}
use Rattle.order.specs.Record.{record_words, bearing_of}
use Rattle.paper.specs.declared.answer.Payload.{Payload}
use Rattle.paper.specs.Calls.{Call, read, write, tick, take, refresh, move, list}
use Rattle.book.specs.declared.parts.Counts.{Counts}
use Rattle.book.specs.Layout.{slot_words, home_at, crew_at, clock_at, stable_at, seen_at, link_of, held_at, slot_at, stored_at}
use Rattle.book.specs.Layout.{counts_of, home, held, taken, slot, record_of}
use Rattle.fit.specs.Fit.{counts_fit, head_fit, link_fit}
use Rattle.named.specs.Named.{is_list, all_below, base_fit}
use Rattle.upkeep.specs.Requests.{Request, setup, call, number_at, reply_to, book_after}

-- two books of the same length that agree on every word of a set of places
pub record Agree (S : ℕ → Type 0) (l m : List ℕ) : Type 0 where
  pub size : length l ≡ length m
  pub words : (j : ℕ) → S j → get_or l j 0 ≡ get_or m j 0

-- word j is one of the n words from the place a on
abbrev pub In : ℕ → ℕ → ℕ → Type 0
In a n j = (a ≤ j) × (j < a + n)

-- ---- the words of each part: word j of the book l is one of them

-- the four counts and, where these are in range, the homes of all crews
pub data BaseWord (l : List ℕ) (j : ℕ) : Type 0 where
  a_count : j < 4 → BaseWord l j
  a_home : counts_fit (counts_of l) ≡ true → (c : ℕ) → c < (counts_of l).crews → j ≡ home_at c → BaseWord l j

-- link q: the two words of its head and, where the head is fit, the ten words of each message that it holds
pub data LinkWord (l : List ℕ) (q j : ℕ) : Type 0 where
  of_head : In (held_at q) 2 j → LinkWord l q j
  of_messages : head_fit l q ≡ true → In (slot_at q 0) (slot_words * held l q) j → LinkWord l q j

-- the same of its untaken messages alone
pub data WaitingWord (l : List ℕ) (q j : ℕ) : Type 0 where
  of_its_head : In (held_at q) 2 j → WaitingWord l q j
  of_untaken : head_fit l q ≡ true → In (slot_at q (taken l q)) (slot_words * (held l q - taken l q)) j → WaitingWord l q j

-- the link into shelf s of depot d from a depot and, where it is fit, the stored versions at depot d of the bearings of its taken copies
pub data ArrivalWord (n : Counts) (l : List ℕ) (d s from j : ℕ) : Type 0 where
  of_link : LinkWord l (link_of s from d) j → ArrivalWord n l d s from j
  of_place : link_fit n l s from (link_of s from d) ≡ true → (i : ℕ) → i < taken l (link_of s from d) →
      In (stored_at d (bearing_of (record_of (slot l (link_of s from d) i)))) record_words j → ArrivalWord n l d s from j

-- what raise and show touches at shelf s of depot d: the stable vector, and all that arrives
pub data ShowWord (n : Counts) (l : List ℕ) (d s j : ℕ) : Type 0 where
  of_stable : In (stable_at d s) n.depots j → ShowWord n l d s j
  of_arrival : (from : ℕ) → from < n.depots → (from ≡ d → ⊥) → ArrivalWord n l d s from j → ShowWord n l d s j

-- ---- the words of the parts that each call names, where its numbers are in range

-- the clock, and the heads of the links out
pub data TickWord (n : Counts) (d s j : ℕ) : Type 0 where
  of_clock : j ≡ clock_at d s → TickWord n d s j
  of_head_out : (to : ℕ) → to < n.depots → (to ≡ d → ⊥) → In (held_at (link_of s d to)) 2 j → TickWord n d s j

-- the stamp seen from that depot, and of the link from there the head and the untaken messages
pub data TakeWord (l : List ℕ) (d s from j : ℕ) : Type 0 where
  of_seen : j ≡ seen_at d s + from → TakeWord l d s from j
  of_sender : WaitingWord l (link_of s from d) j → TakeWord l d s from j

-- the stamps seen of the other depots on all shelves of the depot, and what raise and show touches
pub data RefreshWord (n : Counts) (l : List ℕ) (d s j : ℕ) : Type 0 where
  of_seens : (r x : ℕ) → r < n.shelves → x < n.depots → (x ≡ d → ⊥) → j ≡ seen_at d r + x → RefreshWord n l d s j
  of_shelf : ShowWord n l d s j → RefreshWord n l d s j

-- crew c's vector, the stored version of bearing k at depot d, and what raise and show touches at shelf s of it
pub data HomeWord (n : Counts) (l : List ℕ) (c k d s j : ℕ) : Type 0 where
  of_crew : In (crew_at c) n.depots j → HomeWord n l c k d s j
  of_stored : In (stored_at d k) record_words j → HomeWord n l c k d s j
  of_home : ShowWord n l d s j → HomeWord n l c k d s j

-- at the crew's home and the bearing's shelf
abbrev pub ReadWord : Counts → List ℕ → ℕ → ℕ → ℕ → Type 0
ReadWord n l c k j = HomeWord n l c k (home l c) (k % n.shelves) j

-- as a read, and as a tick of the home shelf
pub data WriteWord (n : Counts) (l : List ℕ) (c k j : ℕ) : Type 0 where
  as_read : ReadWord n l c k j → WriteWord n l c k j
  as_tick : TickWord n (home l c) (k % n.shelves) j → WriteWord n l c k j

-- crew c's vector, and the stamps seen of the other depots on all shelves of depot d
pub data MoveWord (n : Counts) (c d j : ℕ) : Type 0 where
  of_mover : In (crew_at c) n.depots j → MoveWord n c d j
  of_stamps : (r x : ℕ) → r < n.shelves → x < n.depots → (x ≡ d → ⊥) → j ≡ seen_at d r + x → MoveWord n c d j

-- crew c's vector, the stored versions of the bearings ks at depot d, and what raise and show touches at every shelf of it
pub data ListWord (n : Counts) (l : List ℕ) (c : ℕ) (ks : List ℕ) (d j : ℕ) : Type 0 where
  of_reader : In (crew_at c) n.depots j → ListWord n l c ks d j
  of_listed : (i : ℕ) → i < length ks → In (stored_at d (get_or ks i 0)) record_words j → ListWord n l c ks d j
  of_shelves : (s : ℕ) → s < n.shelves → ShowWord n l d s j → ListWord n l c ks d j

-- word j is one that a request names in the book l. A setup names none: it asks for the length only. Every call names the counts and the homes; where
-- these are fit and its numbers are in range, its parts too
pub data Named (l : List ℕ) : Request → ℕ → Type 0 where
  based : {c : Call} {j : ℕ} → BaseWord l j → Named l (call c) j
  by_read : {c k j : ℕ} → base_fit l ≡ true → c < (counts_of l).crews → k < (counts_of l).bearings → ReadWord (counts_of l) l c k j → Named l (call (read c k)) j
  by_write : {c k j : ℕ} {payload : Payload} → base_fit l ≡ true → c < (counts_of l).crews → k < (counts_of l).bearings → WriteWord (counts_of l) l c k j →
      Named l (call (write c k payload)) j
  by_tick : {d s j : ℕ} → base_fit l ≡ true → d < (counts_of l).depots → s < (counts_of l).shelves → TickWord (counts_of l) d s j → Named l (call (tick d s)) j
  by_take : {d s from j : ℕ} → base_fit l ≡ true → d < (counts_of l).depots → from < (counts_of l).depots → s < (counts_of l).shelves → (d ≡ from → ⊥) →
      TakeWord l d s from j → Named l (call (take d s from)) j
  by_refresh : {d s j : ℕ} → base_fit l ≡ true → d < (counts_of l).depots → s < (counts_of l).shelves → RefreshWord (counts_of l) l d s j →
      Named l (call (refresh d s)) j
  by_move : {c d j : ℕ} → base_fit l ≡ true → c < (counts_of l).crews → d < (counts_of l).depots → MoveWord (counts_of l) c d j → Named l (call (move c d)) j
  by_list : {c j : ℕ} {ks : List ℕ} → base_fit l ≡ true → c < (counts_of l).crews → is_list ks ≡ true → all_below (counts_of l).bearings ks ≡ true →
      ListWord (counts_of l) l c ks (home l c) j → Named l (call (list c ks)) j

-- ---- the words that each request writes

-- sending: the clock and, of each link out, the count of messages and the next free slot
pub data SentWord (n : Counts) (l : List ℕ) (d s j : ℕ) : Type 0 where
  the_clock : j ≡ clock_at d s → SentWord n l d s j
  the_count : (to : ℕ) → to < n.depots → (to ≡ d → ⊥) → j ≡ held_at (link_of s d to) → SentWord n l d s j
  the_slot : (to : ℕ) → to < n.depots → (to ≡ d → ⊥) → In (slot_at (link_of s d to) (held l (link_of s d to))) slot_words j → SentWord n l d s j

-- taking: the stamp seen, the link's head, and the slots of its untaken messages
pub data TookWord (l : List ℕ) (d s from j : ℕ) : Type 0 where
  the_seen : j ≡ seen_at d s + from → TookWord l d s from j
  the_head : In (held_at (link_of s from d)) 2 j → TookWord l d s from j
  the_slots : In (slot_at (link_of s from d) (taken l (link_of s from d))) (slot_words * (held l (link_of s from d) - taken l (link_of s from d))) j →
      TookWord l d s from j

-- raise and show: the stable entries of the other depots, and all that arrives
pub data SettledWord (n : Counts) (l : List ℕ) (d s j : ℕ) : Type 0 where
  the_entry : (x : ℕ) → x < n.depots → (x ≡ d → ⊥) → j ≡ stable_at d s + x → SettledWord n l d s j
  the_arrival : (from : ℕ) → from < n.depots → (from ≡ d → ⊥) → ArrivalWord n l d s from j → SettledWord n l d s j

-- a read: raise and show, and the crew's entries
pub data FoundWord (n : Counts) (l : List ℕ) (c d s j : ℕ) : Type 0 where
  the_crew : In (crew_at c) n.depots j → FoundWord n l c d s j
  the_home : SettledWord n l d s j → FoundWord n l c d s j

-- a list: raise and show at every shelf, and the crew's entries
pub data ListedWord (n : Counts) (l : List ℕ) (c d j : ℕ) : Type 0 where
  the_reader : In (crew_at c) n.depots j → ListedWord n l c d j
  the_shelves : (s : ℕ) → s < n.shelves → SettledWord n l d s j → ListedWord n l c d j

-- a write: raise and show, the crew's entry of its home, the stored version of the bearing, and sending
pub data WroteWord (n : Counts) (l : List ℕ) (c k d s j : ℕ) : Type 0 where
  the_own : j ≡ crew_at c + d → WroteWord n l c k d s j
  the_stored : In (stored_at d k) record_words j → WroteWord n l c k d s j
  the_shelf : SettledWord n l d s j → WroteWord n l c k d s j
  the_copy : SentWord n l d s j → WroteWord n l c k d s j

-- word j is one that a request to the book l writes where it is done; a setup writes them all, a move the crew's home
pub data Changed (l : List ℕ) : Request → ℕ → Type 0 where
  all_of_it : {n : Counts} {homes : List ℕ} {j : ℕ} → Changed l (setup n homes) j
  reading : {c k j : ℕ} → FoundWord (counts_of l) l c (home l c) (k % (counts_of l).shelves) j → Changed l (call (read c k)) j
  writing : {c k j : ℕ} {payload : Payload} → WroteWord (counts_of l) l c k (home l c) (k % (counts_of l).shelves) j → Changed l (call (write c k payload)) j
  ticking : {d s j : ℕ} → SentWord (counts_of l) l d s j → Changed l (call (tick d s)) j
  taking : {d s from j : ℕ} → TookWord l d s from j → Changed l (call (take d s from)) j
  refreshing : {d s j : ℕ} → SettledWord (counts_of l) l d s j → Changed l (call (refresh d s)) j
  moving : {c d j : ℕ} → j ≡ home_at c → Changed l (call (move c d)) j
  listing : {c j : ℕ} {ks : List ℕ} → ListedWord (counts_of l) l c (home l c) j → Changed l (call (list c ks)) j

-- word j is one that the request writes: a refused one writes none
pub record Written (l : List ℕ) (r : Request) (j : ℕ) : Type 0 where
  pub done : number_at l r ≡ 0
  pub word : Changed l r j

-- ---- locality

-- the same request to the books l and m, which agree on the words of S: the same number, the same reply, and books that agree on those words, and
-- on every word that was written
pub record Alike (S : ℕ → Type 0) (l m : List ℕ) (r : Request) : Type 0 where
  pub number : number_at l r ≡ number_at m r
  pub reply : reply_to l r ≡ reply_to m r
  pub book : Agree S (book_after l r) (book_after m r)
  pub written : (j : ℕ) → Written l r j → get_or (book_after l r) j 0 ≡ get_or (book_after m r) j 0

pub record Local : Type 1 where
  -- S is any set that holds the words named: these alone, or more
  pub local : (S : ℕ → Type 0) (l m : List ℕ) (r : Request) → ((j : ℕ) → Named l r j → S j) → Agree S l m → Alike S l m r
  -- every other word stays, and so does the length
  pub stays : (l : List ℕ) (r : Request) (j : ℕ) → (Written l r j → ⊥) → get_or (book_after l r) j 0 ≡ get_or l j 0
  pub size : (l : List ℕ) (r : Request) → length (book_after l r) ≡ length l
