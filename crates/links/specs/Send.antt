-- Sending, taking, and the lowest stamp seen, as changes of the book's words.
-- Assumes nothing.
use Rattle.std.specs.Prelude.{ℕ, ◌+◌, ◌-◌, min, Bool, ◌&&◌, ◌||◌, not, List, [], ◌∷◌, eqb, ltb, set}
use Rattle.loops.specs.Loops.{times, every, pick}
use Rattle.order.specs.Vector.{Vec}
use Rattle.order.specs.Record.{vector_of}
use Rattle.book.specs.Words.{put}
use Rattle.book.specs.Layout.{end, link_room, beat_kind, clock_at, seen_at, slot_at, held_at, taken_at, link_of, seen, held, taken, slot, kind_of, beat_of, record_of}
use Rattle.shelf.specs.Show.{closed_up}

-- every link out of shelf s of depot d has room for one more message
unfoldable pub roomy : ℕ → ℕ → ℕ → List ℕ → Bool
roomy n d s l = every n (λ to. eqb to d || ltb (held l (link_of s d to)) link_room)

-- the ten words m stand last on the link to a depot; a depot has no link to itself
unfoldable pub sent_to : ℕ → ℕ → List ℕ → ℕ → List ℕ → List ℕ
sent_to d s m to l =
    pick (eqb to d) l
    (set (put l (slot_at (link_of s d to) (held l (link_of s d to))) m) (held_at (link_of s d to)) (held l (link_of s d to) + 1))

-- the clock of shelf s of depot d stands at the stamp, and the message m goes on every link out
unfoldable pub sent : ℕ → ℕ → ℕ → ℕ → List ℕ → List ℕ → List ℕ
sent n d s stamp m l = times n (sent_to d s m) (set l (clock_at d s) stamp)

-- a heartbeat holding a stamp, ten words
abbrev pub beat : ℕ → List ℕ
beat stamp = beat_kind ∷ stamp ∷ 0 ∷ 0 ∷ 0 ∷ 0 ∷ 0 ∷ 0 ∷ 0 ∷ 0 ∷ []

-- the stamp of a message from a depot: a heartbeat's own, a copy's entry of that depot
unfoldable pub stamp_from : ℕ → List ℕ → ℕ
stamp_from from m = pick (eqb (kind_of m) beat_kind) (beat_of m) (vector_of (record_of m) from)

-- the first untaken message of link q is gone, where it is a heartbeat; else it is one of the taken
unfoldable pub moved_on : ℕ → ℕ → ℕ → List ℕ → List ℕ → List ℕ
moved_on q h t m l = pick (eqb (kind_of m) beat_kind) (set (closed_up q t 1 h l) (held_at q) (h - 1)) (set l (taken_at q) (t + 1))

-- the first untaken message from a depot is taken at shelf s of depot d: the stamp seen becomes its stamp
unfoldable pub took : ℕ → ℕ → ℕ → List ℕ → List ℕ
took d s from l =
    moved_on (link_of s from d) (held l (link_of s from d)) (taken l (link_of s from d)) (slot l (link_of s from d) (taken l (link_of s from d)))
    (set l (seen_at d s + from) (stamp_from from (slot l (link_of s from d) (taken l (link_of s from d)))))

-- the lowest stamp seen from depot x over the p shelves of depot d
unfoldable pub lowest : ℕ → ℕ → ℕ → List ℕ → ℕ
lowest p d x l = times p (λ s m. min m (seen l d s x)) end

-- the same for each other depot, of n; 0 elsewhere
unfoldable pub lowest_seen : ℕ → ℕ → ℕ → List ℕ → Vec
lowest_seen n p d l x = pick (ltb x n && not (eqb x d)) (lowest p d x l) 0

-- a vector's first four entries, the most there can be
abbrev pub four_of : Vec → List ℕ
four_of v = v 0 ∷ v 1 ∷ v 2 ∷ v 3 ∷ []
