-- The records of a journal, as docs/JOURNAL.md tells them: the kind in a byte, for a setup a byte that counts its homes, for a list one that counts its bearings, and
-- then the call's numbers, four bytes each, the lowest first.
-- Assumes nothing.
use Rattle.std.specs.Prelude.{ℕ, ◌+◌, ◌*◌, List, [], ◌∷◌, ◌++◌, eqb, ltb, length, get_or, drop}
use Rattle.std.proofs.Math.Option.{Option, none, some}
use Rattle.loops.specs.Loops.{pick}
use Rattle.paper.specs.Calls.{read, write, tick, take, refresh, move, list}
use Rattle.upkeep.specs.Requests.{Request, setup, call}
use Rattle.numbers.specs.Numbers.{bytes_of, words_at}
use Rattle.journal.specs.declared.record.Kind.{Kind}
use Rattle.journal.specs.declared.record.Kind.TheVariants.{Setup, Read, Write, Tick, Take, Refresh, Move, Page}

-- ---- the kinds

-- the byte of a kind
unfoldable pub byte_of : Kind → ℕ
byte_of Setup = 1
byte_of Read = 2
byte_of Write = 3
byte_of Tick = 4
byte_of Take = 5
byte_of Refresh = 6
byte_of Move = 7
byte_of Page = 8

-- the kind that a byte names; every other byte is no kind
unfoldable pub kind_of : ℕ → Option Kind
kind_of b =
    pick (eqb b 1) (some Setup)
    (pick (eqb b 2) (some Read)
    (pick (eqb b 3) (some Write)
    (pick (eqb b 4) (some Tick)
    (pick (eqb b 5) (some Take) (pick (eqb b 6) (some Refresh) (pick (eqb b 7) (some Move) (pick (eqb b 8) (some Page) none)))))))

-- what stands behind the kind's byte: n numbers; or a byte that counts, n numbers, and as many more as it counts
pub data Form : Type 0 where
  plain counted : ℕ → Form

unfoldable pub form_of : Kind → Form
form_of Setup = counted 4
form_of Read = plain 2
form_of Write = plain 5
form_of Tick = plain 2
form_of Take = plain 3
form_of Refresh = plain 2
form_of Move = plain 2
form_of Page = counted 1

-- how many bytes are before the numbers
unfoldable pub head_by : Form → ℕ
head_by (plain n) = 1
head_by (counted n) = 2

unfoldable pub head_size : Kind → ℕ
head_size k = head_by (form_of k)

-- how many numbers there are, as far as the bytes p of the record say
unfoldable pub numbers_by : Form → List ℕ → ℕ
numbers_by (plain n) p = n
numbers_by (counted n) p = n + get_or p 1 0

unfoldable pub numbers_in : Kind → List ℕ → ℕ
numbers_in k p = numbers_by (form_of k) p

-- and how many bytes the record has
unfoldable pub size : Kind → List ℕ → ℕ
size k p = head_size k + 4 * numbers_in k p

-- ---- from a request to its record

-- the kind of a request
unfoldable pub kind_in : Request → Kind
kind_in (setup n homes) = Setup
kind_in (call (read c k)) = Read
kind_in (call (write c k payload)) = Write
kind_in (call (tick d s)) = Tick
kind_in (call (take d s from)) = Take
kind_in (call (refresh d s)) = Refresh
kind_in (call (move c d)) = Move
kind_in (call (list c ks)) = Page

-- its numbers, in the order of the paper
unfoldable pub numbers_of : Request → List ℕ
numbers_of (setup n homes) = n.depots ∷ n.shelves ∷ n.bearings ∷ n.crews ∷ homes
numbers_of (call (read c k)) = c ∷ k ∷ []
numbers_of (call (write c k payload)) = c ∷ k ∷ payload.value ∷ payload.diameter ∷ payload.width ∷ []
numbers_of (call (tick d s)) = d ∷ s ∷ []
numbers_of (call (take d s from)) = d ∷ s ∷ from ∷ []
numbers_of (call (refresh d s)) = d ∷ s ∷ []
numbers_of (call (move c d)) = c ∷ d ∷ []
numbers_of (call (list c ks)) = c ∷ ks

-- the byte that counts, where there is one: how many of the numbers ns come behind the first n
unfoldable pub count_by : Form → List ℕ → List ℕ
count_by (plain n) ns = []
count_by (counted n) ns = length (drop n ns) ∷ []

-- the bytes before the numbers
unfoldable pub head_of : Request → List ℕ
head_of r = byte_of (kind_in r) ∷ count_by (form_of (kind_in r)) (numbers_of r)

-- the record of a request
unfoldable pub record_bytes : Request → List ℕ
record_bytes r = head_of r ++ bytes_of (numbers_of r)

-- ---- and back

-- what a kind with its numbers asks; a number that is not there counts as 0
unfoldable pub request_by : Kind → List ℕ → Request
request_by Setup ns = setup (record { depots = get_or ns 0 0; shelves = get_or ns 1 0; bearings = get_or ns 2 0; crews = get_or ns 3 0 }) (drop 4 ns)
request_by Read ns = call (read (get_or ns 0 0) (get_or ns 1 0))
request_by Write ns = call (write (get_or ns 0 0) (get_or ns 1 0) (record { value = get_or ns 2 0; diameter = get_or ns 3 0; width = get_or ns 4 0 }))
request_by Tick ns = call (tick (get_or ns 0 0) (get_or ns 1 0))
request_by Take ns = call (take (get_or ns 0 0) (get_or ns 1 0) (get_or ns 2 0))
request_by Refresh ns = call (refresh (get_or ns 0 0) (get_or ns 1 0))
request_by Move ns = call (move (get_or ns 0 0) (get_or ns 1 0))
request_by Page ns = call (list (get_or ns 0 0) (drop 1 ns))

-- what bytes that begin with a record of the kind k ask
unfoldable pub request_in : Kind → List ℕ → Request
request_in k p = request_by k (words_at p (head_size k) (numbers_in k p))

-- what the bytes of a record so far are: not all of it, of no kind, or all of it, which asks this
pub data Piece : Type 0 where
  begun strange : Piece
  whole : Request → Piece

unfoldable pub piece_by : Option Kind → List ℕ → Piece
piece_by none p = strange
piece_by (some k) p = pick (ltb (length p) (size k p)) begun (whole (request_in k p))

unfoldable pub piece : List ℕ → Piece
piece p = piece_by (kind_of (get_or p 0 0)) p
