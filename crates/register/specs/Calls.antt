-- What each call does to the words of a book where it is not refused, and what it then answers.
-- Assumes nothing.
use Rattle.std.specs.Prelude.{ℕ, ◌+◌, Bool, List, [], ◌∷◌, map, eqb, length, get_or, set, replicate}
use Rattle.loops.specs.Loops.{times, pick}
use Rattle.order.specs.Vector.{Vec, vector_in, merged_at}
use Rattle.order.specs.Order.{above}
use Rattle.order.specs.Record.{vector_of, rank_of}
use Rattle.card.specs.declared.Card.{Card}
use Rattle.card.specs.Card.{word_of}
use Rattle.paper.specs.declared.answer.Payload.{Payload}
use Rattle.paper.specs.Calls.{Told}
use Rattle.book.specs.declared.parts.Counts.{Counts}
use Rattle.book.specs.Words.{put}
use Rattle.book.specs.Layout.{book_words, home_at, crew_at, copy_kind, counts_of, home, crew_vector, clock, stable, stored}
use Rattle.shelf.specs.Show.{kept_in, settled}
use Rattle.links.specs.Send.{sent, beat, took, lowest_seen, four_of}
use Rattle.register.specs.declared.version.Version.{Version}
use Rattle.register.specs.Answers.{cut, told}
use Rattle.register.specs.Table.{shelf_of}

-- setup: the four counts, the homes, and 0 everywhere else
unfoldable pub set_up : Counts → List ℕ → List ℕ
set_up n homes = put (put (replicate book_words 0) 0 (n.depots ∷ n.shelves ∷ n.bearings ∷ n.crews ∷ [])) (home_at 0) homes

-- crew c's home shelf for bearing k, raised with the crew's vector and shown
unfoldable pub settled_home : List ℕ → ℕ → ℕ → List ℕ
settled_home l c k = settled (counts_of l).depots (home l c) (shelf_of l k) (crew_vector l c) l

-- the record that a read answers with
unfoldable pub read_record : List ℕ → ℕ → ℕ → List ℕ
read_record l c k = stored (settled_home l c k) (home l c) k

-- read: raise and show; the crew's vector becomes the entrywise maximum with the answer's
unfoldable pub read_book : List ℕ → ℕ → ℕ → List ℕ
read_book l c k = merged_at (counts_of l).depots (counts_of l).depots (vector_of (read_record l c k)) (crew_at c) (settled_home l c k)

-- a write's stamp: the clock moves on by one
abbrev pub new_stamp : List ℕ → ℕ → ℕ → ℕ
new_stamp l c k = clock l (home l c) (shelf_of l k) + 1

-- the version that a write makes: its vector is the crew's, with the home entry set to the new clock
unfoldable pub made_vector : List ℕ → ℕ → ℕ → Vec
made_vector l c k x = pick (eqb x (home l c)) (new_stamp l c k) (crew_vector l c x)

unfoldable pub made_record : List ℕ → ℕ → ℕ → Payload → List ℕ
made_record l c k payload = k ∷ payload.value ∷ payload.diameter ∷ payload.width ∷ home l c ∷ cut (counts_of l).depots (made_vector l c k)

-- raise and show, and the version's vector becomes the crew's
unfoldable pub written_crew : List ℕ → ℕ → ℕ → List ℕ
written_crew l c k = set (settled_home l c k) (crew_at c + home l c) (new_stamp l c k)

-- the version is greater than what is stored
unfoldable pub is_current : List ℕ → ℕ → ℕ → Payload → Bool
is_current l c k payload = above (counts_of l).depots (rank_of (made_record l c k payload)) (rank_of (stored (written_crew l c k) (home l c) k))

-- write: it is stored if greater, and either way a copy goes on every link out of that shelf
unfoldable pub write_book : List ℕ → ℕ → ℕ → Payload → List ℕ
write_book l c k payload =
    sent (counts_of l).depots (home l c) (shelf_of l k) (new_stamp l c k) (copy_kind ∷ made_record l c k payload)
    (kept_in (counts_of l).depots (home l c) (made_record l c k payload) (written_crew l c k))

-- tick: the clock moves on by one; a heartbeat with it goes on every link out
unfoldable pub tick_book : List ℕ → ℕ → ℕ → List ℕ
tick_book l d s = sent (counts_of l).depots d s (clock l d s + 1) (beat (clock l d s + 1)) l

-- take: the first untaken message is taken
unfoldable pub take_book : List ℕ → ℕ → ℕ → ℕ → List ℕ
take_book l d s from = took d s from l

-- refresh: raise and show with, for each other depot, the lowest stamp seen over all shelves here
unfoldable pub refresh_book : List ℕ → ℕ → ℕ → List ℕ
refresh_book l d s = settled (counts_of l).depots d s (lowest_seen (counts_of l).depots (counts_of l).shelves d l) l

-- move: the crew's home is the new one, and no other word changes
unfoldable pub move_book : List ℕ → ℕ → ℕ → List ℕ
move_book l c d = set l (home_at c) d

-- ---- list

-- the vector w, each entry but depot d's become the largest of itself and the stable entries of the first p shelves of depot d
unfoldable pub gathered_from : ℕ → ℕ → ℕ → List ℕ → List ℕ → List ℕ
gathered_from n p d l w = times p (λ s u. merged_at n d (stable l d s) 0 u) w

-- the first p shelves of depot d raised with what is offered and shown
unfoldable pub settled_all : ℕ → ℕ → ℕ → Vec → List ℕ → List ℕ
settled_all n p d offered l = times p (λ s m. settled n d s offered m) l

-- crew c's vector become the entrywise maximum with that of the stored version of each bearing at depot d
unfoldable pub merged_all : ℕ → ℕ → ℕ → List ℕ → List ℕ → List ℕ
merged_all n c d ks l = times (length ks) (λ i m. merged_at n n (vector_of (stored m d (get_or ks i 0))) (crew_at c) m) l

-- what crew c's list offers every home shelf: the crew's vector and the stable vectors of all of them, other depots' entries only
unfoldable pub page_vector : List ℕ → ℕ → Vec
page_vector l c = vector_in (gathered_from (counts_of l).depots (counts_of l).shelves (home l c) l (four_of (crew_vector l c)))

-- every home shelf raised with it and shown
unfoldable pub page_book : List ℕ → ℕ → List ℕ
page_book l c = settled_all (counts_of l).depots (counts_of l).shelves (home l c) (page_vector l c) l

-- what is then told of each bearing
unfoldable pub page_told : List ℕ → ℕ → List ℕ → List Told
page_told l c ks = map (λ k. told (counts_of l).depots (stored (page_book l c) (home l c) k)) ks

-- list: all are read, then merged into the crew's vector
unfoldable pub list_book : List ℕ → ℕ → List ℕ → List ℕ
list_book l c ks = merged_all (counts_of l).depots c (home l c) ks (page_book l c)

-- ---- the version that a write makes, as its words

-- a vector with one entry set
unfoldable pub with_entry : ℕ → ℕ → Vec → Vec
with_entry d stamp v x = pick (eqb x d) stamp (v x)

-- a value and a card, as they were written
abbrev pub payload_from : ℕ → Card → Payload
payload_from value card = record { value = value; diameter = word_of card.diameter; width = word_of card.width }

abbrev pub version_words : Version → List ℕ
version_words v =
    v.bearing ∷ v.value ∷ word_of v.card.diameter ∷ word_of v.card.width ∷ v.origin ∷ get_or v.vector 0 0 ∷ get_or v.vector 1 0 ∷ get_or v.vector 2 0 ∷ get_or v.vector 3 0 ∷ []
