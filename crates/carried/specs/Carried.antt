-- Nothing lost on a link, at work: what the links carry in the listing with (a) and (b), in (f), and where a crew moves. Histories have their newest call first.
-- Assumes nothing.
use Rattle.std.specs.Prelude.{ℕ, ◌≡◌, true, false, List, [], ◌∷◌, reverse}
use Rattle.std.proofs.Math.ListN as lists
use Rattle.paper.specs.declared.answer.Payload.{Payload}
use Rattle.paper.specs.Calls.{Call, write, tick, take, move}
use Rattle.model.specs.Parts.{Version, Write, unwritten}
use Rattle.model.specs.Calls.{made, entries}
use Rattle.model.specs.System.{after, run}
use Rattle.model.specs.Cases.{counts, homes, day, pair, listing_to_b}
use Rattle.model.specs.Words.{duo, one_round, two_rounds}
use Rattle.model.specs.Links.{Sent, covered_at, Bare}

-- ---- the listing: what it puts on the links, and how far that is

-- its calls up to its eighth answer, where depot 1 is shown nothing; up to its end; up to the end of (a); up to that of (b)
unfoldable pub hidden_yet : List Call
hidden_yet = reverse (lists.take 8 listing_to_b)

unfoldable pub listing_end : List Call
listing_end = reverse (lists.take 11 listing_to_b)

unfoldable pub end_of_a : List Call
end_of_a = reverse (lists.take 14 listing_to_b)

unfoldable pub end_of_b : List Call
end_of_b = reverse listing_to_b

-- what crew c's write to bearing k makes after history h
unfoldable pub written : List Call → ℕ → ℕ → Payload → Write
written h c k p = record { bearing = k; version = made counts c k p (run counts homes h) }

-- the 20 of bearing 0 and the 30 of bearing 1
unfoldable pub twenty : Write
twenty = written (reverse (lists.take 1 listing_to_b)) 0 0 (day 20)

unfoldable pub thirty : Write
thirty = written (reverse (lists.take 4 listing_to_b)) 0 1 (day 30)

-- of the link from depot o of shelf s of depot d after history h: the copies taken and not yet shown, and those to come
abbrev pub taken_on : List Call → ℕ → ℕ → ℕ → List Write
taken_on h d s o = duo.taken (after duo h) d s o

abbrev pub coming_on : List Call → ℕ → ℕ → ℕ → List Write
coming_on h d s o = duo.coming (after duo h) d s o

-- what depot d stores of bearing k after history h
abbrev pub stored_at : List Call → ℕ → ℕ → Version
stored_at h d k = duo.store (after duo h) d k

pub record ListingLinks : Type 0 where
  -- the 20 is put on the links out of depot 0's shelf 0, the 30 on those out of its shelf 1, once: the write that is told to WAIT puts nothing there. Nobody writes at depot 1
  pub sent_twenty : Sent counts duo 0 0 end_of_b (twenty ∷ [])
  pub sent_thirty : Sent counts duo 0 1 end_of_b (thirty ∷ [])
  pub sent_nothing : Sent counts duo 1 0 end_of_b []
  pub twenty_vector : entries 2 twenty.version.vector ≡ pair 1 0
  pub thirty_vector : entries 2 thirty.version.vector ≡ pair 2 0
  -- the 20, at the listing's eighth answer: taken at depot 1, not covered there, and held
  pub twenty_hidden : covered_at counts duo hidden_yet 1 0 twenty ≡ false
  pub twenty_held : taken_on hidden_yet 1 0 0 ≡ twenty ∷ []
  -- at its end: covered, gone from the link, and stored
  pub twenty_covered : covered_at counts duo listing_end 1 0 twenty ≡ true
  pub twenty_gone : taken_on listing_end 1 0 0 ≡ []
  pub twenty_stored : stored_at listing_end 1 0 ≡ twenty.version
  -- the 30 is then still to come, behind a heartbeat that was taken; after (a) it is taken and held; after (b) no link holds any copy
  pub thirty_coming : coming_on listing_end 1 1 0 ≡ thirty ∷ []
  pub thirty_taken : coming_on end_of_a 1 1 0 ≡ []
  pub thirty_held : taken_on end_of_a 1 1 0 ≡ thirty ∷ []
  pub bare : Bare counts duo end_of_b
  -- so both depots store the 30 of bearing 1, and bearing 2 is unwritten at both
  pub thirty_alike : stored_at end_of_b 0 1 ≡ stored_at end_of_b 1 1
  pub thirty_stored : stored_at end_of_b 1 1 ≡ thirty.version
  pub two_alike : stored_at end_of_b 0 2 ≡ stored_at end_of_b 1 2
  pub two_unwritten : stored_at end_of_b 1 2 ≡ unwritten

-- ---- (f): two writes of one bearing, at two depots

unfoldable pub seven : Write
seven = written [] 0 0 (day 7)

unfoldable pub nine : Write
nine = written (write 0 0 (day 7) ∷ []) 1 0 (day 9)

pub record ClashLinks : Type 0 where
  -- each is put on the link to the other depot
  pub sent_seven : Sent counts duo 0 0 two_rounds (seven ∷ [])
  pub sent_nine : Sent counts duo 1 0 two_rounds (nine ∷ [])
  -- after one round both are taken and held, and the depots differ
  pub seven_held : taken_on one_round 1 0 0 ≡ seven ∷ []
  pub nine_held : taken_on one_round 0 0 1 ≡ nine ∷ []
  pub not_yet : stored_at one_round 0 0 ≡ stored_at one_round 1 0 → ⊥
  -- after two no link holds any copy, and both store the 7
  pub bare : Bare counts duo two_rounds
  pub alike : stored_at two_rounds 0 0 ≡ stored_at two_rounds 1 0
  pub seven_stored : stored_at two_rounds 1 0 ≡ seven.version

-- ---- a crew that moves: its write counts where its home then is

-- crew 0 writes 20 at depot 0, which depot 1 sees on both shelves; it moves there, and writes 30
unfoldable pub moved_there : List Call
moved_there = move 0 1 ∷ (take 1 1 0 ∷ (tick 0 1 ∷ (take 1 0 0 ∷ (write 0 0 (day 20) ∷ []))))

unfoldable pub written_there : List Call
written_there = write 0 0 (day 30) ∷ moved_there

unfoldable pub here : Write
here = written [] 0 0 (day 20)

unfoldable pub there : Write
there = written moved_there 0 0 (day 30)

pub record MovedLinks : Type 0 where
  pub sent_here : Sent counts duo 0 0 written_there (here ∷ [])
  pub sent_there : Sent counts duo 1 0 written_there (there ∷ [])
  -- it comes to the depot that the crew left
  pub comes_back : coming_on written_there 0 0 1 ≡ there ∷ []

pub record Carried : Type 0 where
  pub listed : ListingLinks
  pub clash : ClashLinks
  pub moved : MovedLinks
