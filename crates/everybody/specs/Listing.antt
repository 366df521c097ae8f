-- Who has it, asked of the listing's book.
-- Assumes nothing.
use Rattle.std.specs.Prelude.{ℕ, ◌≡◌, List, ◌∷◌, map, take}
use Rattle.paper.specs.Calls.{Call}
use Rattle.model.specs.Cases.{listing_to_b}
use Rattle.upkeep.specs.Requests.{setup, call, last}
use Rattle.bridge.specs.Listing.{counts, homes}
use Rattle.who.specs.Who.{has, refused, who_told}

-- the listing's eleven calls after its setup line
unfoldable pub listing_end : List Call
listing_end = take 11 listing_to_b

-- the book l after the listing's setup line and these calls, oldest first
unfoldable pub book_at : List ℕ → List Call → List ℕ
book_at l calls = last l (setup counts homes ∷ map call calls)

-- what is told of any book l of the right length, asked these lines
pub record WhoListed (l : List ℕ) : Type 0 where
  -- at the listing's end both depots have depot 0's 20 of bearing 0
  pub twenty : who_told (book_at l listing_end) 0 0 ≡ has 3 2
  -- its 30 of bearing 1 is hidden at depot 1: bit 0 alone
  pub thirty : who_told (book_at l listing_end) 0 1 ≡ has 1 1
  -- there bearing 1 is unwritten, and that gives all bits
  pub unwritten : who_told (book_at l listing_end) 1 1 ≡ has 3 2
  -- after (a) and (b) the 30 is shown
  pub shown : who_told (book_at l listing_to_b) 0 1 ≡ has 3 2
  -- there are depots 0 and 1 and bearings 0 to 3; the depot is judged first
  pub no_depot : who_told (book_at l listing_end) 2 4 ≡ refused 2
  pub no_bearing : who_told (book_at l listing_end) 1 4 ≡ refused 4
