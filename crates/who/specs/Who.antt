-- Who has it: for a bearing and a depot's present version of it, which depots now store it or a greater one.
-- Assumes nothing.
use Rattle.std.specs.Prelude.{ℕ, ◌-◌, ◌^◌, ◌≤◌, ◌<◌, ◌≡◌, Bool, true, false, not, ◌&&◌, ◌||◌, List, [], ◌∷◌, eqb, leb, Result, Ok, Err}
use Rattle.std.specs.Int.Count.{ones}
use Rattle.loops.specs.Loops.{every, pick}
use Rattle.order.specs.Vector.{zeros}
use Rattle.order.specs.Order.{above}
use Rattle.order.specs.Record.{vector_of, rank_of}
use Rattle.book.specs.declared.parts.Counts.{Counts}
use Rattle.book.specs.Layout.{counts_of, stored}
use Rattle.fit.specs.Fit.{stored_fit}
use Rattle.named.specs.Named.{base_fit}
use Rattle.paper.specs.Calls.{first}
use Rattle.paper.specs.declared.answer.Refusal.{Refusal}
use Rattle.paper.specs.Answers.{number_of}
use Rattle.who.specs.declared.Holders.{Holders}
use Rattle.who.specs.Bits.{bit_of, mask_of, count_of}

-- depot x stores depot d's version of bearing k or a greater one: with n depots, depot d's is not above it
unfoldable pub has_it : ℕ → List ℕ → ℕ → ℕ → ℕ → Bool
has_it n l d k x = not (above n (rank_of (stored l d k)) (rank_of (stored l x k)))

-- ---- when it is refused

-- the stored version of bearing k, at every depot
unfoldable pub who_parts : Counts → List ℕ → ℕ → Bool
who_parts n l k = every n.depots (λ x. stored_fit n l x k)

-- BAD BOOK is the want of the length, the counts, the homes and, where depot and bearing are in range, of these
unfoldable pub who_fit : List ℕ → ℕ → ℕ → Bool
who_fit l d k = base_fit l && (leb (counts_of l).depots d || (leb (counts_of l).bearings k || who_parts (counts_of l) l k))

unfoldable pub who_number : List ℕ → ℕ → ℕ → ℕ
who_number l d k = first
    ((not (who_fit l d k), 1)
    ∷ (leb (counts_of l).depots d, 2)
    ∷ (leb (counts_of l).bearings k, 4)
    ∷ [])

-- ---- what it answers

-- on paper: the number of a refusal and nothing else, or the mask and how many of its bits are set
pub data Told : Type 0 where
  refused : ℕ → Told
  has : ℕ → ℕ → Told

unfoldable pub paper_who : Result Holders Refusal → Told
paper_who (Ok h) = has h.mask h.count
paper_who (Err r) = refused (number_of r)

-- bit x for each depot x that has it, and how many depots these are
unfoldable pub holders : List ℕ → ℕ → ℕ → Told
holders l d k = has (mask_of (counts_of l).depots (has_it (counts_of l).depots l d k)) (count_of (counts_of l).depots (has_it (counts_of l).depots l d k))

unfoldable pub who_told : List ℕ → ℕ → ℕ → Told
who_told l d k = pick (eqb (who_number l d k) 0) (holders l d k) (refused (who_number l d k))

-- the promise: the answer r, as it is on paper, settled by the book and what was asked. The book is lent to be read: no word of it changes
pub record WhoHas (l : List ℕ) (d k : ℕ) (r : Result Holders Refusal) : Type 0 where
  pub answer : paper_who r ≡ who_told l d k

-- ---- what an answer tells, bit by bit

pub record Tells (l : List ℕ) (d k mask count : ℕ) : Type 0 where
  -- bit x is set exactly if depot x has it, and no other bit is
  pub bits : (x : ℕ) → x < (counts_of l).depots → bit_of mask x ≡ has_it (counts_of l).depots l d k x
  pub no_others : (x : ℕ) → (counts_of l).depots ≤ x → bit_of mask x ≡ false
  -- the count is that of the depots that have it, and of the bits that are set
  pub depots : count ≡ count_of (counts_of l).depots (has_it (counts_of l).depots l d k)
  pub set : count ≡ ones mask
  -- the depot itself has it
  pub own : d < (counts_of l).depots → bit_of mask d ≡ true
  -- unwritten gives all bits
  pub unwritten : zeros (counts_of l).depots (vector_of (stored l d k)) ≡ true → (mask ≡ 2 ^ (counts_of l).depots - 1) × (count ≡ (counts_of l).depots)
