-- Raise and show at shelf s of depot d, with n depots, as changes of the book's words.
-- Assumes nothing.
use Rattle.std.specs.Prelude.{ℕ, ◌+◌, ◌*◌, ◌-◌, List, eqb, set, replicate}
use Rattle.loops.specs.Loops.{times, pick}
use Rattle.order.specs.Vector.{Vec, covered, merged_at}
use Rattle.order.specs.Order.{above}
use Rattle.order.specs.Record.{bearing_of, vector_of, rank_of}
use Rattle.book.specs.Words.{part, put}
use Rattle.book.specs.Layout.{stable_at, stored_at, slot_at, held_at, taken_at, link_of, stable, stored, slot, held, taken, record_of}

-- the record r replaces the stored version of its bearing at depot d if it is greater
unfoldable pub kept_in : ℕ → ℕ → List ℕ → List ℕ → List ℕ
kept_in n d r l = pick (above n (rank_of r) (rank_of (stored l d (bearing_of r)))) (put l (stored_at d (bearing_of r)) r) l

-- the words, and how many taken copies of the link stay on it so far
pub record Sweep : Type 0 where
  pub words : List ℕ
  pub kept : ℕ

-- the copy in slot i of link q: covered in all entries but depot d's, it is shown and leaves the link; else it moves down to the first free slot
unfoldable pub sweep_one : ℕ → ℕ → ℕ → ℕ → ℕ → Sweep → Sweep
sweep_one n d s q i w =
    pick (covered n d (vector_of (record_of (slot w.words q i))) (stable w.words d s))
    (record { words = kept_in n d (record_of (slot w.words q i)) w.words; kept = w.kept })
    (record { words = put w.words (slot_at q w.kept) (slot w.words q i); kept = w.kept + 1 })

-- the first t copies of link q, oldest first
unfoldable pub swept : ℕ → ℕ → ℕ → ℕ → ℕ → List ℕ → Sweep
swept n d s q t l = times t (sweep_one n d s q) (record { words = l; kept = 0 })

-- link q of h messages, from which the g messages from slot j on are gone: those behind move down, and the slots that become free are 0
unfoldable pub closed_up : ℕ → ℕ → ℕ → ℕ → List ℕ → List ℕ
closed_up q j g h l = put (put l (slot_at q j) (part l (slot_at q (j + g)) (10 * (h - (j + g))))) (slot_at q (h - g)) (replicate (10 * g) 0)

-- link q holds h messages, of which t are taken
unfoldable pub with_head : ℕ → ℕ → ℕ → List ℕ → List ℕ
with_head q h t l = set (set l (held_at q) h) (taken_at q) t

-- what is left of a link after a sweep of its t taken copies, of h messages
unfoldable pub swept_up : ℕ → ℕ → ℕ → Sweep → List ℕ
swept_up q h t w = with_head q (h - (t - w.kept)) w.kept (closed_up q w.kept (t - w.kept) h w.words)

-- the incoming link from a depot is shown
unfoldable pub shown_link : ℕ → ℕ → ℕ → ℕ → List ℕ → List ℕ
shown_link n d s from l = swept_up (link_of s from d) (held l (link_of s from d)) (taken l (link_of s from d)) (swept n d s (link_of s from d) (taken l (link_of s from d)) l)

-- from depot 0 on, each incoming link is shown
unfoldable pub shown : ℕ → ℕ → ℕ → List ℕ → List ℕ
shown n d s l = times n (λ from m. pick (eqb from d) m (shown_link n d s from m)) l

-- raise and show: each other-depot entry of the stable vector becomes the larger of itself and what is offered; then each link is shown
unfoldable pub settled : ℕ → ℕ → ℕ → Vec → List ℕ → List ℕ
settled n d s offered l = shown n d s (merged_at n d offered (stable_at d s) l)
