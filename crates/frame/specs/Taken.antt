-- What a box does with the messages that it is handed: each is taken. So frames can stand in for a link.
-- Assumes nothing.
use Rattle.std.specs.Prelude.{ℕ, zero, suc, List, [], ◌∷◌, ◌++◌, eqb}
use Rattle.loops.specs.Loops.{times, pick}
use Rattle.book.specs.Layout.{beat_kind, seen, link_of, taken, slot, kind_of}
use Rattle.links.specs.Send.{stamp_from}
use Rattle.frame.specs.declared.Route.{Route}
use Rattle.frame.specs.Frame.{meant, message_in}

-- what takes make of a link: the last stamp seen from its sender, and the taken copies, the oldest first
pub record Standing : Type 0 where
  pub stamp : ℕ
  pub copies : List (List ℕ)

-- a message is taken: the stamp seen becomes its stamp, and a copy is the last of the taken ones
unfoldable pub takes : Route → List ℕ → Standing → Standing
takes r m x = record { stamp = stamp_from r.from.0 m; copies = pick (eqb (kind_of m) beat_kind) x.copies (x.copies ++ (m ∷ [])) }

-- so many messages are taken, one after the other, as their words are handed out
unfoldable pub takes_all : Route → ℕ → List ℕ → Standing → Standing
takes_all r count body x = times count (λ i y. takes r (message_in body i) y) x

-- g 0, g 1, and so on up to g (n - 1)
unfoldable pub gathered : ℕ → (ℕ → List ℕ) → List (List ℕ)
gathered zero g = []
gathered (suc n) g = gathered n g ++ (g n ∷ [])

-- what stands of it in a book, copies as a frame says of them
unfoldable pub standing_in : Route → List ℕ → Standing
standing_in r l =
    record {
      stamp = seen l r.to.0 r.shelf.0 r.from.0;
      copies = gathered (taken l (link_of r.shelf.0 r.from.0 r.to.0)) (λ i. meant r (slot l (link_of r.shelf.0 r.from.0 r.to.0) i));
    }
