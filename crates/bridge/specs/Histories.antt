-- Requests to a book, newest first: the book that they leave, and the calls among them where no setup is done.
-- Assumes nothing.
use Rattle.std.specs.Prelude.{ℕ, ◌≡◌, List, [], ◌∷◌}
use Rattle.paper.specs.Calls.{Call}
use Rattle.book.specs.declared.parts.Counts.{Counts}
use Rattle.upkeep.specs.Requests.{Request, setup, call, number_at, book_after}

-- what requests leave of the book b
unfoldable pub book : List ℕ → List Request → List ℕ
book b [] = b
book b (r ∷ h) = book_after (book b h) r

-- requests among which no setup is done
pub data NoneSetUp (b : List ℕ) : List Request → Type 0 where
  start : NoneSetUp b []
  refused : {h : List Request} {n : Counts} {homes : List ℕ} → NoneSetUp b h → (number_at (book b h) (setup n homes) ≡ 0 → ⊥) → NoneSetUp b (setup n homes ∷ h)
  called : {h : List Request} {q : Call} → NoneSetUp b h → NoneSetUp b (call q ∷ h)

-- the calls among them
unfoldable pub calls_in : List Request → List Call
calls_in [] = []
calls_in (setup n homes ∷ h) = calls_in h
calls_in (call q ∷ h) = q ∷ calls_in h
