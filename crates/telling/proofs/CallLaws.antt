-- The promise of a call settles its number, the book after it, and the words that its answer tells.
-- Assumes nothing.
use Prim.Native.Nat.{ℕ}
use mathlib.Core.Path.{◌≡◌, ◌∙◌, ap}
use mathlib.Core.List.{List}
use Rattle.paper.specs.Calls.{Answer, number_in}
use Rattle.upkeep.specs.Requests.{Request, Called, number_at, reply_to, book_after}
use Rattle.upkeep.proofs.NeverBadAnswer.{settled, reply_number}
use Rattle.room.specs.Room.{filled}
use Rattle.telling.specs.Told.{words_of}

pub by_call : {l l' : List ℕ} {q : Request} {x : Answer} {n : ℕ} → Called l l' q x → n ≡ number_in x → (n ≡ number_at l q) × (l' ≡ book_after l q)
by_call c p = (p ∙ ap number_in (settled c).0 ∙ reply_number _ _, (settled c).1)

pub told_by : {l l' : List ℕ} {q : Request} {x : Answer} (out : List ℕ) {o : List ℕ} → Called l l' q x → o ≡ filled (words_of x) out → o ≡ filled (words_of (reply_to l q)) out
told_by out c p = p ∙ ap (λ (a : Answer). filled (words_of a) out) (settled c).0
