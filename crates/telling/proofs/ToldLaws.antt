-- The number of an answer, known by its case, and what it leaves in `out`: the words of a read's vector are the entries that it tells.
-- Assumes nothing.
use Prim.Native.Nat.{ℕ}
use mathlib.Core.Path.{◌≡◌, refl, sym, ◌∙◌, ap}
use mathlib.Core.List.{List, ◌∷◌}
use lib.ListN.{take}
use Rattle.std.specs.Prelude.{Option, Some, None, Ok}
use Rattle.paper.specs.Calls.{Answer, number_in}
use Rattle.paper.specs.Answers.{paper_found, paper_read, paper_write, entries_in, padded, Holds}
use Rattle.paper.specs.declared.answer.Payload.{Payload}
use Rattle.paper.specs.declared.answer.Reading.{Reading}
use Rattle.paper.specs.declared.answer.Written.{Written}
use Rattle.room.specs.Room.{filled}
use Rattle.telling.specs.Told.{words_of}

-- an answer whose paper is known
pub told_as :
    {a b : Answer} {n : ℕ} {w : List ℕ} (out : List ℕ) {out' : List ℕ} → a ≡ b → n ≡ number_in a → w ≡ words_of a → out' ≡ filled w out →
    (n ≡ number_in b) × (out' ≡ filled (words_of b) out)
told_as out e p q h = (p ∙ ap number_in e, h ∙ ap (λ (w : List ℕ). filled w out) (q ∙ ap words_of e))

found_number : (f : Option Payload) (u : List ℕ) → 0 ≡ number_in (paper_found f u)
unfolding number_in paper_found
found_number (Some p) u = refl
found_number None u = refl

-- a read and a write that are done have the number 0
pub read_number : (a : Reading) → 0 ≡ number_in (paper_read (Ok a))
unfolding paper_read
read_number a = found_number a.payload _

pub written_number : (a : Written) → 0 ≡ number_in (paper_write (Ok a))
unfolding number_in paper_write
written_number (Written.Current stamp) = refl
written_number (Written.Superseded stamp) = refl

module _ (a : Reading) {f : Option Payload} (e : a.payload ≡ f) where
  pub found_as : paper_found f (take a.depots a.vector) ≡ paper_read (Ok a)
  unfolding paper_read
  found_as = sym (ap (λ (x : Option Payload). paper_found x (take a.depots a.vector)) e)

  pub vector_told : Holds (paper_read (Ok a)) a.vector a.depots → padded a.vector ≡ padded (entries_in (paper_found f (take a.depots a.vector)))
  unfolding padded
  vector_told h = ap padded (h.vector ∙ ap (λ (x : Answer). padded (entries_in x)) (sym found_as))

-- with the four words before it
pub after_four : {a b c d : ℕ} {u w : List ℕ} → u ≡ w → a ∷ b ∷ c ∷ d ∷ u ≡ a ∷ b ∷ c ∷ d ∷ w
after_four {a} {b} {c} {d} e = ap (λ (x : List ℕ). a ∷ b ∷ c ∷ d ∷ x) e
