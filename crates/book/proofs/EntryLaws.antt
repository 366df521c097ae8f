-- One word of a part written: every other part stays. So for a clock, a stamp seen, a head's number and an entry of a vector alike.
-- Assumes nothing.
use Prim.Native.Nat.{ℕ, ◌+◌, ◌<◌}
use native.Mathlib.Omega.{arith}
use mathlib.Core.Path.{◌≡◌, ◌∙◌, sym, ap}
use mathlib.Core.Logic.{inl, inr}
use mathlib.Core.List.{List, [], ◌∷◌}
use lib.ListN.{set}
use Rattle.book.specs.Words.{Apart}
use Rattle.book.specs.Layout.{held_at, taken_at}
use Rattle.book.specs.Parts.{Part, a_head, place_of, size_of, InBook, read_part, write_part}
use Rattle.book.proofs.WordsLaws.{put_one, put_more, put_other}
use Rattle.book.proofs.PartsLaws.{parts_apart}

pub entry_other :
    (l : List ℕ) (p q : Part) (i w : ℕ) → InBook p → InBook q → (p ≡ q → ⊥) → i < size_of p → read_part (set l (place_of p + i) w) q ≡ read_part l q
entry_other l p q i w hp hq differ small =
    ap (λ (m : List ℕ). read_part m q) (sym (put_one l (place_of p + i) w))
    ∙ put_other l (place_of p + i) (w ∷ []) (place_of q) (size_of q) (inside (parts_apart p q hp hq differ))
  where
    inside : Apart (place_of p) (size_of p) (place_of q) (size_of q) → Apart (place_of p + i) 1 (place_of q) (size_of q)
    inside (inl h) = inl (omega arith)
    inside (inr h) = inr (omega arith)

-- the two words of a head, as one part
pub head_written : (l : List ℕ) (q h t : ℕ) → set (set l (held_at q) h) (taken_at q) t ≡ write_part l (a_head q) (h ∷ t ∷ [])
head_written l q h t =
    ap (λ (m : List ℕ). set m (taken_at q) t) (sym (put_one l (held_at q) h))
    ∙ ap (λ (i : ℕ). set (Rattle.book.specs.Words.put l (held_at q) (h ∷ [])) i t) (omega arith)
    ∙ put_more l (held_at q) (h ∷ []) t
