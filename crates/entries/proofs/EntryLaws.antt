-- What the tests on one or two entries come to: the record, as a part of the history, has the entry's vector and origin.
-- Assumes nothing.
use Prim.Native.Nat.{ℕ, ◌+◌, ◌*◌, ◌-◌, ◌<◌}
use native.Mathlib.Omega.{arith}
use mathlib.Core.Path.{◌≡◌, ◌∙◌, ap}
use mathlib.Core.List.{List}
use lib.ListN.{get_or, take, drop}
use lib.Seq.{get_or-take, get_or-drop}
use Rattle.order.specs.Vector.{vector_in, zeros}
use Rattle.order.specs.Order.{above}
use Rattle.order.specs.Record.{rank_of}
use Rattle.order.proofs.OrderLaws.{above_cong}
use Rattle.order.proofs.VectorLaws.{zeros_same}
use Rattle.entries.specs.Entries.{vector, rank}

-- the record of entry i
part : List ℕ → ℕ → List ℕ
part h i = take (i * 11 + 11 - (i * 11 + 2)) (drop (i * 11 + 2) h)

word_part : (h : List ℕ) (i x : ℕ) → x < 9 → get_or (part h i) x 0 ≡ get_or h (i * 11 + (2 + x)) 0
unfolding part
word_part h i x l =
    get_or-take (i * 11 + 11 - (i * 11 + 2)) (drop (i * 11 + 2) h) x 0 (omega arith) ∙ get_or-drop (i * 11 + 2) h x 0 ∙ ap (λ (p : ℕ). get_or h p 0) (omega arith)

entry_part : (h : List ℕ) (i x : ℕ) → x < 4 → get_or (part h i) (5 + x) 0 ≡ get_or h (i * 11 + 7 + x) 0
entry_part h i x l = word_part h i (5 + x) (omega arith) ∙ ap (λ (p : ℕ). get_or h p 0) (omega arith)

pub above_parts : (h : List ℕ) (i j : ℕ)
    → above 4 (rank_of (take (j * 11 + 11 - (j * 11 + 2)) (drop (j * 11 + 2) h))) (rank_of (take (i * 11 + 11 - (i * 11 + 2)) (drop (i * 11 + 2) h)))
    ≡ above 4 (rank h j) (rank h i)
unfolding part
above_parts h i j = above_cong 4 _ _ _ _ (entry_part h j) (word_part h j 4 (omega arith)) (entry_part h i) (word_part h i 4 (omega arith))

pub zeros_part : (h : List ℕ) (i : ℕ) → zeros 4 (vector_in (take (i * 11 + 11 - (i * 11 + 7)) (drop (i * 11 + 7) h))) ≡ zeros 4 (vector h i)
zeros_part h i = zeros_same 4 _ _ (λ x l. get_or-take (i * 11 + 11 - (i * 11 + 7)) (drop (i * 11 + 7) h) x 0 (omega arith) ∙ get_or-drop (i * 11 + 7) h x 0)
