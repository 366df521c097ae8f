-- What counts of words that are handed in as a record: the record itself where the length is right, else an unwritten one.
-- Assumes nothing.
use Prim.Native.Nat.{ℕ, ◌≤◌, ◌<◌}
use native.Mathlib.Nat.{lt_of_lt_of_le}
use mathlib.Core.Path.{◌≡◌, refl, ◌∙◌, ap}
use mathlib.Core.List.{List}
use mathlib.Core.Bool.{true}
use lib.ListN.{length, take, drop}
use lib.Seq.{get_or-take, get_or-drop}
use borrow.Author.Tests.{eq-eqb, ne_eqb}
use Rattle.order.specs.Vector.{vector_in, zeros, sum}
use Rattle.order.specs.Order.{Rank}
use Rattle.order.specs.Record.{record_words, most_depots, vector_of, rank_of, rank_in, unwritten}
use Rattle.loops.proofs.BoolLaws.{pick_true, pick_false}
use Rattle.order.proofs.VectorLaws.{zeros_intro, zeros_same, sum_same}

pub rank_right : (r : List ℕ) → length r ≡ record_words → rank_in r ≡ rank_of r
unfolding rank_in
rank_right r e = pick_true _ _ (eq-eqb _ _ e)

pub rank_wrong : (r : List ℕ) → (length r ≡ record_words → ⊥) → rank_in r ≡ unwritten
unfolding rank_in
rank_wrong r e = pick_false _ _ (ne_eqb _ _ e)

pub zeros_unwritten : (n : ℕ) → zeros n unwritten.vector ≡ true
zeros_unwritten n = zeros_intro n _ λ x l. refl

pub zeros_wrong : (n : ℕ) (r : List ℕ) → (length r ≡ record_words → ⊥) → zeros n (rank_in r).vector ≡ true
zeros_wrong n r e = ap (λ (a : Rank). zeros n a.vector) (rank_wrong r e) ∙ zeros_unwritten n

-- the vector as the last four words of a record
entry_part : (n : ℕ) (r : List ℕ) → n ≤ most_depots → (x : ℕ) → x < n → vector_in (take 4 (drop 5 r)) x ≡ vector_of r x
entry_part n r h x l = get_or-take 4 (drop 5 r) x 0 (lt_of_lt_of_le l h) ∙ get_or-drop 5 r x 0

pub zeros_part : (n : ℕ) (r : List ℕ) → n ≤ most_depots → zeros n (vector_in (take 4 (drop 5 r))) ≡ zeros n (vector_of r)
zeros_part n r h = zeros_same n _ _ (entry_part n r h)

pub sum_part : (n : ℕ) (r : List ℕ) → n ≤ most_depots → sum n (vector_in (take 4 (drop 5 r))) ≡ sum n (vector_of r)
sum_part n r h = sum_same n _ _ (entry_part n r h)
