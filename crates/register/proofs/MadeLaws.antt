-- The record that a write makes, word by word.
-- Assumes nothing.
use Prim.Native.Nat.{ℕ, zero, suc, ◌+◌, ◌≤◌, ◌<◌}
use native.Mathlib.Omega.{arith}
use mathlib.Core.Path.{◌≡◌, refl, sym, ◌∙◌}
use mathlib.Core.List.{List, ◌∷◌}
use lib.ListN.{length, get_or}
use lib.Seq.{get_or-drop}
use borrow.Author.Tests.{lt-ltb}
use Rattle.order.specs.Vector.{Vec}
use Rattle.order.specs.Record.{bearing_of, origin_of, vector_of}
use Rattle.loops.proofs.BoolLaws.{pick_true}
use Rattle.book.specs.Words.{part}
use Rattle.book.specs.Layout.{copy_kind, counts_of, home, record_of}
use Rattle.paper.specs.declared.answer.Payload.{Payload}
use Rattle.register.specs.Answers.{cut}
use Rattle.register.specs.Calls.{made_vector, made_record}

-- entry x of a vector that was cut to n entries, in room for four
pub cut_at : (n : ℕ) (v : Vec) (x : ℕ) → n ≤ 4 → x < n → get_or (cut n v) x 0 ≡ v x
unfolding cut
cut_at n v zero h k = pick_true (v 0) 0 (lt-ltb 0 n k)
cut_at n v (suc zero) h k = pick_true (v 1) 0 (lt-ltb 1 n k)
cut_at n v (suc (suc zero)) h k = pick_true (v 2) 0 (lt-ltb 2 n k)
cut_at n v (suc (suc (suc zero))) h k = pick_true (v 3) 0 (lt-ltb 3 n k)
cut_at n v (suc (suc (suc (suc x)))) h k = absurd (omega arith)

pub length_made : (l : List ℕ) (c k : ℕ) (payload : Payload) → length (made_record l c k payload) ≡ 9
unfolding made_record cut
length_made l c k payload = refl

pub made_entry : (l : List ℕ) (c k : ℕ) (payload : Payload) (x : ℕ) → (counts_of l).depots ≤ 4 → x < (counts_of l).depots → vector_of (made_record l c k payload) x ≡ made_vector l c k x
unfolding made_record
made_entry l c k payload x h z = five x ∙ cut_at (counts_of l).depots (made_vector l c k) x h z
  where
    five : (y : ℕ) → get_or (k ∷ payload.value ∷ payload.diameter ∷ payload.width ∷ home l c ∷ cut (counts_of l).depots (made_vector l c k)) (5 + y) 0 ≡ get_or
        (cut (counts_of l).depots (made_vector l c k)) y 0
    five y = sym (get_or-drop 5 (k ∷ payload.value ∷ payload.diameter ∷ payload.width ∷ home l c ∷ cut (counts_of l).depots (made_vector l c k)) y 0)

pub made_record_of : (l : List ℕ) (c k : ℕ) (payload : Payload) → record_of (copy_kind ∷ made_record l c k payload) ≡ made_record l c k payload
unfolding made_record cut part
made_record_of l c k payload = refl

pub made_bearing : (l : List ℕ) (c k : ℕ) (payload : Payload) → bearing_of (made_record l c k payload) ≡ k
unfolding made_record
made_bearing l c k payload = refl

pub made_origin : (l : List ℕ) (c k : ℕ) (payload : Payload) → origin_of (made_record l c k payload) ≡ home l c
unfolding made_record
made_origin l c k payload = refl
