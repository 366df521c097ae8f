-- A cut journal is its whole records and the bytes behind them; and no more records than that are whole before the cut.
-- Assumes nothing.
use Prim.Native.Nat.{ℕ, zero, suc, ◌+◌, ◌-◌, ◌≤◌}
use native.Mathlib.Omega.{arith}
use mathlib.Core.Path.{◌≡◌, sym, ◌∙◌, ap}
use mathlib.Core.Logic.{⊎_elim}
use mathlib.Core.Bool.{true, false}
use mathlib.Core.List.{List, [], ◌∷◌, ◌++◌, append_assoc}
use lib.Dec.{leb}
use lib.ListN.{length, take, length-append}
use lib.Seq.{take-append-le, take-append-add, take-nil}
use borrow.Author.Tests.{leb-true, leb-false}
use Rattle.loops.proofs.BoolLaws.{decided, pick_true, pick_false}
use Rattle.upkeep.specs.Requests.{Request}
use Rattle.journal.specs.Record.{record_bytes}
use Rattle.journal.specs.Journal.{journal, whole_in, rest_in}

pub cut_bytes : (m : ℕ) (rs : List Request) → take m (journal rs) ≡ journal (take (whole_in m rs) rs) ++ rest_in m rs
unfolding journal whole_in rest_in
cut_bytes m [] = take-nil m
cut_bytes m (r ∷ rs) =
    ⊎_elim
    (λ (h : leb (length (record_bytes r)) m ≡ true).
    let u : ℕ = m - length (record_bytes r) in
    let e : m ≡ length (record_bytes r) + u = omega (arith, leb-true (length (record_bytes r)) m h) in
    rw (pick_true (suc (whole_in u rs)) 0 h, pick_true (rest_in u rs) (take m (record_bytes r)) h)
    (ap (λ (k : ℕ). take k (record_bytes r ++ journal rs)) e
    ∙ take-append-add (record_bytes r) (journal rs) u
    ∙ ap (λ (f : List ℕ). record_bytes r ++ f) (cut_bytes u rs)
    ∙ sym (append_assoc (record_bytes r) (journal (take (whole_in u rs) rs)) (rest_in u rs))))
    (λ (h : leb (length (record_bytes r)) m ≡ false).
    rw (pick_false (suc (whole_in (m - length (record_bytes r)) rs)) 0 h, pick_false (rest_in (m - length (record_bytes r)) rs) (take m (record_bytes r)) h)
    (take-append-le m (record_bytes r) (journal rs) (omega (arith, leb-false (length (record_bytes r)) m h))))
    (decided (leb (length (record_bytes r)) m))

-- where the records of the first j requests are before the cut, at least j are counted
pub cut_most : (m j : ℕ) (rs : List Request) → j ≤ length rs → length (journal (take j rs)) ≤ m → j ≤ whole_in m rs
unfolding journal whole_in
cut_most m zero rs l h = omega arith
cut_most m (suc j) [] l h = absurd (omega arith)
cut_most m (suc j) (r ∷ rs) l h =
    let n : length (record_bytes r ++ journal (take j rs)) ≡ length (record_bytes r) + length (journal (take j rs)) = length-append (record_bytes r) (journal (take j rs)) in
    ⊎_elim
    (λ (t : leb (length (record_bytes r)) m ≡ true).
    let k : j ≤ whole_in (m - length (record_bytes r)) rs = cut_most (m - length (record_bytes r)) j rs (omega arith) (omega arith) in
    rw (pick_true (suc (whole_in (m - length (record_bytes r)) rs)) 0 t) (omega arith))
    (λ (t : leb (length (record_bytes r)) m ≡ false). absurd (omega (arith, leb-false (length (record_bytes r)) m t)))
    (decided (leb (length (record_bytes r)) m))

-- and not more than there are
pub cut_within : (m : ℕ) (rs : List Request) → whole_in m rs ≤ length rs
unfolding whole_in
cut_within m [] = omega arith
cut_within m (r ∷ rs) =
    let k : whole_in (m - length (record_bytes r)) rs ≤ length rs = cut_within (m - length (record_bytes r)) rs in
    ⊎_elim
    (λ (t : leb (length (record_bytes r)) m ≡ true). rw (pick_true (suc (whole_in (m - length (record_bytes r)) rs)) 0 t) (omega arith))
    (λ (t : leb (length (record_bytes r)) m ≡ false). rw (pick_false (suc (whole_in (m - length (record_bytes r)) rs)) 0 t) (omega arith))
    (decided (leb (length (record_bytes r)) m))
