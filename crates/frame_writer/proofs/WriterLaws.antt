-- The frame of what stands untaken, by other names; and a count of a frame.
-- Assumes nothing.
use Prim.Native.Nat.{ℕ, ◌+◌, ◌≤◌}
use mathlib.Core.Path.{◌≡◌}
use mathlib.Core.Bool.{false}
use mathlib.Core.List.{List}
use lib.Dec.{eqb, ltb}
use borrow.Author.Tests.{ltb-false}
use Rattle.book.specs.declared.parts.Counts.{Counts}
use Rattle.book.specs.Layout.{slot}
use Rattle.register.proofs.Numbers.{or_none}
use Rattle.frame.specs.Promises.{bad_count}
use Rattle.frame.specs.Frame.{place_of, encode_frame}

pub size_same :
    (l : List ℕ) {depots depots' q q' t t' count count' : ℕ} → depots ≡ depots' → q ≡ q' → t ≡ t' → count ≡ count' →
    place_of depots count (λ i. slot l q (t + i)) count ≡ place_of depots' count' (λ i. slot l q' (t' + i)) count'
size_same l {depots = depots} {q = q} {t = t} {count = count} a b c d = rw (← a, ← b, ← c, ← d)

pub frame_same :
    (l : List ℕ) (s from to : ℕ) (serial : ℕ) {n n' : Counts} {q q' t t' count count' : ℕ} → n ≡ n' → q ≡ q' → t ≡ t' → count ≡ count' →
    encode_frame (record { counts = n; shelf = record { 0 = s }; from = record { 0 = from }; to = record { 0 = to } }) serial count (λ i. slot l q (t + i))
    ≡ encode_frame (record { counts = n'; shelf = record { 0 = s }; from = record { 0 = from }; to = record { 0 = to } }) serial count' (λ i. slot l q' (t' + i))
frame_same l s from to serial a b c d = rw (← a, ← b, ← c, ← d)

-- a count that is not bad
pub count_fits : (count waiting : ℕ) → bad_count count waiting ≡ false → count ≤ waiting
unfolding bad_count
count_fits count waiting h = ltb-false _ _ (or_none (ltb 16 count) _ (or_none (eqb count 0) _ h).1).1
