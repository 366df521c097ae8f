-- What is left after a recorded call is settled: the number, the book, the bytes and the words.
-- Assumes nothing.
use Prim.Native.Nat.{ℕ}
use mathlib.Core.Path.{◌≡◌, sym, ◌∙◌, ap}
use mathlib.Core.List.{List}
use Rattle.recorder_told.specs.Told.{Left, left}

pub left_unique :
    {s : Left} {n m : ℕ} {l₁ l₂ b₁ b₂ o₁ o₂ : List ℕ} → left n l₁ b₁ o₁ ≡ s → left m l₂ b₂ o₂ ≡ s → (n ≡ m) × (l₁ ≡ l₂) × (b₁ ≡ b₂) × (o₁ ≡ o₂)
left_unique p q =
    let e = p ∙ sym q in
    (ap (λ (x : Left). x.number) e, ap (λ (x : Left). x.book) e, ap (λ (x : Left). x.bytes) e, ap (λ (x : Left). x.words) e)
