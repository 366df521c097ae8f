-- What is left after a recovery is settled: the number, the book and the counts.
-- Assumes nothing.
use Prim.Native.Nat.{ℕ}
use mathlib.Core.Path.{◌≡◌, sym, ◌∙◌, ap}
use mathlib.Core.List.{List}
use Rattle.recovery_told.specs.Told.{Left, left}

pub left_unique : {s : Left} {n m : ℕ} {l₁ l₂ o₁ o₂ : List ℕ} → left n l₁ o₁ ≡ s → left m l₂ o₂ ≡ s → (n ≡ m) × (l₁ ≡ l₂) × (o₁ ≡ o₂)
left_unique p q = let e = p ∙ sym q in (ap (λ (x : Left). x.number) e, ap (λ (x : Left). x.book) e, ap (λ (x : Left). x.counts) e)
