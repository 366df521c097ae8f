-- Any two outcomes that satisfy the promise of a recorded call coincide: the answer, the book and the buffer.
-- Assumes nothing.
use mathlib.Core.Path.{◌≡◌, sym, ◌∙◌}
use mathlib.Core.List.{List}
use Prim.Native.Nat.{ℕ}
use Rattle.request.proofs.Settles.{reply_settles}
use Rattle.upkeep.specs.Requests.{Request}
use Rattle.calls.proofs.ReplyLaws.{perform_unique}
use Rattle.recorder.specs.declared.answer.Recorded.{Recorded}
use Rattle.recorder.specs.Promises.{Appended, Recording}

pub recorded_unique :
    (l : List ℕ) (r : Request) (o : List ℕ) {a b : Recorded} {l₁ l₂ o₁ o₂ : List ℕ} → Recording l r o a l₁ o₁ → Recording l r o b l₂ o₂ → (a ≡ b) × (l₁ ≡ l₂) × (o₁ ≡ o₂)
recorded_unique l r o {a} {b} p q =
    let n = p.number ∙ sym q.number in
    let e = reply_settles a.reply b.reply (p.reply ∙ sym q.reply) p.holds q.holds in
    let s = p.size ∙ sym q.size in
    (λ i. record { number = n i; reply = e i; size = s i }, p.book ∙ sym q.book, p.buffer ∙ sym q.buffer)

pub appended_unique :
    (l : List ℕ) (r : Request) (o : List ℕ) (at : ℕ) {a b : Recorded} {l₁ l₂ o₁ o₂ : List ℕ} → Appended l r o at a l₁ o₁ → Appended l r o at b l₂ o₂ →
    (a ≡ b) × (l₁ ≡ l₂) × (o₁ ≡ o₂)
appended_unique l r o at p q =
    let n = p.number ∙ sym q.number in
    let w = perform_unique l r p.performed q.performed in
    let e = w.0 in
    let s = p.size ∙ sym q.size in
    (λ i. record { number = n i; reply = e i; size = s i }, w.1, p.buffer ∙ sym q.buffer)
