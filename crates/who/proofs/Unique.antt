-- The promise of `who_has` settles its answer: what stands on paper gives the answer back.
-- Assumes nothing.
use Prim.Native.Nat.{ℕ}
use native.Mathlib.Omega.{arith}
use mathlib.Core.Path.{◌≡◌, sym, ◌∙◌, ap, ap₂}
use Rattle.loops.specs.Settled.{Settled}
use Rattle.paper.proofs.Settles.{number_settles}
use Rattle.std.specs.Prelude.{Result, Ok, Err}
use Rattle.paper.specs.declared.answer.Refusal.{Refusal}
use Rattle.who.specs.declared.Holders.{Holders}
use Rattle.who.specs.Who.{has, refused, paper_who}
use Rattle.who.proofs.who_has.Kinds as kinds
use Rattle.who.proofs.who_has.Reads as who-has

-- a refusal is no mask
pub has_not : {m c n : ℕ} → has m c ≡ refused n → ⊥
has_not e = let z : ◌≡◌ {A = ℕ} 0 1 = cc in omega arith

told_settles : (a b : Result Holders Refusal) → paper_who a ≡ paper_who b → a ≡ b
unfolding paper_who
told_settles (Ok h) (Ok k) e =
    let mask : h.mask ≡ k.mask = cc in
    let count : h.count ≡ k.count = cc in
    let made : ℕ → ℕ → Result Holders Refusal = λ m c. Ok (record { mask = m; count = c }) in
    ap₂ made mask count
told_settles (Ok h) (Err r) e = absurd (has_not e)
told_settles (Err r) (Ok h) e = absurd (has_not (sym e))
told_settles (Err r) (Err s) e = ap Err (number_settles r s cc)

-- `who::who_has`: any two answers that satisfy its promise are the same
pub who_has_unique : Settled 1 kinds.ps kinds.r who-has.Learnt
who_has_unique κs args one other end end' p q = told_settles one other (p.answer ∙ sym q.answer)
