-- Four numbers that a closure made, one for each depot that there can be.
-- Assumes nothing.
use Prim.Native.Nat.{ℕ, zero, suc, ◌+◌, ◌<◌}
use native.Mathlib.Nat.{add-zero}
use native.Mathlib.Omega.{arith}
use denote.Param.Members.{Mut}
use lib.ListN.{get_or}
use lib.Seq.{ext_get_or}
use mathlib.Core.List.{List}
use mathlib.Core.Path.{◌≡◌, refl, ◌∙◌, subst}
use Rattle.std.specs.Array.{IsFromFnResult, IsFromFnResultFrom}
use Rattle.std.specs.Fn.{Called}
use Rattle.order.specs.Vector.{Vec}
use Rattle.links.specs.Send.{four_of}

module _ {F : Type 0} {g : Mut F (ℕ × Unit {0}) ℕ} (v : Vec) (f : F) (ys : List ℕ)
    (step : (x b : ℕ) (q : F) → x < 4 → Called g f (x, tt) b q → (q ≡ f) × (b ≡ v x)) where
  made : (n i : ℕ) → i + n ≡ 4 → IsFromFnResultFrom g f ys i n → (k : ℕ) → k < n → get_or ys (i + k) 0 ≡ v (i + k)
  made zero i e h k l = absurd (omega arith)
  made (suc n) i e (q, y, h, c, r) zero l = rw add-zero (h.1 0 ∙ (step i y q (omega arith) c).1)
  made (suc n) i e (q, y, h, c, r) (suc k) l =
      let same : i + 1 + k ≡ i + suc k = omega arith in
      let rest = subst (λ (p : F). IsFromFnResultFrom g p ys (i + 1) n) (step i y q (omega arith) c).0 r in
      subst (λ (j : ℕ). get_or ys j 0 ≡ v j) same (made n (i + 1) (omega arith) rest k (omega arith))

  one_of_four : (k : ℕ) → k < 4 → v k ≡ get_or (four_of v) k 0
  one_of_four zero l = refl
  one_of_four (suc zero) l = refl
  one_of_four (suc (suc zero)) l = refl
  one_of_four (suc (suc (suc zero))) l = refl
  one_of_four (suc (suc (suc (suc k)))) l = absurd (omega arith)

  pub four_made : IsFromFnResult g f ys 4 → ys ≡ four_of v
  four_made h = ext_get_or 0 ys (four_of v) h.long λ k l.
      let i : k < 4 = omega (arith, h.long) in
      let z : 0 + k ≡ k = omega arith in
      subst (λ (j : ℕ). get_or ys j 0 ≡ v j) z (made 4 0 refl h.each k i) ∙ one_of_four k i
