-- What the distance to the serial that is expected tells: the expected one, an old one, or neither.
-- Assumes nothing.
use Rattle.std.proofs.Common.{◌≡◌, ℕ, ◌+◌, ◌-◌, ◌%◌, ◌<◌, ◌≤◌, true, false, sym, refl, ◌∙◌, arith, eq-eqb, ne_eqb, le-leb}
use borrow.Author.Tests.{lt-leb}
use Rattle.loops.proofs.BoolLaws.{and_intro, and_next}
use Rattle.fit.specs.Fit.{between}
use Rattle.wire.specs.Wire.{half_limit}
use Rattle.frame.specs.Frame.{behind, is_old, is_expected}
use Rattle.frame.proofs.Theorems.{behind_one}

-- the distance by wrapping subtraction leads back
pub wrapped : (e s : ℕ) → e < half_limit → s < half_limit → ((e + (half_limit - s)) % half_limit + s) % half_limit ≡ e
wrapped e s he hs = omega (arith, he, hs)

module _ (e s d : ℕ) (he : e < half_limit) (hs : s < half_limit) (hd : d < half_limit) (h : (d + s) % half_limit ≡ e) where
  far : behind e s ≡ d
  far = sym (behind_one e s d he hs hd h)

  pub serial_old : (d ≡ 0 → ⊥) → d ≤ 32767 → is_old e s ≡ true
  unfolding is_old between
  serial_old n k = rw far (and_intro (le-leb 1 d (omega (arith, n))) (le-leb d 32767 k))

  pub serial_not_old : 32767 < d → is_old e s ≡ false
  unfolding is_old between
  serial_not_old k = rw far (and_next _ (le-leb 1 d (omega arith)) ∙ lt-leb d 32767 k)

  pub serial_other : (d ≡ 0 → ⊥) → is_expected e s ≡ false
  unfolding is_expected
  serial_other n = rw far (ne_eqb _ _ n)

  pub serial_own : d ≡ 0 → (is_expected e s ≡ true) × (is_old e s ≡ false)
  unfolding is_expected is_old between
  serial_own z = (eq-eqb _ _ (far ∙ z), rw (far ∙ z) refl)
