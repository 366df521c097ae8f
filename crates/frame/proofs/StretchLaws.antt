-- Frames lost, repeated or shuffled hand out the messages of a first stretch of the frames sent, in order and once each.
-- Assumes nothing.
use Prim.Native.Nat.{ℕ, zero, suc, ◌+◌, ◌-◌, ◌*◌, ◌%◌, ◌≤◌, ◌<◌}
use native.Mathlib.Omega.{arith}
use native.Mathlib.Numerals.{add-one}
use native.Mathlib.Nat.{mod-lt}
use mathlib.Core.Path.{◌≡◌, refl, sym, ◌∙◌, ap, subst}
use mathlib.Core.Logic.{◌⊎◌, inl, inr, ⊎_elim}
use mathlib.Core.Bool.{Bool, true, false}
use mathlib.Core.List.{List, [], ◌∷◌, ◌++◌, map}
use lib.Dec.{eqb}
use borrow.Author.Tests.{eqb-true, eqb-false}
use Rattle.loops.specs.Loops.{pick}
use Rattle.loops.proofs.BoolLaws.{decided, pick_true, pick_false}
use Rattle.wire.specs.Wire.{half_limit}
use Rattle.frame.specs.declared.Route.{Route}
use Rattle.frame.specs.Frame.{Reading, bad, old, gap, accepted, encode_frame, is_old, is_expected, by_serial, decode_frame, meant_body}
use Rattle.frame.specs.Stretch.{Known, Sendable, Stream, serial_of, frame_of, Box, received, receive, receive_all, stretch, reached, Near, done, next}
use Rattle.frame.proofs.Theorems.{written_reads, as_expected, expected_as}

-- the box when it has accepted k frames of a stream
box_at : Route → Stream → ℕ → Box
box_at r w k = record { expected = serial_of w k; handed = stretch r w k }

-- a frame of another serial hands out nothing
not_accepted : (b : Box) (e s count : ℕ) (body : List ℕ) → is_expected e s ≡ false → received b (by_serial e s count body) ≡ b
unfolding by_serial received
not_accepted b e s count body n =
    ⊎_elim
    (λ (z : is_old e s ≡ true). ap (received b) (pick_true _ _ z))
    (λ (z : is_old e s ≡ false). ap (received b) (pick_false _ _ z ∙ pick_false _ _ n))
    (decided (is_old e s))

-- two serials of a stream that are near are the same only at the same index
apart : (first k j : ℕ) → j ≤ k + 32767 → k ≤ j + 32767 → (j ≡ k → ⊥) → (first + j) % half_limit ≡ (first + k) % half_limit → ⊥
apart first k j p q n h = omega arith

around : (n : ℕ) → (n % half_limit + 1) % half_limit ≡ (n + 1) % half_limit
around n = omega arith

module _ (r : Route) (known : Known r) (w : Stream) (total : ℕ) (fits : (i : ℕ) → i < total → Sendable r (w.count i) (w.messages i)) where
  numbered : (i : ℕ) → serial_of w i < half_limit
  numbered i = mod-lt _ (omega arith)

  accepts : (k : ℕ) → received (box_at r w k) (by_serial (serial_of w k) (serial_of w k) (w.count k) (meant_body r (w.count k) (w.messages k))) ≡ box_at r w (k + 1)
  unfolding box_at by_serial received stretch
  accepts k =
      let e : ((w.first + k) % half_limit + 1) % half_limit ≡ (w.first + (k + 1)) % half_limit = around (w.first + k) ∙ ap (λ (n : ℕ). n % half_limit) (omega arith) in
      let h : stretch r w k ++ meant_body r (w.count k) (w.messages k) ≡ stretch r w (k + 1) = rw add-one in
      let x = expected_as (serial_of w k) (serial_of w k) (numbered k) (numbered k) refl in
      ap (received _) (pick_false _ _ x.1 ∙ pick_true _ _ x.0) ∙ (λ i. record { expected = e i; handed = h i })

  step : (k j : ℕ) → j < total → j ≤ k + 32767 → k ≤ j + 32767 → receive r (box_at r w k) (frame_of r w j) ≡ box_at r w (pick (eqb j k) (k + 1) k)
  unfolding receive box_at
  step k j s p q =
      ap (received _) (written_reads r (serial_of w j) (w.count j) (w.messages j) (serial_of w k) known (numbered j) (fits j s))
      ∙ ⊎_elim
      (λ (z : eqb j k ≡ true).
      subst (λ (x : ℕ). received (box_at r w k) (by_serial (serial_of w k) (serial_of w x) (w.count x) (meant_body r (w.count x) (w.messages x))) ≡ box_at r w (k + 1)) (sym (eqb-true j k z)) (accepts k)
      ∙ ap (box_at r w) (sym (pick_true _ _ z)))
      (λ (z : eqb j k ≡ false).
      not_accepted _ _ _ _ _
      (Rattle.loops.proofs.BoolLaws.failed _ (λ y. apart w.first k j p q (eqb-false _ _ z) (as_expected (serial_of w k) (serial_of w j) (numbered k) (numbered j) y)))
      ∙ ap (box_at r w) (sym (pick_false _ _ z)))
      (decided (eqb j k))

  handed_out : {k : ℕ} {js : List ℕ} → Near total k js → receive_all r (box_at r w k) (map (frame_of r w) js) ≡ box_at r w (reached k js)
  unfolding receive_all reached
  handed_out done = refl
  handed_out {k = k} (next {j = j} {js = js} s p q n) = ap (λ (b : Box). receive_all r b (map (frame_of r w) js)) (step k j s p q) ∙ handed_out n

  -- what is handed out is a first stretch of what was sent
  pub first_stretch :
      {js : List ℕ} → w.first < half_limit → Near total 0 js →
      (receive_all r (record { expected = w.first; handed = [] }) (map (frame_of r w) js)).handed ≡ stretch r w (reached 0 js)
  unfolding box_at stretch
  first_stretch {js = js} h n =
      let e : w.first ≡ (w.first + 0) % half_limit = omega arith in
      ap (λ (x : ℕ). (receive_all r (record { expected = x; handed = [] }) (map (frame_of r w) js)).handed) e ∙ ap (λ (b : Box). b.handed) (handed_out n)

-- no more frames are accepted than were sent
pub reached_most : {total k : ℕ} {js : List ℕ} → Near total k js → k ≤ total → reached k js ≤ total
unfolding reached
reached_most done h = h
reached_most {total} {k = k} (next {j = j} {js = js} s p q n) h =
    reached_most n
    (⊎_elim
    (λ (z : eqb j k ≡ true). rw (pick_true (k + 1) k z) (omega (arith, eqb-true j k z)))
    (λ (z : eqb j k ≡ false). rw (pick_false (k + 1) k z) h)
    (decided (eqb j k)))
