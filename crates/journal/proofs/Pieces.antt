-- In pieces: after one without a fault recovery goes on from the book that it left, with the bytes that did not count and the next piece behind them, and the counts
-- add up. So a reader need keep no more than the bytes of one record.
-- Assumes nothing.
use Prim.Native.Nat.{ℕ, ◌+◌}
use native.Mathlib.Omega.{arith}
use native.Mathlib.Nat.{add-zero}
use mathlib.Core.Path.{◌≡◌, refl, sym, ◌∙◌, ap, ap₂}
use mathlib.Core.Logic.{⊎_elim}
use mathlib.Core.Bool.{true, false}
use mathlib.Core.List.{List, [], ◌∷◌, ◌++◌}
use lib.Dec.{eqb}
use lib.ListN.{length}
use Rattle.loops.proofs.BoolLaws.{decided, pick_true, pick_false}
use Rattle.upkeep.specs.Requests.{Request, number_at, book_after}
use Rattle.wire.specs.Wire.{byte_limit, Below}
use Rattle.journal.specs.declared.recover.Fault.{Fault}
use Rattle.journal.specs.declared.recover.Fault.TheVariants.{Fine, Refused, Strange}
use Rattle.journal.specs.Record.{Piece, begun, strange, whole, piece}
use Rattle.journal.specs.Journal.{Recovered, within, stopped, start, take_in, step_by, step, replay, further}
use Rattle.journal.specs.Journal.{Ended, ends_whole, ends_cut, ends_refused, ends_strange}
use Rattle.journal.proofs.ByRecord.{pieces, by_none, by_cut}
use Rattle.journal.proofs.Histories.{only_histories}

-- ---- what came before matters to the counts alone

module _ (n m : ℕ) where
  take_further : (s : Recovered) (p : List ℕ) (q : Piece) → take_in (further n m s) p q ≡ further n m (take_in s p q)
  unfolding take_in further
  take_further s p begun = refl
  take_further s p strange = refl
  take_further s p (whole r) =
      let b : List ℕ = s.book in
      let records : n + s.done + 1 ≡ n + (s.done + 1) = omega arith in
      let bytes : m + s.bytes + length p ≡ m + (s.bytes + length p) = omega arith in
      ⊎_elim
      (λ (t : eqb (number_at b r) 0 ≡ true).
      pick_true _ _ t ∙ ap₂ (λ (x y : ℕ). within (book_after b r) x y []) records bytes ∙ sym (ap (further n m) (pick_true _ _ t)))
      (λ (t : eqb (number_at b r) 0 ≡ false). pick_false _ _ t ∙ sym (ap (further n m) (pick_false _ _ t)))
      (decided (eqb (number_at b r) 0))

  step_further : (e : Fault) (s : Recovered) (x : ℕ) → step_by e (further n m s) x ≡ further n m (step_by e s x)
  unfolding step_by further
  step_further Fine s x = take_further s (s.rest ++ (x ∷ [])) (piece (s.rest ++ (x ∷ [])))
  step_further (Refused k) s x = refl
  step_further Strange s x = refl

  pub replay_further : (s : Recovered) (f : List ℕ) → replay (further n m s) f ≡ further n m (replay s f)
  unfolding replay step further
  replay_further s [] = refl
  replay_further s (x ∷ f) = ap (λ (t : Recovered). replay t f) (step_further s.fault s x) ∙ replay_further (step s x) f

-- ---- the next piece

-- the bytes that did not count wait, from whatever book
rest_waits : {s : Recovered} {u : List ℕ} → Ended s u → s.fault ≡ Fine → (l : List ℕ) → replay (start l) s.rest ≡ within l 0 0 s.rest
rest_waits ends_whole e l = by_none l 0 0
rest_waits (ends_cut {k = k} g h) e l = by_cut l 0 0 _ k g h
rest_waits (ends_refused r b z) e l = absurd (no_fault e)
  where
    no_fault : {k : ℕ} → Refused k ≡ Fine → ⊥
    no_fault q = let z : ◌≡◌ {A = ℕ} 0 1 = cc in omega arith
rest_waits (ends_strange g) e l = absurd (no_fault e)
  where
    no_fault : Strange ≡ Fine → ⊥
    no_fault q = let z : ◌≡◌ {A = ℕ} 0 1 = cc in omega arith

module _ (l f g : List ℕ) (small : Below byte_limit f) where
  abbrev s : Recovered
  s = replay (start l) f

  pub pieces_add : s.fault ≡ Fine → replay (start l) (f ++ g) ≡ further s.done s.bytes (replay (start s.book) (s.rest ++ g))
  unfolding further
  pieces_add e =
      let n : ℕ = s.done in
      let m : ℕ = s.bytes in
      let here : s ≡ within s.book n m s.rest = ap (λ (k : Fault). stopped s.book n m s.rest k) e in
      let there : within s.book n m s.rest ≡ further n m (within s.book 0 0 s.rest)
      = ap₂ (λ (x y : ℕ). within s.book x y s.rest) (sym (add-zero n)) (sym (add-zero m)) in
      pieces (start l) f g
      ∙ ap (λ (t : Recovered). replay t g) (here ∙ there)
      ∙ replay_further n m (within s.book 0 0 s.rest) g
      ∙ ap (λ (t : Recovered). further n m (replay t g)) (sym (rest_waits (only_histories l f small).ended e s.book))
      ∙ ap (further n m) (sym (pieces (start s.book) s.rest g))
