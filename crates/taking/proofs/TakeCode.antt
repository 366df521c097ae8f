-- The steps of a take: the stamp of a heartbeat and of a copy, and the whole.
-- Assumes nothing.
use Prim.Native.Nat.{ℕ, ◌+◌, ◌-◌, ◌≤◌, ◌<◌}
use native.Mathlib.Nat.{add-zero}
use native.Mathlib.Omega.{arith}
use mathlib.Core.Path.{◌≡◌, sym, ◌∙◌, ap, ap₂}
use mathlib.Core.List.{List}
use mathlib.Core.Bool.{Bool, true, false}
use lib.Dec.{eqb, lit≤}
use lib.ListN.{get_or, set}
use Rattle.loops.specs.Loops.{pick}
use Rattle.loops.proofs.BoolLaws.{pick_true, pick_false}
use Rattle.book.specs.Layout.{slot_vector, slot_stamp, slot_at, seen_at, held_at, taken_at, link_of, beat_kind, slot, held, taken, kind_of}
use Rattle.book.proofs.WordsLaws.{part_at}
use Rattle.links.specs.Send.{stamp_from, moved_on, took}
use Rattle.shelf.specs.Show.{closed_up}

-- the words of a message, where they stand in the book
pub kind_place : (q i : ℕ) (l : List ℕ) {at : ℕ} → at ≡ slot_at q i → get_or l at 0 ≡ kind_of (slot l q i)
kind_place q i l {at} e = ap (λ (x : ℕ). get_or l x 0) (e ∙ sym (add-zero (slot_at q i))) ∙ sym (part_at l (slot_at q i) 10 0 (lit≤ tt))

pub beat_stamp : (q i from : ℕ) (l : List ℕ) {at : ℕ} {b : Bool} → at ≡ slot_at q i → b ≡ eqb (kind_of (slot l q i)) beat_kind → b ≡ true → get_or l (at + slot_stamp) 0 ≡ stamp_from from (slot l q i)
unfolding stamp_from
beat_stamp q i from l {at} e b t =
    ap (λ (x : ℕ). get_or l (x + slot_stamp) 0) e ∙ sym (part_at l (slot_at q i) 10 slot_stamp (lit≤ tt)) ∙ sym (pick_true _ _ (sym b ∙ t))

pub copy_stamp :
    (q i : ℕ) (l : List ℕ) {from own at : ℕ} {b : Bool} → from < 4 → at ≡ slot_at q i → own ≡ from → b ≡ eqb (kind_of (slot l q i)) beat_kind → b ≡ false →
    get_or l (at + slot_vector + own) 0 ≡ stamp_from from (slot l q i)
unfolding stamp_from
copy_stamp q i l {from} {own} {at} h e o b t =
    let place : at + slot_vector + own ≡ slot_at q i + (1 + (5 + from)) = omega arith in
    ap (λ (x : ℕ). get_or l x 0) place
    ∙ sym (part_at (slot l q i) 1 9 (5 + from) (omega arith) ∙ part_at l (slot_at q i) 10 (1 + (5 + from)) (omega arith))
    ∙ sym (pick_false _ _ (sym b ∙ t))

pub take_done :
    (d s from : ℕ) (l : List ℕ) {q h t v : ℕ} {b : Bool} {l₁ l₂ : List ℕ} → q ≡ link_of s from d → h ≡ held l q → t ≡ taken l q →
    b ≡ eqb (kind_of (slot l q t)) beat_kind → v ≡ stamp_from from (slot l q t) → l₁ ≡ set l (seen_at d s + from) v →
    l₂ ≡ pick b (set (closed_up q t 1 h l₁) (held_at q) (h - 1)) (set l₁ (taken_at q) (t + 1)) → l₂ ≡ took d s from l
unfolding took moved_on
take_done d s from l {q} {h} {t} {v} {b} {l₁} {l₂} eq eh et eb ev e₁ e₂ =
    e₂
    ∙ (λ z. pick (eb z) (set (closed_up q t 1 h (seen_now z)) (held_at q) (h - 1)) (set (seen_now z) (taken_at q) (t + 1)))
    ∙ ap₂ (λ (x y : ℕ). moved_on q x y (slot l q y) (set l (seen_at d s + from) (stamp_from from (slot l q y)))) eh et
    ∙ ap (λ (x : ℕ). moved_on x (held l x) (taken l x) (slot l x (taken l x)) (set l (seen_at d s + from) (stamp_from from (slot l x (taken l x))))) eq
  where
    seen_now : l₁ ≡ set l (seen_at d s + from) (stamp_from from (slot l q t))
    seen_now = e₁ ∙ ap (set l (seen_at d s + from)) ev
