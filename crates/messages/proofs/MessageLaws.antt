-- Messages and links. A message by its kind: a heartbeat is judged by its stamp, a copy by its record, and no other kind is fit.
-- Assumes nothing.
use Prim.Native.Nat.{ℕ, ◌+◌, ◌-◌, ◌≤◌, ◌<◌}
use native.Mathlib.Omega.{arith}
use mathlib.Core.Path.{◌≡◌, refl, sym, ◌∙◌, ap, ap₂, subst}
use mathlib.Core.List.{List}
use mathlib.Core.Bool.{Bool, true, false, ◌&&◌, ◌||◌, or-false}
use lib.Dec.{leb, ltb, eqb, lit≤}
use lib.ListN.{get_or}
use borrow.Author.Tests.{leb-true, ltb-true, eq-eqb, ne_eqb}
use Rattle.loops.specs.Loops.{every}
use Rattle.order.specs.Record.{bearing_of, origin_of}
use Rattle.loops.proofs.BoolLaws.{and_left, and_right, and_next, and_stop, or_next}
use Rattle.loops.proofs.LoopLaws.{every_at}
use Rattle.book.proofs.WordsLaws.{part_at}
use Rattle.book.specs.declared.parts.Counts.{Counts}
use Rattle.book.specs.Layout.{end, copy_kind, beat_kind, kind_of, beat_of, record_of, link_room, slot_at, held, taken, slot}
use Rattle.fit.specs.Fit.{version_fit, carried_fit, copy_fit, beat_fit, message_fit, head_fit, messages_fit, link_fit}

pub and_flat : (a b c : Bool) → a && b && c ≡ a && (b && c)
and_flat true b c = refl
and_flat false b c = refl

module _ (n : Counts) (s from : ℕ) (m : List ℕ) where
  no_copy : (kind_of m ≡ copy_kind → ⊥) → copy_fit n s from m ≡ false
  unfolding copy_fit
  no_copy h = and_stop _ (ne_eqb _ _ h)

  no_beat : (kind_of m ≡ beat_kind → ⊥) → beat_fit m ≡ false
  unfolding beat_fit
  no_beat h = and_stop _ (ne_eqb _ _ h)

  pub message_beat : kind_of m ≡ beat_kind → leb (beat_of m) end ≡ message_fit n s from m
  unfolding message_fit beat_fit
  message_beat h = sym (ap₂ (λ (a b : Bool). a || b) (and_next (leb (beat_of m) end) (eq-eqb (kind_of m) beat_kind h)) (no_copy (λ e. omega arith)) ∙ or-false _)

  pub message_none : (kind_of m ≡ beat_kind → ⊥) → (kind_of m ≡ copy_kind → ⊥) → false ≡ message_fit n s from m
  unfolding message_fit
  message_none p q = sym (or_next _ (no_beat p) ∙ no_copy q)

  pub message_copy : kind_of m ≡ copy_kind → carried_fit n s from (record_of m) ≡ message_fit n s from m
  unfolding message_fit copy_fit
  message_copy h = sym (or_next _ (no_beat (λ e. omega arith)) ∙ and_next _ (eq-eqb (kind_of m) copy_kind h))

-- the head of a link, by its two numbers
pub head_said : (l : List ℕ) (q : ℕ) {h t : ℕ} → h ≡ held l q → t ≡ taken l q → head_fit l q ≡ leb h link_room && leb t h
unfolding head_fit
head_said l q p r = rw (p, r)

-- a link, by the two numbers of its head
pub link_heads :
    (n : Counts) (l : List ℕ) (s from q : ℕ) {h t : ℕ} → h ≡ held l q → t ≡ taken l q →
    link_fit n l s from q ≡ leb h link_room && (leb t h && messages_fit n l s from q t h)
unfolding link_fit head_fit
link_heads n l s from q {h} {t} p r = rw (p, r) (and_flat (leb (held l q) link_room) _ _)

-- where it holds none, none has to be fit
pub link_empty : (n : Counts) (l : List ℕ) (s from q : ℕ) {h t : ℕ} → h ≡ 0 → t ≤ h → messages_fit n l s from q t h ≡ true
unfolding messages_fit every
link_empty n l s from q {h} {t} e k =
    let z : t ≡ 0 = omega arith in
    subst (λ (x : ℕ). messages_fit n l s from q t x ≡ true) (sym e) (subst (λ (x : ℕ). messages_fit n l s from q x 0 ≡ true) (sym z) refl)

-- where all are taken, none waits
pub none_wait : (p : ℕ → Bool) {h t : ℕ} → t ≡ h → every (h - t) p ≡ true
unfolding every
none_wait p {h} {t} e = let z : h - t ≡ 0 = omega arith in subst (λ (x : ℕ). every x p ≡ true) (sym z) refl

-- the bearing of the copy in a slot, where it stands
pub bearing_there : (l : List ℕ) (q i : ℕ) {at : ℕ} → at ≡ slot_at q i → get_or l (at + 1) 0 ≡ bearing_of (record_of (slot l q i))
bearing_there l q i {at} e = ap (λ (a : ℕ). get_or l (a + 1) 0) e ∙ sym (part_at (slot l q i) 1 9 0 (lit≤ tt) ∙ part_at l (slot_at q i) 10 1 (lit≤ tt))

-- the bearing of a taken copy of a fit link
pub messages_bearings :
    (n : Counts) (l : List ℕ) (s from q t h : ℕ) → messages_fit n l s from q t h ≡ true → (i : ℕ) → i < t → bearing_of (record_of (slot l q i)) < n.bearings
unfolding messages_fit copy_fit carried_fit
messages_bearings n l s from q t h e i k =
    let m = slot l q i in
    let a = every_at t _ (and_left _ _ e) i k in
    let b = and_right (version_fit n (record_of m)) _ (and_right (eqb (kind_of m) copy_kind) _ a) in
    ltb-true _ _ (and_left (ltb (bearing_of (record_of m)) n.bearings) _ (and_right (eqb (origin_of (record_of m)) from) _ b))

pub link_bearings : (n : Counts) (l : List ℕ) (s from q : ℕ) → link_fit n l s from q ≡ true → (i : ℕ) → i < taken l q → bearing_of (record_of (slot l q i)) < n.bearings
unfolding link_fit
link_bearings n l s from q h = messages_bearings n l s from q (taken l q) (held l q) (and_right (head_fit l q) _ h)

-- and its head
pub link_head : (n : Counts) (l : List ℕ) (s from q : ℕ) → link_fit n l s from q ≡ true → (held l q ≤ link_room) × (taken l q ≤ held l q)
unfolding link_fit head_fit
link_head n l s from q h =
    let a = and_left (head_fit l q) _ h in
    (leb-true _ _ (and_left (leb (held l q) link_room) _ a), leb-true _ _ (and_right (leb (held l q) link_room) _ a))
