-- What taking makes of a link: the first untaken message is gone from the untaken, and a copy stands last of the taken.
-- Assumes nothing.
use Prim.Native.Nat.{ℕ, suc, ◌+◌, ◌-◌, ◌≤◌, ◌<◌}
use native.Mathlib.Nat.{zero-add}
use native.Mathlib.Omega.{arith}
use mathlib.Core.Path.{◌≡◌, sym, ◌∙◌, ap, ap₂}
use mathlib.Core.List.{List, [], ◌∷◌, ◌++◌}
use mathlib.Core.Bool.{Bool, true, false}
use lib.Dec.{eqb}
use lib.ListN.{length, get_or, set, length-set}
use lib.Seq.{get_or-set_same, get_or-set_other}
use Rattle.loops.specs.Loops.{pick}
use Rattle.book.specs.Layout.{beat_kind, seen_at, slot_at, held_at, taken_at, stored_at, link_of, slot, held, taken, stored, kind_of}
use Rattle.shelf.specs.Show.{closed_up}
use Rattle.links.specs.Send.{stamp_from, moved_on, took}
use Rattle.shelf.proofs.FrameLaws.{part_off, length_closed_up, closed_up_off}
use Rattle.links.proofs.SendFrame.{moved_on_off, length_took, took_off}
use Rattle.shelf.proofs.SlotLaws.{slots, slots_off, slots_first, slots_more, closed_up_first, closed_up_rest}
use Rattle.shelf.proofs.ShowLaws.{taken_slots, untaken_slots}

-- link q after its slot t of h, the first untaken one, was taken: in the book l it was the message m
pub record TookOne (q h t : ℕ) (m l v : List ℕ) : Type 0 where
  pub head : held v q ≡ pick (eqb (kind_of m) beat_kind) (h - 1) h
  pub first : taken v q ≡ pick (eqb (kind_of m) beat_kind) t (t + 1)
  pub copies : taken_slots v q ≡ pick (eqb (kind_of m) beat_kind) (slots l q 0 t) (slots l q 0 t ++ (slot l q t ∷ []))
  pub waiting : untaken_slots v q ≡ slots l q (t + 1) (h - (t + 1))

-- the same by what the test of the kind says
record Chosen (b : Bool) (q h t : ℕ) (l v : List ℕ) : Type 0 where
  head : held v q ≡ pick b (h - 1) h
  first : taken v q ≡ pick b t (t + 1)
  copies : taken_slots v q ≡ pick b (slots l q 0 t) (slots l q 0 t ++ (slot l q t ∷ []))
  waiting : untaken_slots v q ≡ slots l q (t + 1) (h - (t + 1))

chosen :
    (b : Bool) (q h t : ℕ) (l : List ℕ) → q < 64 → h ≤ 16 → t < h → held l q ≡ h → taken l q ≡ t → length l ≡ 16384 →
    Chosen b q h t l (pick b (set (closed_up q t 1 h l) (held_at q) (h - 1)) (set l (taken_at q) (t + 1)))
unfolding pick taken_slots untaken_slots
chosen true q h t l hq room k eh et full =
    record {
      head = head;
      first = first;
      copies = ap (slots v q 0) first ∙ slotted 0 t ∙ closed_up_first q t 1 h l (omega arith) (rw full (omega arith));
      waiting = ap₂ (λ (a b : ℕ). slots v q a (b - a)) first head
          ∙ slotted t (h - 1 - t)
          ∙ ap (slots (closed_up q t 1 h l) q t) (omega arith)
          ∙ closed_up_rest q t 1 h l (omega arith) (rw full (omega arith));
    }
  where
    v : List ℕ
    v = set (closed_up q t 1 h l) (held_at q) (h - 1)

    head : held v q ≡ h - 1
    head = get_or-set_same (closed_up q t 1 h l) (held_at q) (h - 1) 0 (rw (length_closed_up, full) (omega arith))

    first : taken v q ≡ t
    first = get_or-set_other (closed_up q t 1 h l) (held_at q) (taken_at q) (h - 1) 0 (omega arith) ∙ closed_up_off q t 1 h l (taken_at q) (omega arith) (omega arith) ∙ et

    slotted : (a n : ℕ) → slots v q a n ≡ slots (closed_up q t 1 h l) q a n
    slotted a n = slots_off (closed_up q t 1 h l) v q a n (length-set (closed_up q t 1 h l) _ _) λ j x y. get_or-set_other (closed_up q t 1 h l) (held_at q) j (h - 1) 0 (omega arith)
chosen false q h t l hq room k eh et full =
    record {
      head = head;
      first = first;
      copies = ap (slots v q 0) first ∙ slotted 0 (t + 1) ∙ slots_more l q 0 t ∙ ap (λ (i : ℕ). slots l q 0 t ++ (slot l q i ∷ [])) (zero-add t);
      waiting = ap₂ (λ (a b : ℕ). slots v q a (b - a)) first head ∙ slotted (t + 1) (h - (t + 1));
    }
  where
    v : List ℕ
    v = set l (taken_at q) (t + 1)

    head : held v q ≡ h
    head = get_or-set_other l (taken_at q) (held_at q) (t + 1) 0 (omega arith) ∙ eh

    first : taken v q ≡ t + 1
    first = get_or-set_same l (taken_at q) (t + 1) 0 (rw full (omega arith))

    slotted : (a n : ℕ) → slots v q a n ≡ slots l q a n
    slotted a n = slots_off l v q a n (length-set l _ _) λ j x y. get_or-set_other l (taken_at q) j (t + 1) 0 (omega arith)

pub moved_on_one :
    (q h t : ℕ) (m l : List ℕ) → q < 64 → h ≤ 16 → t < h → held l q ≡ h → taken l q ≡ t → length l ≡ 16384 → TookOne q h t m l (moved_on q h t m l)
unfolding moved_on
moved_on_one q h t m l hq room k eh et full =
    let c = chosen (eqb (kind_of m) beat_kind) q h t l hq room k eh et full in record { head = c.head; first = c.first; copies = c.copies; waiting = c.waiting }

-- ---- a take

module _ (d s from : ℕ) (l : List ℕ) (hd : d < 4) (hs : s < 4) (hf : from < 4) (full : length l ≡ 16384) where
  abbrev q : ℕ
  q = link_of s from d

  module _ (room : held l (link_of s from d) ≤ 16) (k : taken l (link_of s from d) < held l (link_of s from d)) where
    -- the message that is taken
    abbrev pub next_of : List ℕ
    next_of = slot l (link_of s from d) (taken l (link_of s from d))

    seen_set : (v : ℕ) (j : ℕ) → 228 ≤ j → get_or (set l (seen_at d s + from) v) j 0 ≡ get_or l j 0
    seen_set v j h = get_or-set_other l (seen_at d s + from) j v 0 (omega arith)

    seen_slots : (v a n : ℕ) → slots (set l (seen_at d s + from) v) q a n ≡ slots l q a n
    seen_slots v a n = slots_off l _ q a n (length-set l _ v) λ j x y. seen_set v j (omega arith)

    took_one : TookOne q (held l q) (taken l q) next_of (set l (seen_at d s + from) (stamp_from from next_of)) (took d s from l)
    unfolding took
    took_one = moved_on_one q (held l q) (taken l q) next_of _ (omega arith) room k (seen_set _ (held_at q) (omega arith)) (seen_set _ (taken_at q) (omega arith)) (length-set l _ _ ∙ full)

    pub took_head : held (took d s from l) (link_of s from d) ≡ pick (eqb (kind_of next_of) beat_kind) (held l (link_of s from d) - 1) (held l (link_of s from d))
    took_head = took_one.head

    pub took_first : taken (took d s from l) (link_of s from d) ≡ pick (eqb (kind_of next_of) beat_kind) (taken l (link_of s from d)) (taken l (link_of s from d) + 1)
    took_first = took_one.first

    pub took_copies :
        taken_slots (took d s from l) (link_of s from d)
        ≡ pick (eqb (kind_of next_of) beat_kind) (taken_slots l (link_of s from d)) (taken_slots l (link_of s from d) ++ (next_of ∷ []))
    unfolding taken_slots
    took_copies =
        (unfold taken_slots in took_one.copies)
        ∙ ap₂ (λ (x : List (List ℕ)) (y : List ℕ). pick (eqb (kind_of next_of) beat_kind) x (x ++ (y ∷ []))) (seen_slots _ 0 (taken l q))
        (part_off _ l (slot_at q (taken l q)) 10 (length-set l _ _) λ j x y. seen_set _ j (omega arith))

    pub took_waiting : untaken_slots l (link_of s from d) ≡ next_of ∷ untaken_slots (took d s from l) (link_of s from d)
    unfolding untaken_slots
    took_waiting =
        ap (slots l q (taken l q)) rest
        ∙ slots_first l q (taken l q) (held l q - (taken l q + 1))
        ∙ ap (λ (x : List (List ℕ)). next_of ∷ x) (sym ((unfold untaken_slots in took_one.waiting) ∙ seen_slots _ (taken l q + 1) (held l q - (taken l q + 1))))
      where
        rest : held l q - taken l q ≡ suc (held l q - (taken l q + 1))
        rest = omega arith

    -- the stamp seen
    pub took_seen : get_or (took d s from l) (seen_at d s + from) 0 ≡ stamp_from from next_of
    unfolding took
    took_seen = moved_on_off q _ _ _ (set l (seen_at d s + from) _) (seen_at d s + from) k (omega arith) (omega arith) ∙ get_or-set_same l (seen_at d s + from) _ 0 (rw full (omega arith))

    pub took_stored : (e b : ℕ) → stored (took d s from l) e b ≡ stored l e b
    took_stored e b = part_off _ l (stored_at e b) 9 (length_took d s from l) λ j x y. took_off d s from l j k (omega arith) (omega arith) (omega arith)
