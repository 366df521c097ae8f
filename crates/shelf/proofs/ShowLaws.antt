-- What showing makes of a link and of the records: of the taken copies those that are not covered stay, the untaken messages all stay, and the
-- covered ones are shown in order.
-- Assumes nothing.
use Prim.Native.Nat.{ℕ, ◌+◌, ◌-◌, ◌≤◌, ◌<◌}
use native.Mathlib.Omega.{arith}
use mathlib.Core.Path.{◌≡◌, sym, ◌∙◌, ap, ap₂}
use mathlib.Core.List.{List}
use lib.ListN.{length}
use Rattle.book.specs.Layout.{stored_at, taken_at, link_of, held, taken, stored}
use Rattle.shelf.specs.Show.{Sweep, swept, closed_up, swept_up, shown_link}
use Rattle.shelf.proofs.FrameLaws.{part_off, length_swept, swept_kept, swept_later, length_closed_up, length_with_head, with_head_off, held_with_head, taken_with_head}
use Rattle.shelf.proofs.FrameLaws.{length_swept_up, swept_up_off}
use Rattle.shelf.proofs.ShowFrame.{Sound}
use Rattle.shelf.proofs.SlotLaws.{slots, slots_off, slots_same, length_slots, closed_up_first, closed_up_rest}
use Rattle.shelf.proofs.SweepLaws.{staying, records_shown, clear_at, Placed, swept_slots, swept_stored}

-- the taken copies of link q, oldest first, and the untaken messages behind them
unfoldable pub taken_slots : List ℕ → ℕ → List (List ℕ)
taken_slots l q = slots l q 0 (taken l q)

unfoldable pub untaken_slots : List ℕ → ℕ → List (List ℕ)
untaken_slots l q = slots l q (taken l q) (held l q - taken l q)

-- ---- after a sweep

module _ (q h t : ℕ) (w : Sweep) (hq : q < 64) (room : h ≤ 16) (first : t ≤ h) (some : w.kept ≤ t) (full : length w.words ≡ 16384) where
  closed : List ℕ
  closed = closed_up q w.kept (t - w.kept) h w.words

  at_head : taken_at q < length closed
  unfolding closed
  at_head = rw (length_closed_up, full) (omega arith)

  pub taken_swept_up : taken (swept_up q h t w) q ≡ w.kept
  unfolding swept_up closed
  taken_swept_up = taken_with_head q _ w.kept closed at_head

  pub held_swept_up : held (swept_up q h t w) q ≡ h - (t - w.kept)
  unfolding swept_up closed
  held_swept_up = held_with_head q _ w.kept closed at_head

  headed : (a n : ℕ) → slots (swept_up q h t w) q a n ≡ slots closed q a n
  unfolding swept_up closed
  headed a n = slots_off closed _ q a n (length_with_head q _ _ closed) λ j x y. with_head_off q _ _ closed j (omega arith)

  pub taken_slots_swept_up : taken_slots (swept_up q h t w) q ≡ slots w.words q 0 w.kept
  unfolding taken_slots closed
  taken_slots_swept_up =
      ap (slots (swept_up q h t w) q 0) taken_swept_up
      ∙ headed 0 w.kept
      ∙ closed_up_first q w.kept (t - w.kept) h w.words (omega arith) (rw full (omega arith))

  pub untaken_slots_swept_up : untaken_slots (swept_up q h t w) q ≡ slots w.words q t (h - t)
  unfolding untaken_slots closed
  untaken_slots_swept_up =
      ap₂ (λ (a b : ℕ). slots (swept_up q h t w) q a (b - a)) taken_swept_up held_swept_up
      ∙ headed w.kept (h - (t - w.kept) - w.kept)
      ∙ ap (slots closed q w.kept) (omega arith)
      ∙ closed_up_rest q w.kept (t - w.kept) h w.words (omega arith) (rw full (omega arith))
      ∙ ap₂ (λ (a b : ℕ). slots w.words q a (h - b)) together together
    where
      together : w.kept + (t - w.kept) ≡ t
      together = omega arith

  pub stored_swept_up : (d k : ℕ) → stored (swept_up q h t w) d k ≡ stored w.words d k
  stored_swept_up d k = part_off _ w.words (stored_at d k) 9 (length_swept_up q h t w) λ j x y. swept_up_off q h t w j some first (omega arith) (omega arith)

-- ---- one link

module _ (n d s from : ℕ) (l : List ℕ) (P : Placed n d s (link_of s from d) l) (S : Sound l (link_of s from d)) where
  abbrev q : ℕ
  q = link_of s from d

  -- how many copies stay
  pub taken_shown_link : taken (shown_link n d s from l) (link_of s from d) ≡ length (staying (clear_at n d s l) (taken_slots l (link_of s from d)))
  unfolding shown_link taken_slots
  taken_shown_link =
      let a = S.room in
      let b = S.first in
      taken_swept_up q _ _ (swept n d s q (taken l q) l) P.link a b (swept_kept n d s q l (taken l q)) (length_swept n d s q l (taken l q) ∙ P.full)
      ∙ sym (ap (λ (x : List (List ℕ)). length x) (sym (swept_slots n d s q l P (taken l q) (omega arith))) ∙ length_slots _ q 0 _)

  pub taken_slots_shown_link : taken_slots (shown_link n d s from l) (link_of s from d) ≡ staying (clear_at n d s l) (taken_slots l (link_of s from d))
  unfolding shown_link
  taken_slots_shown_link =
      let a = S.room in
      let b = S.first in
      taken_slots_swept_up q _ _ (swept n d s q (taken l q) l) P.link a b (swept_kept n d s q l (taken l q)) (length_swept n d s q l (taken l q) ∙ P.full)
      ∙ (unfold taken_slots in swept_slots n d s q l P (taken l q) (omega arith))

  pub untaken_slots_shown_link : untaken_slots (shown_link n d s from l) (link_of s from d) ≡ untaken_slots l (link_of s from d)
  unfolding shown_link
  untaken_slots_shown_link =
      let a = S.room in
      let b = S.first in
      untaken_slots_swept_up q _ _ (swept n d s q (taken l q) l) P.link a b (swept_kept n d s q l (taken l q)) (length_swept n d s q l (taken l q) ∙ P.full)
      ∙ (unfold untaken_slots in slots_same _ l q q (taken l q) (taken l q) (held l q - taken l q) λ i k. swept_later n d s q l (taken l q) (taken l q + i) P.link (omega arith) (omega arith))

  -- the link is shorter by what was shown, and stays within its room
  pub held_shown_link : held (shown_link n d s from l) (link_of s from d) + taken l (link_of s from d) ≡ held l (link_of s from d) + taken (shown_link n d s from l) (link_of s from d)
  unfolding shown_link
  held_shown_link =
      let a = S.room in
      let b = S.first in
      let k = swept_kept n d s q l (taken l q) in
      let f = length_swept n d s q l (taken l q) ∙ P.full in
      let x = taken_swept_up q _ _ (swept n d s q (taken l q) l) P.link a b k f in
      let y = held_swept_up q _ _ (swept n d s q (taken l q) l) P.link a b k f in
      omega arith

  pub fewer_shown_link : taken (shown_link n d s from l) (link_of s from d) ≤ taken l (link_of s from d)
  unfolding shown_link
  fewer_shown_link =
      let k = swept_kept n d s q l (taken l q) in
      let x = taken_swept_up q _ _ (swept n d s q (taken l q) l) P.link S.room S.first k (length_swept n d s q l (taken l q) ∙ P.full) in
      omega arith

  pub stored_shown_link : (k : ℕ) → k < 160 → stored (shown_link n d s from l) d k ≡ records_shown n (clear_at n d s l) (taken_slots l (link_of s from d)) (stored l d) k
  unfolding shown_link
  stored_shown_link k z =
      let a = S.room in
      let b = S.first in
      stored_swept_up q _ _ (swept n d s q (taken l q) l) P.link a b (swept_kept n d s q l (taken l q)) (length_swept n d s q l (taken l q) ∙ P.full) d k
      ∙ (unfold taken_slots in swept_stored n d s q l P (taken l q) (omega arith) S.bearings k z)
