-- Showing one link is local: of the store it reads and writes the versions of the bearings of the link's taken copies.
-- Assumes nothing.
use Prim.Native.Nat.{ℕ, zero, suc, ◌+◌, ◌*◌, ◌-◌, ◌≤◌, ◌<◌}
use native.Mathlib.Nat.{le_refl, le_step}
use native.Mathlib.Omega.{arith}
use mathlib.Core.Path.{◌≡◌, refl, ◌∙◌, ap, subst, subst₂}
use mathlib.Core.List.{List}
use lib.ListN.{length, get_or}
use Rattle.loops.specs.Loops.{times}
use Rattle.order.specs.Record.{bearing_of, vector_of}
use Rattle.order.proofs.VectorLaws.{covered_same}
use Rattle.book.specs.Layout.{stable_at, stored_at, link_of, held_at, taken_at, slot_at, held, taken, slot, record_of}
use Rattle.shelf.specs.Show.{kept_in, Sweep, sweep_one, swept, closed_up, with_head, swept_up, shown_link}
use Rattle.shelf.proofs.FrameLaws.{part_off, swept_kept, swept_later, swept_off, swept_up_off}
use Rattle.upkeep.specs.Local.{Agree, In}
use Rattle.upkeep.proofs.LocalBasics.{pick_alike, put_agrees, part_agrees}
use Rattle.upkeep.proofs.LocalMoves.{kept_in_agrees, closed_up_agrees, with_head_agrees}

-- every place but j
abbrev pub But : ℕ → ℕ → Type 0
But j i = i ≡ j → ⊥

-- the set holds what showing link q into depot d touches in the book v
pub record Holds (S : ℕ → Type 0) (d q : ℕ) (v : List ℕ) : Type 0 where
  pub room : held v q ≤ 16
  pub first : taken v q ≤ held v q
  pub heads : (j : ℕ) → In (held_at q) 2 j → S j
  pub slots : (j : ℕ) → In (slot_at q 0) (10 * held v q) j → S j
  pub places : (i : ℕ) → i < taken v q → (j : ℕ) → In (stored_at d (bearing_of (record_of (slot v q i)))) 9 j → S j

-- and in a book that has the same words there
pub holds_same :
    (S : ℕ → Type 0) (d q : ℕ) (l v : List ℕ) → length v ≡ length l → ((j : ℕ) → slot_at q 0 ≤ j → j < slot_at q 16 → get_or v j 0 ≡ get_or l j 0) →
    ((j : ℕ) → held_at q ≤ j → j ≤ taken_at q → get_or v j 0 ≡ get_or l j 0) → Holds S d q l → Holds S d q v
holds_same S d q l v size slots heads h =
    let e : held v q ≡ held l q = heads (held_at q) (omega arith) (omega arith) in
    let f : taken v q ≡ taken l q = heads (taken_at q) (omega arith) (omega arith) in
    let a = h.room in
    let b = h.first in
    record {
      room = omega arith;
      first = omega arith;
      heads = h.heads;
      slots = λ j i. let x = i.0 in let y = i.1 in h.slots j (omega arith, omega arith);
      places = λ i k j x.
          h.places i (omega arith) j
          (subst (λ (m : List ℕ). In (stored_at d (bearing_of (record_of m))) 9 j)
          (part_off v l (slot_at q i) 10 size (λ z p r. slots z (omega arith) (omega arith))) x);
    }

-- ---- one sweep

-- two sweeps on the way: books that agree, and as many copies kept
record Abreast (S : ℕ → Type 0) (v w : Sweep) : Type 0 where
  book : Agree S v.words w.words
  count : v.kept ≡ w.kept

module _ (S : ℕ → Type 0) (n d s q : ℕ) (stables : (x : ℕ) → x < n → S (stable_at d s + x)) where
  sweep_one_agrees :
      (i : ℕ) (v w : Sweep) → ((j : ℕ) → In (slot_at q i) 10 j → S j) → ((j : ℕ) → In (stored_at d (bearing_of (record_of (slot v.words q i)))) 9 j → S j) →
      Abreast S v w → Abreast S (sweep_one n d s q i v) (sweep_one n d s q i w)
  unfolding sweep_one
  sweep_one_agrees i v w here place A =
      let B = A.book in
      let e : slot v.words q i ≡ slot w.words q i = part_agrees S v.words w.words 10 refl here B in
      pick_alike (Abreast S)
      (covered_same n d _ _ _ _ (λ x k. ap (λ (z : List ℕ). vector_of (record_of z) x) e) (λ x k. B.words (stable_at d s + x) (stables x k)))
      (λ c.
      record {
        book =
            subst (λ (z : List ℕ). Agree S (kept_in n d (record_of (slot v.words q i)) v.words) (kept_in n d (record_of z) w.words)) e
            (kept_in_agrees S n d (record_of (slot v.words q i)) v.words w.words place B);
        count = A.count;
      })
      λ c. record { book = put_agrees S v.words w.words (ap (slot_at q) A.count) e B; count = ap (λ (k : ℕ). k + 1) A.count }

  swept_agrees :
      (v w : List ℕ) (t : ℕ) → q < 64 → t ≤ 16 → ((i : ℕ) → i < t → (j : ℕ) → In (slot_at q i) 10 j → S j) →
      ((i : ℕ) → i < t → (j : ℕ) → In (stored_at d (bearing_of (record_of (slot v q i)))) 9 j → S j) → Agree S v w →
      Abreast S (swept n d s q t v) (swept n d s q t w)
  unfolding swept times
  swept_agrees v w zero hq ht here place A = record { book = A; count = refl }
  swept_agrees v w (suc t) hq ht here place A =
      sweep_one_agrees t (swept n d s q t v) (swept n d s q t w) (here t (le_refl _))
      (λ j i.
      place t (le_refl _) j
      (subst (λ (m : List ℕ). In (stored_at d (bearing_of (record_of m))) 9 j) (swept_later n d s q v t t hq (omega arith) (le_refl _)) i))
      (swept_agrees v w t hq (omega arith) (λ i k. here i (le_step k)) (λ i k. place i (le_step k)) A)

  swept_up_agrees :
      (h t : ℕ) (v w : Sweep) → v.kept ≤ t → t ≤ h → ((j : ℕ) → In (slot_at q 0) (10 * h) j → S j) → Abreast S v w →
      Agree S (swept_up q h t v) (swept_up q h t w)
  unfolding swept_up
  swept_up_agrees h t v w a b here A =
      let k = v.kept in
      subst
      (λ (z : ℕ). Agree S (with_head q (h - (t - k)) k (closed_up q k (t - k) h v.words)) (with_head q (h - (t - z)) z (closed_up q z (t - z) h w.words)))
      A.count
      (with_head_agrees S q (h - (t - k)) k _ _
      (closed_up_agrees S q k (t - k) h v.words w.words (λ j i. let x = i.0 in let y = i.1 in here j (omega arith, omega arith)) A.book))

-- ---- one link

module _ (S : ℕ → Type 0) (n d s from : ℕ) (stables : (x : ℕ) → x < n → S (stable_at d s + x)) where
  pub shown_link_agrees :
      (v w : List ℕ) → link_of s from d < 64 → Holds S d (link_of s from d) v → Agree S v w → Agree S (shown_link n d s from v) (shown_link n d s from w)
  unfolding shown_link
  shown_link_agrees v w hq h A =
      let q = link_of s from d in
      let a = h.room in
      let b = h.first in
      let k = swept_kept n d s q v (taken v q) in
      subst₂ (λ (y z : ℕ). Agree S (swept_up q (held v q) (taken v q) (swept n d s q (taken v q) v)) (swept_up q y z (swept n d s q z w)))
      (A.words (held_at q) (h.heads _ (omega arith, omega arith))) (A.words (taken_at q) (h.heads _ (omega arith, omega arith)))
      (swept_up_agrees S n d s q stables (held v q) (taken v q) (swept n d s q (taken v q) v) (swept n d s q (taken v q) w) k b h.slots
      (swept_agrees S n d s q stables v w (taken v q) hq (omega arith)
      (λ i z j x. let p = x.0 in let r = x.1 in h.slots j (omega arith, omega arith)) h.places A))

-- a word that showing the link does not touch stays
pub shown_link_stays :
    (n d s from : ℕ) (v : List ℕ) (j : ℕ) → link_of s from d < 64 → Holds (But j) d (link_of s from d) v →
    get_or (shown_link n d s from v) j 0 ≡ get_or v j 0
unfolding shown_link
shown_link_stays n d s from v j hq h =
    let q = link_of s from d in
    let a = h.room in
    let b = h.first in
    let k = swept_kept n d s q v (taken v q) in
    swept_up_off q _ _ (swept n d s q _ v) j k b (λ x y. h.slots j (omega arith, omega arith) refl) (λ x y. h.heads j (x, y) refl)
    ∙ swept_off n d s q v _ j hq (omega arith) (λ x y. h.slots j (omega arith, omega arith) refl) λ i z x y. h.places i z j (x, y) refl
