-- What the code of this crate does step by step, put together to the word functions of specs/. Only this crate sees it.
-- Assumes nothing.
use Prim.Native.Nat.{ℕ, ◌+◌, ◌*◌, ◌-◌, ◌≤◌, ◌<◌}
use native.Mathlib.Nat.{add-zero, le_refl}
use native.Mathlib.Numerals.{add-one}
use native.Mathlib.Omega.{arith}
use mathlib.Core.Path.{◌≡◌, refl, sym, ◌∙◌, ap, ap₂, subst}
use mathlib.Core.List.{List}
use mathlib.Core.Bool.{Bool, true, false}
use lib.Dec.{lit≤}
use lib.ListN.{length, get_or, set, take, drop, replicate}
use lib.Seq.{get_or-take, get_or-drop}
use Rattle.loops.specs.Loops.{times}
use Rattle.order.specs.Order.{above}
use Rattle.order.specs.Vector.{Vec, vector_in, covered}
use Rattle.order.proofs.VectorLaws.{covered_same}
use Rattle.order.specs.Record.{record_words, bearing_of, vector_of, rank_of}
use Rattle.loops.proofs.BoolLaws.{pick_true, pick_false}
use Rattle.book.specs.Words.{part, put}
use Rattle.book.specs.Layout.{slot_record, slot_vector, slot_at, stored_at, stable_at, held_at, taken_at, link_of, stored, stable, slot, held, taken, record_of}
use Rattle.book.proofs.WordsLaws.{put_itself, part_from, part_at, part_part}
use Rattle.shelf.specs.Asks.{Sound, Ready}
use Rattle.shelf.specs.Show.{Sweep, kept_in, closed_up, with_head, sweep_one, swept, swept_up, shown_link}
use Rattle.shelf.proofs.FrameLaws.{swept_kept, swept_later}
use Rattle.shelf.proofs.ShowFrame.{show_turn, show_turns_sound}

-- the messages behind move down, then the free slots are cleared
pub close_done :
    (q j g h : ℕ) (l : List ℕ) {a b e : ℕ} {m r : List ℕ} → a ≡ slot_at q (j + g) → b ≡ slot_at q j → m ≡ put l b (part l a (10 * (h - (j + g)))) →
    e ≡ slot_at q (h - g) → r ≡ put m e (replicate (10 * g) 0) → r ≡ closed_up q j g h l
unfolding closed_up
close_done q j g h l pa pb pm pe pr =
    pr
    ∙ ap₂ (λ (w : List ℕ) (i : ℕ). put w i (replicate (10 * g) 0)) (pm ∙ ap₂ (λ (x y : ℕ). put l x (part l y (10 * (h - (j + g))))) pb pa) pe

-- where none is gone, nothing moves
pub close_none : (q j h : ℕ) (l : List ℕ) {g : ℕ} → g ≡ 0 → slot_at q j + 10 * (h - j) ≤ length l → l ≡ closed_up q j g h l
unfolding closed_up put replicate
close_none q j h l e room =
    sym
    (ap (λ (g : ℕ). closed_up q j g h l) e
    ∙ ap (λ (i : ℕ). put l (slot_at q j) (part l (slot_at q i) (10 * (h - i)))) (add-zero j)
    ∙ put_itself l (slot_at q j) (10 * (h - j)) room)

-- the comparison of two parts that are lent
pub compare_lent :
    (n d k : ℕ) (l : List ℕ) (at : ℕ) {to : ℕ} {r : Bool} → to ≡ stored_at d k → bearing_of (part l at 9) ≡ k →
    r ≡ above n (rank_of (take (at + 9 - at) (drop at l))) (rank_of (take (to + 9 - to) (drop to l))) →
    above n (rank_of (part l at 9)) (rank_of (stored l d (bearing_of (part l at 9)))) ≡ r
compare_lent n d k l at {to} e b q =
    sym
    (q
    ∙ ap₂ (λ (x y : List ℕ). above n (rank_of x) (rank_of y)) (part_from l 9 {at = at} refl) (part_from l 9 {at = to} e)
    ∙ ap (λ (i : ℕ). above n (rank_of (part l at 9)) (rank_of (stored l d i))) (sym b))

pub keep_greater :
    (n d k : ℕ) (l r : List ℕ) {to : ℕ} {b : Bool} {m : List ℕ} → above n (rank_of r) (rank_of (stored l d (bearing_of r))) ≡ b → b ≡ true →
    to ≡ stored_at d k → bearing_of r ≡ k → m ≡ put l to r → m ≡ kept_in n d r l
unfolding kept_in
keep_greater n d k l r c t e b p = p ∙ ap (λ (i : ℕ). put l i r) (e ∙ ap (stored_at d) (sym b)) ∙ sym (pick_true _ _ (c ∙ t))

pub keep_stays : (n d : ℕ) (l r : List ℕ) {b : Bool} → above n (rank_of r) (rank_of (stored l d (bearing_of r))) ≡ b → b ≡ false → l ≡ kept_in n d r l
unfolding kept_in
keep_stays n d l r c t = sym (pick_false _ _ (c ∙ t))

-- ---- the sweep of a link's taken copies

-- a copy's vector and the stable vector, as the parts that are lent
pub covered_lent :
    (n d s q i : ℕ) (l : List ℕ) {at to : ℕ} {own : ℕ} {r : Bool} → n ≤ 4 → at ≡ slot_at q i → to ≡ stable_at d s → own ≡ d →
    r ≡ covered n own (vector_in (take (at + 10 - (at + slot_vector)) (drop (at + slot_vector) l))) (vector_in (take (to + 4 - to) (drop to l))) →
    covered n d (vector_of (record_of (slot l q i))) (stable l d s) ≡ r
covered_lent n d s q i l {at} {to} h a t o e =
    sym (e ∙ ap (λ (x : ℕ). covered n x copied stands) o ∙ covered_same n d copied stands (vector_of (record_of (slot l q i))) (stable l d s) first second)
  where
    copied : Vec
    copied = vector_in (take (at + 10 - (at + slot_vector)) (drop (at + slot_vector) l))

    stands : Vec
    stands = vector_in (take (to + 4 - to) (drop to l))

    in_slot : (x : ℕ) → x < 4 → vector_of (record_of (slot l q i)) x ≡ get_or l (slot_at q i + (1 + (5 + x))) 0
    in_slot x k = part_at (slot l q i) 1 9 (5 + x) (omega arith) ∙ part_at l (slot_at q i) 10 (1 + (5 + x)) (omega arith)

    first : (x : ℕ) → x < n → copied x ≡ vector_of (record_of (slot l q i)) x
    first x k =
        let place : at + slot_vector + x ≡ slot_at q i + (1 + (5 + x)) = omega arith in
        get_or-take (at + 10 - (at + slot_vector)) (drop (at + slot_vector) l) x 0 (omega arith)
        ∙ get_or-drop (at + slot_vector) l x 0
        ∙ ap (λ (y : ℕ). get_or l y 0) place
        ∙ sym (in_slot x (omega arith))

    second : (x : ℕ) → x < n → stands x ≡ stable l d s x
    second x k = get_or-take (to + 4 - to) (drop to l) x 0 (omega arith) ∙ get_or-drop to l x 0 ∙ ap (λ (y : ℕ). get_or l (y + x) 0) t

-- a copy's record stands one word behind its kind
pub record_place : (q i : ℕ) (l : List ℕ) {at : ℕ} → at ≡ slot_at q i → part l (at + slot_record) record_words ≡ record_of (slot l q i)
record_place q i l {at} e = ap (λ (a : ℕ). part l (a + slot_record) record_words) e ∙ sym (part_part l (slot_at q i) 10 1 9 (lit≤ tt))

pub bearing_place : (q i : ℕ) (l : List ℕ) {at : ℕ} → at ≡ slot_at q i → get_or l (at + slot_record) 0 ≡ bearing_of (record_of (slot l q i))
bearing_place q i l {at} e =
    ap (λ (x : ℕ). get_or l x 0) (sym (add-zero (at + slot_record))) ∙ sym (part_at l (at + slot_record) record_words 0 (lit≤ tt)) ∙ ap bearing_of (record_place q i l e)

pub sweep_shown :
    (n d s q i kept : ℕ) (l : List ℕ) {b : Bool} {m : List ℕ} → covered n d (vector_of (record_of (slot l q i))) (stable l d s) ≡ b → b ≡ true →
    m ≡ kept_in n d (record_of (slot l q i)) l → sweep_one n d s q i (record { words = l; kept = kept }) ≡ record { words = m; kept = kept }
unfolding sweep_one
sweep_shown n d s q i kept l c t p = pick_true _ _ (c ∙ t) ∙ (λ z. record { words = sym p z; kept = kept })

pub sweep_moved :
    (n d s q i kept : ℕ) (l : List ℕ) {b : Bool} {m : List ℕ} → covered n d (vector_of (record_of (slot l q i))) (stable l d s) ≡ b → b ≡ false →
    m ≡ put l (slot_at q kept) (slot l q i) → sweep_one n d s q i (record { words = l; kept = kept }) ≡ record { words = m; kept = kept + 1 }
unfolding sweep_one
sweep_moved n d s q i kept l c t p = pick_false _ _ (c ∙ t) ∙ (λ z. record { words = sym p z; kept = kept + 1 })

pub sweep_none : (n d s q : ℕ) (l : List ℕ) → swept n d s q 0 l ≡ record { words = l; kept = 0 }
unfolding swept times
sweep_none n d s q l = refl

pub sweep_more :
    (n d s q i : ℕ) (l : List ℕ) {w v : Sweep} → swept n d s q i l ≡ w → sweep_one n d s q i w ≡ v → swept n d s q (i + 1) l ≡ v
unfolding swept times
sweep_more n d s q i l p o = ap (λ (x : ℕ). times x (sweep_one n d s q) (record { words = l; kept = 0 })) (add-one i) ∙ ap (sweep_one n d s q i) p ∙ o

-- what is known before the turn of slot i
pub sweep_kept : (n d s q i : ℕ) (l m : List ℕ) (k : ℕ) → swept n d s q i l ≡ record { words = m; kept = k } → k ≤ i
sweep_kept n d s q i l m k e = subst (λ (w : Sweep). w.kept ≤ i) e (swept_kept n d s q l i)

pub sweep_bearing :
    (n d s q i : ℕ) (l m : List ℕ) (k : ℕ) → swept n d s q i l ≡ record { words = m; kept = k } → q < 64 → i < 16 → bearing_of (record_of (slot l q i)) < 160 →
    bearing_of (record_of (slot m q i)) < 160
sweep_bearing n d s q i l m k e hq hi b =
    subst (λ (w : Sweep). bearing_of (record_of (slot w.words q i)) < 160) e
    (subst (λ (v : List ℕ). bearing_of (record_of v) < 160) (sym (swept_later n d s q l i i hq hi (le_refl _))) b)

-- ---- a link, and all the links of a shelf

pub link_done :
    (n d s from : ℕ) (l : List ℕ) {q h t k w₁ w₂ : ℕ} {m₁ m₂ m₃ : List ℕ} → q ≡ link_of s from d → h ≡ held l q → t ≡ taken l q →
    swept n d s q t l ≡ record { words = m₁; kept = k } → m₂ ≡ closed_up q k (t - k) h m₁ → w₁ ≡ h - (t - k) → w₂ ≡ k →
    m₃ ≡ set (set m₂ (held_at q) w₁) (taken_at q) w₂ → m₃ ≡ shown_link n d s from l
unfolding shown_link swept_up with_head
link_done n d s from l {q} {h} {t} {k} {w₁} {w₂} {m₁} {m₂} {m₃} eq eh et es ec e₁ e₂ e₃ =
    e₃
    ∙ ap₃' ec e₁ e₂
    ∙ ap (swept_up q h t) (sym es)
    ∙ ap₂ (λ (x y : ℕ). swept_up q x y (swept n d s q y l)) eh et
    ∙ ap (λ (x : ℕ). swept_up x (held l x) (taken l x) (swept n d s x (taken l x) l)) eq
  where
    ap₃' :
        {m m' : List ℕ} {a a' b b' : ℕ} → m ≡ m' → a ≡ a' → b ≡ b' → set (set m (held_at q) a) (taken_at q) b ≡ set (set m' (held_at q) a') (taken_at q) b'
    ap₃' p r o = λ i. set (set (p i) (held_at q) (r i)) (taken_at q) (o i)

-- what is known before the turn of a sender
pub turn_sound :
    (n d s from : ℕ) (l : List ℕ) {m : List ℕ} → Ready n d s l → from < n → m ≡ times from (show_turn n d s) l → (from ≡ d → ⊥) → Sound m (link_of s from d)
turn_sound n d s from l h k e o = subst (λ (v : List ℕ). Sound v (link_of s from d)) (sym e) (show_turns_sound n d s l h from k o)
