-- What raise and show leaves alone: all but the stable vector, the incoming links of the shelf and the depot's stored versions.
-- Assumes nothing.
use Prim.Native.Nat.{ℕ, suc, ◌*◌, ◌≤◌, ◌<◌}
use native.Mathlib.Nat.{le_refl, le_step, lt_of_lt_of_le}
use native.Mathlib.Omega.{arith}
use mathlib.Core.Path.{◌≡◌, refl, sym, ◌∙◌, subst}
use mathlib.Core.List.{List}
use lib.Dec.{eqb}
use lib.ListN.{length, get_or}
use borrow.Author.Tests.{eqb-false}
use Rattle.loops.specs.Loops.{times, pick}
use Rattle.order.specs.Vector.{Vec, merged_at}
use Rattle.order.specs.Record.{bearing_of}
use Rattle.order.proofs.VectorLaws.{length_merged, merged_other}
use Rattle.book.specs.Layout.{stable_at, stored_at, slot_at, held_at, taken_at, link_of, held, taken, stored, record_of}
pub use Rattle.shelf.specs.Asks.{Sound, Ready}
use Rattle.shelf.specs.Show.{swept, shown_link, shown, settled}
use Rattle.shelf.proofs.FrameLaws.{Off, off_sides, pick_cases, times_grows, part_off, length_swept, swept_kept, swept_low, swept_off, length_swept_up, swept_up_off}

pub sound_same :
    (l m : List ℕ) (q : ℕ) → length m ≡ length l → ((j : ℕ) → slot_at q 0 ≤ j → j < slot_at q 16 → get_or m j 0 ≡ get_or l j 0) →
    ((j : ℕ) → held_at q ≤ j → j ≤ taken_at q → get_or m j 0 ≡ get_or l j 0) → Sound l q → Sound m q
sound_same l m q size slots heads h =
    let e : held m q ≡ held l q = heads (held_at q) (omega arith) (omega arith) in
    let f : taken m q ≡ taken l q = heads (taken_at q) (omega arith) (omega arith) in
    let a = h.room in
    let b = h.first in
    record {
      room = omega arith;
      first = omega arith;
      bearings = λ i k.
          subst (λ (v : List ℕ). bearing_of (record_of v) < 160)
          (sym (part_off m l (slot_at q i) 10 size (λ j x y. slots j (omega arith) (omega arith)))) (h.bearings i (omega arith));
    }

module _ (n d s from : ℕ) (l : List ℕ) where
  pub length_shown_link : length (shown_link n d s from l) ≡ length l
  unfolding shown_link
  length_shown_link = length_swept_up _ _ _ (swept n d s _ _ l) ∙ length_swept n d s _ l _

  -- whatever the copies are, the words before the stored versions stay, but for the link's own
  pub shown_link_low :
      (j : ℕ) → j < 10596 → taken l (link_of s from d) ≤ held l (link_of s from d) → Off (slot_at (link_of s from d) 0) (10 * held l (link_of s from d)) j →
      Off (held_at (link_of s from d)) 2 j → get_or (shown_link n d s from l) j 0 ≡ get_or l j 0
  unfolding shown_link
  shown_link_low j low first slots heads =
      let k = swept_kept n d s (link_of s from d) l (taken l (link_of s from d)) in
      swept_up_off _ _ _ (swept n d s _ _ l) j k first (λ x y. slots (omega arith) (omega arith)) heads
      ∙ swept_low n d s _ l _ j low λ x y. slots x (omega arith)

  pub shown_link_off :
      link_of s from d < 64 → Sound l (link_of s from d) → (j : ℕ) → Off (slot_at (link_of s from d) 0) 160 j → Off (held_at (link_of s from d)) 2 j →
      Off (stored_at d 0) 1440 j → get_or (shown_link n d s from l) j 0 ≡ get_or l j 0
  unfolding shown_link
  shown_link_off hq h j slots heads store =
      let k = swept_kept n d s (link_of s from d) l (taken l (link_of s from d)) in
      let a = h.room in
      let b = h.first in
      swept_up_off _ _ _ (swept n d s _ _ l) j k b (λ x y. slots (omega arith) (omega arith)) heads
      ∙ swept_off n d s _ l _ j hq (omega arith) (λ x y. slots x (omega arith)) λ i z x y. let c = h.bearings i z in store (omega arith) (omega arith)

-- ---- all the links of a shelf

-- word j lies outside the slots and the heads of the first i depots' links to shelf s of depot d
abbrev pub OffLinks : ℕ → ℕ → ℕ → ℕ → Type 0
OffLinks i d s j = (from : ℕ) → from < i → (from ≡ d → ⊥) → Off (slot_at (link_of s from d) 0) 160 j × Off (held_at (link_of s from d)) 2 j

-- one turn of showing
abbrev pub show_turn : ℕ → ℕ → ℕ → ℕ → List ℕ → List ℕ
show_turn n d s from m = pick (eqb from d) m (shown_link n d s from m)

module _ (n d s : ℕ) (l : List ℕ) where
  pub length_show_turns : (i : ℕ) → length (times i (show_turn n d s) l) ≡ length l
  length_show_turns i =
      times_grows (λ k (m : List ℕ). length m ≡ length l) i (show_turn n d s) l refl λ from m k e.
      pick_cases (λ (v : List ℕ). length v ≡ length l) (eqb from d) m (shown_link n d s from m) (λ x. e) λ x. length_shown_link n d s from m ∙ e

  pub length_shown : length (shown n d s l) ≡ length l
  unfolding shown
  length_shown = length_show_turns n

-- after the first i turns: the length stays, and each word outside the links shown so far and the depot's store
pub record Turned (d s : ℕ) (l : List ℕ) (i : ℕ) (m : List ℕ) : Type 0 where
  pub size : length m ≡ length l
  pub same : (j : ℕ) → OffLinks i d s j → Off (stored_at d 0) 1440 j → get_or m j 0 ≡ get_or l j 0

module _ (n d s : ℕ) (l : List ℕ) (h : Ready n d s l) where
  -- so each later link waits, sound as it was
  pub waiting_sound : (i : ℕ) (m : List ℕ) → i < n → (i ≡ d → ⊥) → Turned d s l i m → Sound m (link_of s i d)
  waiting_sound i m k e t =
      let a = h.depots in
      let b = h.depot in
      let c = h.shelf in
      sound_same l m (link_of s i d) t.size (λ j x y. t.same j (λ from z f. omega arith) (omega arith))
      (λ j x y. t.same j (λ from z f. omega arith) (omega arith)) (h.links i k e)

  turned : (i : ℕ) (m : List ℕ) → i < n → Turned d s l i m → Turned d s l (suc i) (show_turn n d s i m)
  turned i m k t =
      let a = h.depots in
      let b = h.depot in
      let c = h.shelf in
      pick_cases (Turned d s l (suc i)) (eqb i d) m (shown_link n d s i m)
      (λ e. record { size = t.size; same = λ j out store. t.same j (λ from z. out from (le_step z)) store })
      λ e.
      record {
        size = length_shown_link n d s i m ∙ t.size;
        same = λ j out store.
            shown_link_off n d s i m (omega arith) (waiting_sound i m k (eqb-false i d e) t) j (out i (le_refl _) (eqb-false i d e)).0 (out i (le_refl _) (eqb-false i d e)).1 store
            ∙ t.same j (λ from z. out from (le_step z)) store;
      }

  pub show_turns : (i : ℕ) → i ≤ n → Turned d s l i (times i (show_turn n d s) l)
  show_turns i k =
      times_grows (Turned d s l) i (show_turn n d s) l (record { size = refl; same = λ j out store. refl }) λ x m z t. turned x m (lt_of_lt_of_le z k) t

  pub show_turns_sound : (i : ℕ) → i < n → (i ≡ d → ⊥) → Sound (times i (show_turn n d s) l) (link_of s i d)
  show_turns_sound i k e = waiting_sound i _ k e (show_turns i (omega arith))

  pub shown_off : (j : ℕ) → OffLinks n d s j → Off (stored_at d 0) 1440 j → get_or (shown n d s l) j 0 ≡ get_or l j 0
  unfolding shown
  shown_off j out store = (show_turns n (le_refl _)).same j out store

-- ---- raise and show

pub length_settled : (n d s : ℕ) (offered : Vec) (l : List ℕ) → length (settled n d s offered l) ≡ length l
unfolding settled
length_settled n d s offered l = length_shown n d s (merged_at n d offered (stable_at d s) l) ∙ length_merged n d offered (stable_at d s) l

pub raised_off : (n d s : ℕ) (offered : Vec) (l : List ℕ) (j : ℕ) → Off (stable_at d s) n j → get_or (merged_at n d offered (stable_at d s) l) j 0 ≡ get_or l j 0
raised_off n d s offered l j out = merged_other n d offered (stable_at d s) l j (off_sides (stable_at d s) n j out)

pub raised_ready : (n d s : ℕ) (offered : Vec) (l : List ℕ) → Ready n d s l → Ready n d s (merged_at n d offered (stable_at d s) l)
raised_ready n d s offered l h =
    let a = h.depots in
    let b = h.depot in
    let c = h.shelf in
    record {
      depots = h.depots;
      depot = h.depot;
      shelf = h.shelf;
      links = λ from k e.
          sound_same l _ (link_of s from d) (length_merged n d offered (stable_at d s) l) (λ j x y. raised_off n d s offered l j (omega arith))
          (λ j x y. raised_off n d s offered l j (omega arith)) (h.links from k e);
    }

pub settled_off :
    (n d s : ℕ) (offered : Vec) (l : List ℕ) → Ready n d s l → (j : ℕ) → Off (stable_at d s) n j → OffLinks n d s j → Off (stored_at d 0) 1440 j →
    get_or (settled n d s offered l) j 0 ≡ get_or l j 0
unfolding settled
settled_off n d s offered l h j out links store =
    shown_off n d s (merged_at n d offered (stable_at d s) l) (raised_ready n d s offered l h) j links store ∙ raised_off n d s offered l j out

-- the counts, the homes, the crews' vectors and the clocks stay
pub settled_low : (n d s : ℕ) (offered : Vec) (l : List ℕ) → Ready n d s l → (j : ℕ) → j < 100 → get_or (settled n d s offered l) j 0 ≡ get_or l j 0
settled_low n d s offered l h j low = settled_off n d s offered l h j (omega arith) (λ from x y. omega arith) (omega arith)

-- ---- the stored versions of the other depots stay

pub shown_link_other :
    (n d s from : ℕ) (l : List ℕ) → link_of s from d < 64 → Sound l (link_of s from d) → (e k : ℕ) → (e ≡ d → ⊥) → k < 160 →
    stored (shown_link n d s from l) e k ≡ stored l e k
shown_link_other n d s from l hq h e k f z =
    part_off _ l (stored_at e k) 9 (length_shown_link n d s from l) λ j x y. shown_link_off n d s from l hq h j (omega arith) (omega arith) (omega arith)

module _ (n d s : ℕ) (l : List ℕ) (h : Ready n d s l) (e k : ℕ) (f : e ≡ d → ⊥) (z : k < 160) where
  pub shown_other : stored (shown n d s l) e k ≡ stored l e k
  shown_other =
      let a = h.depots in
      let b = h.depot in
      let c = h.shelf in
      part_off _ l (stored_at e k) 9 (length_shown n d s l) λ j x y. shown_off n d s l h j (λ from u v. (omega arith, omega arith)) (omega arith)

  pub settled_other : (offered : Vec) → stored (settled n d s offered l) e k ≡ stored l e k
  settled_other offered =
      let a = h.depots in
      let b = h.depot in
      let c = h.shelf in
      part_off _ l (stored_at e k) 9 (length_settled n d s offered l) λ j x y.
      settled_off n d s offered l h j (omega arith) (λ from u v. (omega arith, omega arith)) (omega arith)
