-- What raise and show makes of every link into the shelf and of the depot's records.
-- Assumes nothing.
use Prim.Native.Nat.{ℕ, zero, suc, ◌-◌, ◌≤◌, ◌<◌}
use native.Mathlib.Nat.{le_refl, zero-add}
use native.Mathlib.Omega.{arith}
use mathlib.Core.Path.{◌≡◌, refl, sym, ◌∙◌, ap, ap₂, subst, fun_ext}
use mathlib.Core.Logic.{◌⊎◌, inl, inr, ⊎_elim}
use mathlib.Core.List.{List}
use mathlib.Core.Bool.{Bool}
use lib.Dec.{eqb}
use lib.ListN.{length, get_or}
use borrow.Author.Tests.{eq-eqb, ne_eqb}
use Rattle.loops.specs.Loops.{times, pick}
use Rattle.order.specs.Vector.{Vec, merged_at}
use Rattle.order.specs.Record.{bearing_of}
use Rattle.loops.proofs.BoolLaws.{pick_true, pick_false, eq_or_ne}
use Rattle.loops.proofs.LoopLaws.{times_suc, times_same}
use Rattle.order.proofs.VectorLaws.{length_merged}
use Rattle.book.specs.Layout.{stable_at, stored_at, slot_at, held_at, taken_at, link_of, slot, held, taken, stored, record_of}
use Rattle.shelf.specs.Show.{shown_link, shown, settled}
use Rattle.shelf.proofs.FrameLaws.{part_off}
use Rattle.shelf.proofs.ShowFrame.{Sound, length_shown_link, shown_link_off, Ready, show_turn, Turned, show_turns, waiting_sound, raised_off, raised_ready}
use Rattle.shelf.proofs.SlotLaws.{slots, slots_off}
use Rattle.shelf.proofs.SweepLaws.{staying, records_shown, clear_at, clear_same, Placed}
use Rattle.shelf.proofs.ShowLaws.{taken_slots, untaken_slots, taken_slots_shown_link, untaken_slots_shown_link, held_shown_link, fewer_shown_link, stored_shown_link}
use Rattle.shelf.proofs.AllLaws.{Lows, all_slots, records_shown_same}

-- a link whose slots and heads stay is the same link
pub record SameLink (l m : List ℕ) (q : ℕ) : Type 0 where
  pub head : held m q ≡ held l q
  pub first : taken m q ≡ taken l q
  pub copies : taken_slots m q ≡ taken_slots l q
  pub waiting : untaken_slots m q ≡ untaken_slots l q

pub link_same :
    (l m : List ℕ) (q : ℕ) → length m ≡ length l → held l q ≤ 16 → taken l q ≤ held l q → ((j : ℕ) → slot_at q 0 ≤ j → j < slot_at q 16 → get_or m j 0 ≡ get_or l j 0) →
    ((j : ℕ) → held_at q ≤ j → j ≤ taken_at q → get_or m j 0 ≡ get_or l j 0) → SameLink l m q
unfolding taken_slots untaken_slots
link_same l m q size room first slotted heads =
    let e : held m q ≡ held l q = heads (held_at q) (omega arith) (omega arith) in
    let f : taken m q ≡ taken l q = heads (taken_at q) (omega arith) (omega arith) in
    record {
      head = e;
      first = f;
      copies = ap (slots m q 0) f ∙ slots_off l m q 0 (taken l q) size (λ j x y. slotted j (omega arith) (omega arith));
      waiting = ap₂ (λ (a b : ℕ). slots m q a (b - a)) f e
          ∙ slots_off l m q (taken l q) (held l q - taken l q) size (λ j x y. slotted j (omega arith) (omega arith));
    }

pub sound_lows : (l : List ℕ) (q : ℕ) → Sound l q → Lows (taken_slots l q)
unfolding taken_slots
sound_lows l q h = all_slots _ l q 0 (taken l q) λ i k. subst (λ (j : ℕ). bearing_of (record_of (slot l q j)) < 160) (sym (zero-add i)) (h.bearings i k)

-- a link as showing with the book l's stable vector leaves it
pub record ShownOne (n d s : ℕ) (l m : List ℕ) (q : ℕ) : Type 0 where
  pub copies : taken_slots m q ≡ staying (clear_at n d s l) (taken_slots l q)
  pub waiting : untaken_slots m q ≡ untaken_slots l q
  pub room : held m q ≤ held l q
  pub first : taken m q ≤ held m q

-- the records, after the showing of the link from a depot; a depot has no link to itself
abbrev pub store_turn : ℕ → ℕ → ℕ → List ℕ → ℕ → (ℕ → List ℕ) → ℕ → List ℕ
store_turn n d s l from st = pick (eqb from d) st (records_shown n (clear_at n d s l) (taken_slots l (link_of s from d)) st)

-- after the first i turns
pub record ShownUp (n d s : ℕ) (l : List ℕ) (i : ℕ) (m : List ℕ) : Type 0 where
  pub frame : Turned d s l i m
  pub links : (from : ℕ) → from < i → (from ≡ d → ⊥) → ShownOne n d s l m (link_of s from d)
  pub store : (k : ℕ) → k < 160 → stored m d k ≡ times i (store_turn n d s l) (stored l d) k

module _ (n d s : ℕ) (l : List ℕ) (full : length l ≡ 16384) (R : Ready n d s l) where
  -- the turn of a link, from what stands before it
  turn_link : (i : ℕ) (m : List ℕ) → i < n → (i ≡ d → ⊥) → Turned d s l i m → SameLink l m (link_of s i d)
  turn_link i m k e t =
      let a = R.depots in
      let b = R.depot in
      let c = R.shelf in
      link_same l m (link_of s i d) t.size (R.links i k e).room (R.links i k e).first (λ j x y. t.same j (λ from z f. (omega arith, omega arith)) (omega arith))
      λ j x y. t.same j (λ from z f. (omega arith, omega arith)) (omega arith)

  turn_clear : (i : ℕ) (m : List ℕ) → Turned d s l i m → clear_at n d s m ≡ clear_at n d s l
  turn_clear i m t =
      let b = R.depot in
      let c = R.shelf in
      fun_ext (clear_same n d s l m R.depots λ j x y. t.same j (λ from z f. (omega arith, omega arith)) (omega arith))

  -- the links shown before are not touched
  turn_other :
      (i : ℕ) (m : List ℕ) → i < n → (i ≡ d → ⊥) → Turned d s l i m → (from : ℕ) → from < i → (from ≡ d → ⊥) → ShownOne n d s l m (link_of s from d) →
      ShownOne n d s l (shown_link n d s i m) (link_of s from d)
  turn_other i m k e t from z f o =
      let a = R.depots in
      let b = R.depot in
      let c = R.shelf in
      let r = o.room in
      let p = (R.links from (omega arith) f).room in
      let same : SameLink m (shown_link n d s i m) (link_of s from d) =
      link_same m _ (link_of s from d) (length_shown_link n d s i m) (omega arith) o.first
      (λ j x y. shown_link_off n d s i m (omega arith) (waiting_sound n d s l R i m k e t) j (omega arith) (omega arith) (omega arith))
      (λ j x y. shown_link_off n d s i m (omega arith) (waiting_sound n d s l R i m k e t) j (omega arith) (omega arith) (omega arith)) in
      let u = same.head in
      let v = same.first in
      let w = o.first in
      record { copies = same.copies ∙ o.copies; waiting = same.waiting ∙ o.waiting; room = omega arith; first = omega arith }

  turn_placed : (i : ℕ) (m : List ℕ) → i < n → Turned d s l i m → Placed n d s (link_of s i d) m
  turn_placed i m k t =
      let a = R.depots in
      let b = R.depot in
      let c = R.shelf in
      record { depots = R.depots; depot = R.depot; shelf = R.shelf; link = omega arith; full = t.size ∙ full }

  turn_own : (i : ℕ) (m : List ℕ) → i < n → (i ≡ d → ⊥) → Turned d s l i m → ShownOne n d s l (shown_link n d s i m) (link_of s i d)
  turn_own i m k e t =
      let S = waiting_sound n d s l R i m k e t in
      let P = turn_placed i m k t in
      let same = turn_link i m k e t in
      let a = held_shown_link n d s i m P S in
      let b = fewer_shown_link n d s i m P S in
      let c = S.first in
      let u = same.head in
      let v = same.first in
      record {
        copies = taken_slots_shown_link n d s i m P S ∙ ap₂ (λ (test : List ℕ → Bool) (x : List (List ℕ)). staying test x) (turn_clear i m t) same.copies;
        waiting = untaken_slots_shown_link n d s i m P S ∙ same.waiting;
        room = omega arith;
        first = omega arith;
      }

  turn_store :
      (i : ℕ) (m : List ℕ) → i < n → (i ≡ d → ⊥) → Turned d s l i m → (st : ℕ → List ℕ) → ((k : ℕ) → k < 160 → stored m d k ≡ st k) → (k : ℕ) → k < 160 →
      stored (shown_link n d s i m) d k ≡ records_shown n (clear_at n d s l) (taken_slots l (link_of s i d)) st k
  turn_store i m y e t st h k z =
      let S = waiting_sound n d s l R i m y e t in
      stored_shown_link n d s i m (turn_placed i m y t) S k z
      ∙ ap₂ (λ (test : List ℕ → Bool) (x : List (List ℕ)). records_shown n test x (stored m d) k) (turn_clear i m t) (turn_link i m y e t).copies
      ∙ records_shown_same n (clear_at n d s l) (taken_slots l (link_of s i d)) (sound_lows l (link_of s i d) (R.links i y e)) (stored m d) st h k z

  turn_up : (i : ℕ) (m : List ℕ) → i < n → Turned d s l (suc i) (show_turn n d s i m) → ShownUp n d s l i m → ShownUp n d s l (suc i) (show_turn n d s i m)
  turn_up i m k next u =
      record {
        frame = next;
        links = links (eq_or_ne i d);
        store = λ j z. store (eq_or_ne i d) j z ∙ sym (ap (λ (f : ℕ → List ℕ). f j) (times_suc i (store_turn n d s l) (stored l d)));
      }
    where
      links : (i ≡ d) ⊎ (i ≡ d → ⊥) → (from : ℕ) → from < suc i → (from ≡ d → ⊥) → ShownOne n d s l (show_turn n d s i m) (link_of s from d)
      links (inl e) from z f = subst (λ (v : List ℕ). ShownOne n d s l v (link_of s from d)) (sym (pick_true _ _ (eq-eqb i d e))) (u.links from (omega arith) f)
      links (inr e) from z f =
          subst (λ (v : List ℕ). ShownOne n d s l v (link_of s from d)) (sym (pick_false _ _ (ne_eqb i d e)))
          (⊎_elim
          (λ (g : from ≡ i). subst (λ (x : ℕ). ShownOne n d s l (shown_link n d s i m) (link_of s x d)) (sym g) (turn_own i m k e u.frame))
          (λ (g : from ≡ i → ⊥). turn_other i m k e u.frame from (omega arith) f (u.links from (omega arith) f))
          (eq_or_ne from i))

      store : (i ≡ d) ⊎ (i ≡ d → ⊥) → (j : ℕ) → j < 160 → stored (show_turn n d s i m) d j ≡ store_turn n d s l i (times i (store_turn n d s l) (stored l d)) j
      store (inl e) j z =
          ap (λ (v : List ℕ). stored v d j) (pick_true _ _ (eq-eqb i d e)) ∙ u.store j z ∙ sym (ap (λ (f : ℕ → List ℕ). f j) (pick_true _ _ (eq-eqb i d e)))
      store (inr e) j z =
          ap (λ (v : List ℕ). stored v d j) (pick_false _ _ (ne_eqb i d e))
          ∙ turn_store i m k e u.frame (times i (store_turn n d s l) (stored l d)) u.store j z
          ∙ sym (ap (λ (f : ℕ → List ℕ). f j) (pick_false _ _ (ne_eqb i d e)))

  pub shown_up : (i : ℕ) → i ≤ n → ShownUp n d s l i (times i (show_turn n d s) l)
  unfolding times
  shown_up zero k = record { frame = show_turns n d s l R 0 k; links = λ from z f. absurd (omega arith); store = λ j z. refl }
  shown_up (suc i) k = turn_up i (times i (show_turn n d s) l) k (show_turns n d s l R (suc i) k) (shown_up i (omega arith))

  -- showing, link by link and record by record
  pub shown_link_law : (from : ℕ) → from < n → (from ≡ d → ⊥) → ShownOne n d s l (shown n d s l) (link_of s from d)
  unfolding shown
  shown_link_law = (shown_up n (le_refl _)).links

  pub shown_store : (k : ℕ) → k < 160 → stored (shown n d s l) d k ≡ times n (store_turn n d s l) (stored l d) k
  unfolding shown
  shown_store = (shown_up n (le_refl _)).store

-- ---- raise and show

-- the book in which the stable vector is raised
abbrev pub raised_book : ℕ → ℕ → ℕ → Vec → List ℕ → List ℕ
raised_book n d s offered l = merged_at n d offered (stable_at d s) l

-- the records, after the showing of the link from a depot with the stable vector raised
abbrev pub settle_turn : ℕ → ℕ → ℕ → Vec → List ℕ → ℕ → (ℕ → List ℕ) → ℕ → List ℕ
settle_turn n d s offered l from st = pick (eqb from d) st (records_shown n (clear_at n d s (raised_book n d s offered l)) (taken_slots l (link_of s from d)) st)

module _ (n d s : ℕ) (offered : Vec) (l : List ℕ) (full : length l ≡ 16384) (R : Ready n d s l) where
  raised_full : length (raised_book n d s offered l) ≡ 16384
  raised_full = length_merged n d offered (stable_at d s) l ∙ full

  pub raised_link : (from : ℕ) → from < n → (from ≡ d → ⊥) → SameLink l (raised_book n d s offered l) (link_of s from d)
  raised_link from k e =
      let a = R.depots in
      let b = R.depot in
      let c = R.shelf in
      link_same l _ (link_of s from d) (length_merged n d offered (stable_at d s) l) (R.links from k e).room (R.links from k e).first
      (λ j x y. raised_off n d s offered l j (omega arith)) λ j x y. raised_off n d s offered l j (omega arith)

  pub raised_stored : (e k : ℕ) → stored (raised_book n d s offered l) e k ≡ stored l e k
  raised_stored e k =
      let a = R.depots in
      let b = R.depot in
      let c = R.shelf in
      part_off _ l (stored_at e k) 9 (length_merged n d offered (stable_at d s) l) λ j x y. raised_off n d s offered l j (omega arith)

  pub settled_copies :
      (from : ℕ) → from < n → (from ≡ d → ⊥) →
      taken_slots (settled n d s offered l) (link_of s from d) ≡ staying (clear_at n d s (raised_book n d s offered l)) (taken_slots l (link_of s from d))
  unfolding settled
  settled_copies from k e =
      (shown_link_law n d s _ raised_full (raised_ready n d s offered l R) from k e).copies ∙ ap (staying (clear_at n d s (raised_book n d s offered l))) (raised_link from k e).copies

  pub settled_waiting : (from : ℕ) → from < n → (from ≡ d → ⊥) → untaken_slots (settled n d s offered l) (link_of s from d) ≡ untaken_slots l (link_of s from d)
  unfolding settled
  settled_waiting from k e = (shown_link_law n d s _ raised_full (raised_ready n d s offered l R) from k e).waiting ∙ (raised_link from k e).waiting

  pub settled_room : (from : ℕ) → from < n → (from ≡ d → ⊥) → held (settled n d s offered l) (link_of s from d) ≤ held l (link_of s from d)
  unfolding settled
  settled_room from k e = rw (← (raised_link from k e).head) (shown_link_law n d s _ raised_full (raised_ready n d s offered l R) from k e).room

  pub settled_first : (from : ℕ) → from < n → (from ≡ d → ⊥) → taken (settled n d s offered l) (link_of s from d) ≤ held (settled n d s offered l) (link_of s from d)
  unfolding settled
  settled_first from k e = (shown_link_law n d s _ raised_full (raised_ready n d s offered l R) from k e).first

  pub settled_store : (k : ℕ) → k < 160 → stored (settled n d s offered l) d k ≡ times n (settle_turn n d s offered l) (stored l d) k
  unfolding settled
  settled_store k z =
      shown_store n d s _ raised_full (raised_ready n d s offered l R) k z
      ∙ ap (λ (st : ℕ → List ℕ). times n (store_turn n d s (raised_book n d s offered l)) st k) (fun_ext (raised_stored d))
      ∙ ap (λ (f : ℕ → List ℕ). f k) (times_same n (store_turn n d s (raised_book n d s offered l)) (settle_turn n d s offered l) (stored l d) same)
    where
      same : (from : ℕ) (st : ℕ → List ℕ) → from < n → store_turn n d s (raised_book n d s offered l) from st ≡ settle_turn n d s offered l from st
      same from st k =
          ⊎_elim
          (λ (e : from ≡ d). pick_true _ _ (eq-eqb from d e) ∙ sym (pick_true _ _ (eq-eqb from d e)))
          (λ (e : from ≡ d → ⊥).
          ap (λ (x : List (List ℕ)). pick (eqb from d) st (records_shown n (clear_at n d s (raised_book n d s offered l)) x st)) (raised_link from k e).copies)
          (eq_or_ne from d)
