-- Raise and show keeps every part of the book, where the links into the shelf are fit: a stored version that is replaced gives way to a fit copy.
-- Assumes nothing.
use Prim.Native.Nat.{ℕ, ◌+◌, ◌≤◌, ◌<◌}
use native.Mathlib.Nat.{max-le}
use native.Mathlib.Omega.{arith}
use mathlib.Core.Path.{◌≡◌, refl, sym, ◌∙◌, ap, subst}
use mathlib.Core.Logic.{⊎_elim}
use mathlib.Core.List.{List}
use mathlib.Core.Bool.{true}
use lib.Dec.{eqb}
use lib.ListN.{length, get_or}
use borrow.Author.Tests.{eqb-false}
use Rattle.order.specs.Vector.{Vec}
use Rattle.order.specs.Record.{bearing_of}
use Rattle.loops.proofs.BoolLaws.{eq_or_ne}
use Rattle.loops.proofs.LoopLaws.{times_keeps}
use Rattle.order.proofs.VectorLaws.{merged_own, merged_entry}
use Rattle.book.specs.declared.parts.Counts.{Counts}
use Rattle.book.specs.Layout.{end, stable, stable_at, slot_at, held_at, stored_at, link_of, stored, record_of}
use Rattle.fit.specs.Fit.{kept_fit, Within}
use Rattle.shelf.specs.Show.{settled}
use Rattle.shelf.proofs.FrameLaws.{Off, pick_cases, part_off}
use Rattle.shelf.proofs.AllLaws.{AllOf, all_map, all_staying, records_shown_all}
use Rattle.shelf.proofs.ShowLaws.{taken_slots}
use Rattle.shelf.proofs.ShowFrame.{Ready, OffLinks, length_settled, settled_off, settled_low, shown_off, raised_ready}
use Rattle.shelf.proofs.ShownLaws.{link_same, raised_book, settle_turn, settled_copies, settled_waiting, settled_room, settled_first, settled_store}
use Rattle.register.proofs.FitParts.{LinkOk, IsCopy, IsMessage}
use Rattle.register.proofs.FitMessage.{copy_open, version_kept}
use Rattle.register.proofs.FitReady.{link_sound}
use Rattle.upkeep.proofs.FitFrame.{StableOk, LinkKept, Keeps, Same, crews_same, clock_same, stable_same, stamp_same, link_stays, stored_same}
use Rattle.upkeep.proofs.FitFrame.{keeps_then}

-- every link into shelf s of depot d is fit
abbrev pub Arrivals : Counts → List ℕ → ℕ → ℕ → Type 0
Arrivals n l d s = (from : ℕ) → from < n.depots → (from ≡ d → ⊥) → LinkOk n l s from (link_of s from d)

-- what raise and show at shelf s of depot d keeps, and that of the copies taken on the links into the shelf none is new
pub record Settles (n : Counts) (l m : List ℕ) (d s : ℕ) : Type 1 where
  pub keeps : Keeps n l m
  pub fewer :
      (P : List ℕ → Type 0) (from : ℕ) → from < n.depots → (from ≡ d → ⊥) → AllOf P (taken_slots l (link_of s from d)) →
      AllOf P (taken_slots m (link_of s from d))

-- so does raise and show, and then a change that leaves the words of these links
pub settles_then :
    (n : Counts) (l m v : List ℕ) (d s : ℕ) → s < n.shelves → d < n.depots → Arrivals n l d s → Settles n l m d s → Keeps n m v →
    ((from : ℕ) → from < n.depots → (from ≡ d → ⊥) → Same m v (slot_at (link_of s from d) 0) (slot_at (link_of s from d) 16)) →
    ((from : ℕ) → from < n.depots → (from ≡ d → ⊥) → Same m v (held_at (link_of s from d)) (held_at (link_of s from d) + 2)) → Settles n l v d s
settles_then n l m v d s hs hd A S K slotted heads =
    record {
      keeps = keeps_then n l m v S.keeps K;
      fewer = λ P from k f h.
          let o = (S.keeps.links s from d hs k hd f).head (record { room = (A from k f).room; first = (A from k f).first }) in
          let same = link_same m v (link_of s from d) K.size o.room o.first (slotted from k f) (λ j x y. heads from k f j x (omega arith)) in
          subst (AllOf P) (sym same.copies)
          (S.fewer P from k f h);
    }

module _ (n : Counts) (l : List ℕ) (W : Within n) (full : length l ≡ 16384) (d s : ℕ) (offered : Vec) (hd : d < n.depots) (hs : s < n.shelves)
    (A : Arrivals n l d s) (range : (x : ℕ) → x < n.depots → (x ≡ d → ⊥) → offered x ≤ end) where
  after : List ℕ
  after = settled n.depots d s offered l

  R : Ready n.depots d s l
  R =
      let a = W.depots in
      let b = W.shelves in
      record { depots = a; depot = omega arith; shelf = omega arith; links = λ from k f. link_sound n l s from (link_of s from d) W.bearings (A from k f) }

  stays : (j : ℕ) → Off (stable_at d s) n.depots j → OffLinks n.depots d s j → Off (stored_at d 0) 1440 j → get_or after j 0 ≡ get_or l j 0
  unfolding after
  stays = settled_off n.depots d s offered l R

  low : (j : ℕ) → j < 100 → get_or after j 0 ≡ get_or l j 0
  unfolding after
  low = settled_low n.depots d s offered l R

  -- the stable vector is the raised one
  raised : (x : ℕ) → x < n.depots → stable after d s x ≡ stable (raised_book n.depots d s offered l) d s x
  unfolding after settled
  raised x k =
      let a = W.depots in
      let b = W.shelves in
      shown_off n.depots d s (raised_book n.depots d s offered l) (raised_ready n.depots d s offered l R) (stable_at d s + x)
      (λ from z f. (omega arith, omega arith)) (omega arith)

  stable_own : StableOk n l d s → StableOk n after d s
  stable_own h =
      let a = W.depots in
      let b = W.shelves in
      record {
        own = raised d hd ∙ merged_own n.depots d offered (stable_at d s) l ∙ h.own;
        others = λ x k f.
            subst (λ (y : ℕ). y ≤ end) (sym (raised x k ∙ merged_entry n.depots d offered (stable_at d s) l (rw full (omega arith)) x k f))
            (max-le (h.others x k f) (range x k f));
      }

  stables : (e r : ℕ) → e < n.depots → r < n.shelves → StableOk n l e r → StableOk n after e r
  stables e r he hr =
      let a = W.depots in
      let b = W.shelves in
      ⊎_elim
      (λ (p : stable_at e r ≡ stable_at d s).
      let x : e ≡ d = omega arith in
      let y : r ≡ s = omega arith in
      subst (λ (v : ℕ). StableOk n l v r → StableOk n after v r) (sym x) (subst (λ (v : ℕ). StableOk n l d v → StableOk n after d v) (sym y) stable_own))
      (λ (p : stable_at e r ≡ stable_at d s → ⊥).
      stable_same n l after W e r he hr (λ j u v. stays j (omega arith) (λ from z f. (omega arith, omega arith)) (omega arith)))
      (eq_or_ne (stable_at e r) (stable_at d s))

  -- a link into the shelf
  into : (from : ℕ) → from < n.depots → (from ≡ d → ⊥) → LinkKept n l after s from (link_of s from d)
  unfolding after
  into from k f =
      let b = settled_room n.depots d s offered l full R from k f in
      let c = settled_first n.depots d s offered l full R from k f in
      record {
        head = λ h. let a = h.room in record { room = omega arith; first = c };
        copies = λ h g.
            subst (AllOf (IsCopy n s from)) (sym (settled_copies n.depots d s offered l full R from k f)) (all_staying (IsCopy n s from) _ _ g);
        messages = λ h. subst (AllOf (IsMessage n s from)) (sym (settled_waiting n.depots d s offered l full R from k f));
      }

  other :
      (r from to : ℕ) → r < n.shelves → from < n.depots → to < n.depots → ((x : ℕ) → x < n.depots → link_of r from to ≡ link_of s x d → ⊥) →
      LinkKept n l after r from (link_of r from to)
  unfolding after
  other r from to hr hf ht g =
      let a = W.depots in
      let b = W.shelves in
      link_stays n l after r from (link_of r from to) (length_settled n.depots d s offered l)
      (λ j x y. stays j (omega arith) (λ z k e. let u = g z k in (omega arith, omega arith)) (omega arith))
      (λ j x y. stays j (omega arith) (λ z k e. let u = g z k in (omega arith, omega arith)) (omega arith))

  link : (r from to : ℕ) → r < n.shelves → from < n.depots → to < n.depots → (from ≡ to → ⊥) → LinkKept n l after r from (link_of r from to)
  link r from to hr hf ht f =
      let a = W.depots in
      ⊎_elim
      (λ (p : r ≡ s).
      ⊎_elim
      (λ (q : to ≡ d).
      subst (λ (x : ℕ). LinkKept n l after x from (link_of x from to)) (sym p)
      (subst (λ (x : ℕ). LinkKept n l after s from (link_of s from x)) (sym q) (into from hf (λ e. f (e ∙ sym q)))))
      (λ (q : to ≡ d → ⊥). other r from to hr hf ht (λ x k e. omega arith))
      (eq_or_ne to d))
      (λ (p : r ≡ s → ⊥). other r from to hr hf ht (λ x k e. omega arith))
      (eq_or_ne r s)

  -- the stored version of bearing k
  module _ (k : ℕ) (hk : k < n.bearings) where
    Fits : ℕ → List ℕ → Type 0
    Fits j r = j ≡ k → kept_fit n k r ≡ true

    copied : (from : ℕ) → from < n.depots → (from ≡ d → ⊥) → AllOf (λ m. Fits (bearing_of (record_of m)) (record_of m)) (taken_slots l (link_of s from d))
    unfolding Fits
    copied from z f =
        all_map (IsCopy n s from) _ (λ m c e. version_kept n k (record_of m) (copy_open n s from m c).version e) _ (A from z f).copies

    store_own : kept_fit n k (stored l d k) ≡ true → kept_fit n k (stored after d k) ≡ true
    unfolding after Fits
    store_own h =
        let b = W.bearings in
        ap (kept_fit n k) (settled_store n.depots d s offered l full R k (omega arith))
        ∙ times_keeps (λ (st : ℕ → List ℕ). (j : ℕ) → Fits j (st j)) n.depots (settle_turn n.depots d s offered l) (stored l d)
        (λ from st y g.
        pick_cases (λ (su : ℕ → List ℕ). (j : ℕ) → Fits j (su j)) (eqb from d) st _ (λ e. g)
        (λ e. records_shown_all Fits n.depots _ _ (copied from y (eqb-false from d e)) st g))
        (λ j e. subst (λ (i : ℕ). kept_fit n k (stored l d i) ≡ true) (sym e) h) k refl

    store : (e : ℕ) → e < n.depots → kept_fit n k (stored l e k) ≡ true → kept_fit n k (stored after e k) ≡ true
    unfolding after
    store e he =
        let a = W.depots in
        let b = W.shelves in
        let c = W.bearings in
        ⊎_elim
        (λ (p : e ≡ d). subst (λ (x : ℕ). kept_fit n k (stored l x k) ≡ true → kept_fit n k (stored after x k) ≡ true) (sym p) store_own)
        (λ (p : e ≡ d → ⊥).
        stored_same n l after e k
        (part_off after l (stored_at e k) 9 (length_settled n.depots d s offered l)
        λ j x y. stays j (omega arith) (λ from z f. (omega arith, omega arith)) (omega arith)))
        (eq_or_ne e d)

  keeps : Keeps n l after
  unfolding after
  keeps =
      let a = W.depots in
      let b = W.shelves in
      record {
        size = length_settled n.depots d s offered l;
        low = λ j k. low j (omega arith);
        crews = crews_same n l after W (λ j x y. low j (omega arith));
        clocks = λ e r he hr. clock_same n l after W e r he hr (λ j x y. low j y);
        stables = stables;
        stamps = λ e r x he hr. stamp_same n l after W e r he hr (λ j y z. stays j (omega arith) (λ from u f. (omega arith, omega arith)) (omega arith)) x;
        links = link;
        stores = λ e k he hk. store k hk e he;
      }

  pub settled_settles : Settles n l (settled n.depots d s offered l) d s
  unfolding after
  settled_settles =
      record {
        keeps = keeps;
        fewer = λ P from k f h. subst (AllOf P) (sym (settled_copies n.depots d s offered l full R from k f)) (all_staying P _ _ h);
      }
