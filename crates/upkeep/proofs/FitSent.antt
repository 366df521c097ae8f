-- Sending a fit message keeps every part of the book: of a link out no more is asked than that it has room.
-- Assumes nothing.
use Prim.Native.Nat.{ℕ, ◌≤◌, ◌<◌}
use native.Mathlib.Nat.{le_of_eq}
use native.Mathlib.Omega.{arith}
use mathlib.Core.Path.{◌≡◌, sym, ◌∙◌, subst}
use mathlib.Core.Logic.{⊎_elim}
use mathlib.Core.List.{List, [], ◌∷◌}
use lib.ListN.{length, get_or}
use Rattle.loops.proofs.BoolLaws.{eq_or_ne}
use Rattle.book.specs.declared.parts.Counts.{Counts}
use Rattle.book.specs.Layout.{end, clock, clock_at, link_of}
use Rattle.fit.specs.Fit.{Within}
use Rattle.links.specs.Send.{sent}
use Rattle.shelf.proofs.AllLaws.{AllOf, all_append, all_one}
use Rattle.links.proofs.SendFrame.{Free, OffOut, length_sent, sent_off, sent_low}
use Rattle.links.proofs.SentLaws.{sent_clock, sent_head, sent_first, sent_copies, sent_waiting, sent_stored}
use Rattle.register.proofs.FitParts.{IsCopy, IsMessage}
use Rattle.upkeep.proofs.FitFrame.{LinkKept, Keeps, crews_same, stable_same, stamp_same, link_stays, stored_same}

module _ (n : Counts) (l : List ℕ) (W : Within n) (full : length l ≡ 16384) (d s stamp : ℕ) (m : List ℕ) (hd : d < n.depots) (hs : s < n.shelves)
    (fits : stamp ≤ end) (ten : length m ≡ 10) (ok : IsMessage n s d m) (F : Free n.depots d s l) where
  after : List ℕ
  after = sent n.depots d s stamp m l

  stays : (j : ℕ) → (j ≡ clock_at d s → ⊥) → OffOut n.depots d s l j → get_or after j 0 ≡ get_or l j 0
  unfolding after
  stays = sent_off n.depots d s stamp m l (le_of_eq ten) F

  low : (j : ℕ) → j < 84 → get_or after j 0 ≡ get_or l j 0
  unfolding after
  low = sent_low n.depots d s stamp m l (le_of_eq ten) F

  clocks : (e r : ℕ) → e < n.depots → r < n.shelves → clock l e r ≤ end → clock after e r ≤ end
  unfolding after
  clocks e r he hr h =
      let a = W.depots in
      let b = W.shelves in
      ⊎_elim
      (λ (p : clock_at e r ≡ clock_at d s).
      subst (λ (x : ℕ). get_or (sent n.depots d s stamp m l) x 0 ≤ end) (sym p) (rw (sent_clock n.depots d s stamp m l ten full F) fits))
      (λ (p : clock_at e r ≡ clock_at d s → ⊥). rw (stays (clock_at e r) p (λ to k f. (omega arith, omega arith))) h)
      (eq_or_ne (clock_at e r) (clock_at d s))

  -- the link to a depot
  out : (to : ℕ) → to < n.depots → (to ≡ d → ⊥) → LinkKept n l after s d (link_of s d to)
  unfolding after
  out to k f =
      let a = sent_head n.depots d s stamp m l ten full F to k f in
      let b = sent_first n.depots d s stamp m l ten full F to k f in
      let c = F.room to k f in
      record {
        head = λ h. let e = h.first in record { room = omega arith; first = omega arith };
        copies = λ h. subst (AllOf (IsCopy n s d)) (sym (sent_copies n.depots d s stamp m l ten full F to k f h.first));
        messages = λ h g.
            subst (AllOf (IsMessage n s d)) (sym (sent_waiting n.depots d s stamp m l ten full F to k f h.first))
            (all_append (IsMessage n s d) _ (m ∷ []) g (all_one (IsMessage n s d) m ok));
      }

  other :
      (r from to : ℕ) → r < n.shelves → from < n.depots → to < n.depots → ((x : ℕ) → x < n.depots → link_of r from to ≡ link_of s d x → ⊥) →
      LinkKept n l after r from (link_of r from to)
  unfolding after
  other r from to hr hf ht g =
      let a = W.depots in
      let b = W.shelves in
      link_stays n l after r from (link_of r from to) (length_sent n.depots d s stamp m l)
      (λ j x y. stays j (omega arith) (λ z k e. let u = g z k in let v = F.room z k e in (omega arith, omega arith)))
      (λ j x y. stays j (omega arith) (λ z k e. let u = g z k in let v = F.room z k e in (omega arith, omega arith)))

  link : (r from to : ℕ) → r < n.shelves → from < n.depots → to < n.depots → (from ≡ to → ⊥) → LinkKept n l after r from (link_of r from to)
  unfolding after
  link r from to hr hf ht f =
      let a = W.depots in
      ⊎_elim
      (λ (p : r ≡ s).
      ⊎_elim
      (λ (q : from ≡ d).
      subst (λ (x : ℕ). LinkKept n l after x from (link_of x from to)) (sym p)
      (subst (λ (x : ℕ). LinkKept n l after s x (link_of s x to)) (sym q) (out to ht (λ e. f (q ∙ sym e)))))
      (λ (q : from ≡ d → ⊥). other r from to hr hf ht (λ x k e. omega arith))
      (eq_or_ne from d))
      (λ (p : r ≡ s → ⊥). other r from to hr hf ht (λ x k e. omega arith))
      (eq_or_ne r s)

  pub sent_keeps : Keeps n l (sent n.depots d s stamp m l)
  unfolding after
  sent_keeps =
      let a = W.depots in
      let b = W.shelves in
      record {
        size = length_sent n.depots d s stamp m l;
        low = λ j k. low j (omega arith);
        crews = crews_same n l after W (λ j x y. low j y);
        clocks = clocks;
        stables = λ e r he hr. stable_same n l after W e r he hr (λ j x y. stays j (omega arith) (λ to k f. (omega arith, omega arith)));
        stamps = λ e r x he hr. stamp_same n l after W e r he hr (λ j y z. stays j (omega arith) (λ to k f. (omega arith, omega arith))) x;
        links = link;
        stores = λ e k p q. stored_same n l _ e k (sent_stored n.depots d s stamp m l ten full F e k);
      }
