-- Taking the first untaken message of a link whose head and untaken messages are fit keeps every part of the book.
-- Assumes nothing.
use Prim.Native.Nat.{ℕ, ◌+◌, ◌-◌, ◌≤◌, ◌<◌}
use native.Mathlib.Omega.{arith}
use mathlib.Core.Path.{◌≡◌, sym, ◌∙◌, subst}
use mathlib.Core.Logic.{◌⊎◌, inl, inr, ⊎_elim}
use mathlib.Core.List.{List, [], ◌∷◌}
use mathlib.Core.Bool.{true, false}
use lib.Dec.{eqb}
use lib.ListN.{length, get_or}
use borrow.Author.Tests.{eqb-false}
use Rattle.loops.proofs.BoolLaws.{decided, pick_true, pick_false, eq_or_ne}
use Rattle.book.specs.declared.parts.Counts.{Counts}
use Rattle.book.specs.Layout.{end, beat_kind, seen, seen_at, slot_at, held_at, link_of, held, taken, slot, kind_of}
use Rattle.fit.specs.Fit.{Within}
use Rattle.links.specs.Send.{took}
use Rattle.shelf.proofs.FrameLaws.{Off}
use Rattle.shelf.proofs.AllLaws.{AllOf, all_append, all_one, all_first, all_rest}
use Rattle.shelf.proofs.ShowLaws.{untaken_slots}
use Rattle.links.proofs.SendFrame.{length_took, took_off, took_low}
use Rattle.links.proofs.TookLaws.{took_head, took_first, took_copies, took_waiting, took_seen, took_stored}
use Rattle.register.proofs.FitParts.{IsCopy, IsMessage}
use Rattle.register.proofs.FitMessage.{CopyOk, copy_close, message_cases, stamp_range}
use Rattle.upkeep.proofs.FitFrame.{WaitingOk, LinkKept, Keeps, crews_same, clock_same, stable_same, link_stays, stored_same}

module _ (n : Counts) (l : List ℕ) (W : Within n) (full : length l ≡ 16384) (d s from : ℕ) (hd : d < n.depots) (hs : s < n.shelves) (hf : from < n.depots)
    (old : WaitingOk n l s from (link_of s from d)) (more : taken l (link_of s from d) < held l (link_of s from d)) where
  after : List ℕ
  after = took d s from l

  d4 : d < 4
  d4 = let a = W.depots in omega arith

  s4 : s < 4
  s4 = let a = W.shelves in omega arith

  f4 : from < 4
  f4 = let a = W.depots in omega arith

  message : List ℕ
  message = slot l (link_of s from d) (taken l (link_of s from d))

  waited : AllOf (IsMessage n s from) (message ∷ untaken_slots after (link_of s from d))
  unfolding after message
  waited = subst (AllOf (IsMessage n s from)) (took_waiting d s from l d4 s4 f4 full old.room more) old.messages

  ok : IsMessage n s from message
  ok = all_first (IsMessage n s from) message (untaken_slots after (link_of s from d)) waited

  stays : (j : ℕ) → (j ≡ seen_at d s + from → ⊥) → Off (slot_at (link_of s from d) 0) 160 j → Off (held_at (link_of s from d)) 2 j → get_or after j 0 ≡ get_or l j 0
  unfolding after
  stays j a b c = let r = old.room in took_off d s from l j more a (λ x y. b (omega arith) (omega arith)) c

  low : (j : ℕ) → j < 164 → get_or after j 0 ≡ get_or l j 0
  unfolding after
  low = took_low d s from l more

  stamps : (e r x : ℕ) → e < n.depots → r < n.shelves → x < n.depots → seen l e r x ≤ end → seen after e r x ≤ end
  stamps e r x he hr k h =
      let a = W.depots in
      let b = W.shelves in
      ⊎_elim
      (λ (p : seen_at e r + x ≡ seen_at d s + from).
      subst (λ (y : ℕ). get_or after y 0 ≤ end) (sym p) (subst (λ (y : ℕ). y ≤ end) (sym now) (stamp_range n s from message hf ok)))
      (λ (p : seen_at e r + x ≡ seen_at d s + from → ⊥). rw (stays (seen_at e r + x) p (omega arith) (omega arith)) h)
      (eq_or_ne (seen_at e r + x) (seen_at d s + from))
    where
      now : get_or after (seen_at d s + from) 0 ≡ Rattle.links.specs.Send.stamp_from from message
      now = unfold after message in took_seen d s from l d4 s4 f4 full old.room more

  -- the link that it was taken from, by the kind of the message
  own : (eqb (kind_of message) beat_kind ≡ true) ⊎ (eqb (kind_of message) beat_kind ≡ false) → LinkKept n l after s from (link_of s from d)
  unfolding after message
  own (inl e) =
      let a : held after (link_of s from d) ≡ held l (link_of s from d) - 1 = took_head d s from l d4 s4 f4 full old.room more ∙ pick_true _ _ e in
      let b : taken after (link_of s from d) ≡ taken l (link_of s from d) = took_first d s from l d4 s4 f4 full old.room more ∙ pick_true _ _ e in
      let r = old.room in
      record {
        head = λ h. record { room = omega arith; first = omega arith };
        copies = λ h. subst (AllOf (IsCopy n s from)) (sym (took_copies d s from l d4 s4 f4 full old.room more ∙ pick_true _ _ e));
        messages = λ h g. all_rest (IsMessage n s from) message _ waited;
      }
  own (inr e) =
      let a : held after (link_of s from d) ≡ held l (link_of s from d) = took_head d s from l d4 s4 f4 full old.room more ∙ pick_false _ _ e in
      let b : taken after (link_of s from d) ≡ taken l (link_of s from d) + 1 = took_first d s from l d4 s4 f4 full old.room more ∙ pick_false _ _ e in
      let r = old.room in
      record {
        head = λ h. record { room = omega arith; first = omega arith };
        copies = λ h g.
            subst (AllOf (IsCopy n s from)) (sym (took_copies d s from l d4 s4 f4 full old.room more ∙ pick_false _ _ e))
            (all_append (IsCopy n s from) _ (message ∷ []) g (all_one (IsCopy n s from) message copied));
        messages = λ h g. all_rest (IsMessage n s from) message _ waited;
      }
    where
      copied : IsCopy n s from message
      copied =
          ⊎_elim
          (λ (b : (kind_of message ≡ beat_kind) × (Rattle.book.specs.Layout.beat_of message ≤ end)). absurd (eqb-false (kind_of message) beat_kind e b.0))
          (λ (c : CopyOk n s from message). copy_close n s from message c)
          (message_cases n s from message ok)

  link : (r o to : ℕ) → r < n.shelves → o < n.depots → to < n.depots → (o ≡ to → ⊥) → LinkKept n l after r o (link_of r o to)
  unfolding after
  link r o to hr ho ht f =
      let a = W.depots in
      let b = W.shelves in
      ⊎_elim
      (λ (p : link_of r o to ≡ link_of s from d).
      let x : r ≡ s = omega arith in
      let y : o ≡ from = omega arith in
      let z : to ≡ d = omega arith in
      subst (λ (v : ℕ). LinkKept n l after v o (link_of v o to)) (sym x)
      (subst (λ (v : ℕ). LinkKept n l after s v (link_of s v to)) (sym y)
      (subst (λ (v : ℕ). LinkKept n l after s from (link_of s from v)) (sym z) (own (decided (eqb (kind_of message) beat_kind))))))
      (λ (p : link_of r o to ≡ link_of s from d → ⊥).
      link_stays n l after r o (link_of r o to) (length_took d s from l) (λ j x y. stays j (omega arith) (omega arith) (omega arith))
      (λ j x y. stays j (omega arith) (omega arith) (omega arith)))
      (eq_or_ne (link_of r o to) (link_of s from d))

  pub took_keeps : Keeps n l (took d s from l)
  unfolding after
  took_keeps =
      let a = W.depots in
      let b = W.shelves in
      record {
        size = length_took d s from l;
        low = λ j k. low j (omega arith);
        crews = crews_same n l after W (λ j x y. low j (omega arith));
        clocks = λ e r he hr. clock_same n l after W e r he hr (λ j x y. low j (omega arith));
        stables = λ e r he hr. stable_same n l after W e r he hr (λ j x y. low j (omega arith));
        stamps = stamps;
        links = link;
        stores = λ e k p q. stored_same n l after e k (took_stored d s from l d4 s4 f4 full old.room more e k);
      }
