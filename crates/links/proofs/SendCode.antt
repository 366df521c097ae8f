-- The steps of sending: the message on one link, and room at every turn.
-- Assumes nothing.
use Prim.Native.Nat.{ℕ, ◌+◌, ◌<◌}
use native.Mathlib.Nat.{le_of_eq}
use mathlib.Core.Path.{◌≡◌, sym, ◌∙◌, ap, subst}
use mathlib.Core.List.{List}
use borrow.Author.Tests.{eq-eqb, ne_eqb}
use lib.ListN.{length, set}
use Rattle.loops.proofs.BoolLaws.{pick_true, pick_false}
use Rattle.book.specs.Words.{put}
use Rattle.book.specs.Layout.{slot_at, held_at, link_of, held}
use Rattle.shelf.specs.Asks.{Free}
use Rattle.links.specs.Send.{sent_to}
use Rattle.links.proofs.SendFrame.{sent_up_to, held_up_to}

pub send_done :
    (d s to : ℕ) (m l : List ℕ) {q h a i w : ℕ} {l₁ : List ℕ} → (to ≡ d → ⊥) → q ≡ link_of s d to → h ≡ held l q → a ≡ slot_at q h → l₁ ≡ put l a m →
    i ≡ held_at q → w ≡ h + 1 → set l₁ i w ≡ sent_to d s m to l
unfolding sent_to
send_done d s to m l {q} {h} {a} {i} {w} {l₁} other eq eh ea el ei ew =
    (λ z. set (el z) (ei z) (ew z))
    ∙ ap (λ (x : ℕ). set (put l x m) (held_at q) (h + 1)) ea
    ∙ ap (λ (x : ℕ). set (put l (slot_at q x) m) (held_at q) (x + 1)) eh
    ∙ ap (λ (x : ℕ). set (put l (slot_at x (held l x)) m) (held_at x) (held l x + 1)) eq
    ∙ sym (pick_false _ _ (ne_eqb to d other))

pub send_none : (d s to : ℕ) (m l : List ℕ) → to ≡ d → l ≡ sent_to d s m to l
unfolding sent_to
send_none d s to m l e = sym (pick_true _ _ (eq-eqb to d e))

-- what is known before the turn of a receiver
pub turn_room :
    (n d s stamp i : ℕ) (m l : List ℕ) {b : List ℕ} → length m ≡ 10 → Free n d s l → i < n → b ≡ sent_up_to i d s stamp m l → (i ≡ d → ⊥) → held b (link_of s d i) < 16
turn_room n d s stamp i m l size h k e o =
    let r = h.room i k o in
    subst (λ (v : List ℕ). held v (link_of s d i) < 16) (sym e)
    (subst (λ (x : ℕ). x < 16) (sym (held_up_to n d s stamp m l (le_of_eq size) h i k)) r)
