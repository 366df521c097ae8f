-- What sending makes of a link out: the message stands last, behind all that was there.
-- Assumes nothing.
use Prim.Native.Nat.{ℕ, zero, suc, ◌+◌, ◌-◌, ◌≤◌, ◌<◌}
use native.Mathlib.Nat.{le_refl, le_of_eq}
use native.Mathlib.Omega.{arith}
use mathlib.Core.Path.{◌≡◌, sym, ◌∙◌, ap, ap₂, subst}
use mathlib.Core.Logic.{⊎_elim}
use mathlib.Core.List.{List, [], ◌∷◌, ◌++◌}
use lib.ListN.{length, get_or, length-set}
use lib.Seq.{get_or-set_same, get_or-set_other}
use borrow.Author.Tests.{ne_eqb}
use Rattle.loops.specs.Loops.{times}
use Rattle.loops.proofs.BoolLaws.{pick_false, eq_or_ne}
use Rattle.book.specs.Words.{part, put}
use Rattle.book.specs.Layout.{clock_at, slot_at, held_at, taken_at, link_of, clock, slot, held, taken, stored, stored_at}
use Rattle.book.proofs.WordsLaws.{length_put, put_same}
use Rattle.links.specs.Send.{sent_to, sent}
use Rattle.shelf.proofs.FrameLaws.{Off, part_off, times_grows}
use Rattle.links.proofs.SendFrame.{length_sent_to, sent_to_off, Free, Sending, sent_up_to, send_turns, waiting_held, length_sent, sent_off, sent_high}
use Rattle.shelf.proofs.SlotLaws.{slots, slots_off, slots_more}
use Rattle.shelf.proofs.ShowLaws.{taken_slots, untaken_slots}

-- the message m stands in the slot behind those that the link held in the book l, and the link counts one more
pub record SentOne (m l v : List ℕ) (q : ℕ) : Type 0 where
  pub last : slot v q (held l q) ≡ m
  pub head : held v q ≡ held l q + 1

sent_to_one :
    (d s : ℕ) (m : List ℕ) (to : ℕ) (l v : List ℕ) → (to ≡ d → ⊥) → length m ≡ 10 → link_of s d to < 64 → held l (link_of s d to) < 16 → 10596 ≤ length v →
    held v (link_of s d to) ≡ held l (link_of s d to) → SentOne m l (sent_to d s m to v) (link_of s d to)
unfolding sent_to
sent_to_one d s m to l v other ten hq room full same =
    subst (λ (x : List ℕ). SentOne m l x (link_of s d to)) (sym (pick_false _ _ (ne_eqb to d other)))
    (record {
      last =
          part_off _ (put v (slot_at (link_of s d to) (held v (link_of s d to))) m) (slot_at (link_of s d to) (held l (link_of s d to))) 10
          (length-set (put v _ m) _ _) (λ j x y. get_or-set_other (put v _ m) (held_at (link_of s d to)) j _ 0 (omega arith))
          ∙ ap (λ (a : ℕ). part (put v (slot_at (link_of s d to) a) m) (slot_at (link_of s d to) (held l (link_of s d to))) 10) same
          ∙ subst (λ (z : ℕ). part (put v (slot_at (link_of s d to) (held l (link_of s d to))) m) (slot_at (link_of s d to) (held l (link_of s d to))) z ≡ m) ten
          (put_same v (slot_at (link_of s d to) (held l (link_of s d to))) m (rw ten (omega arith)));
      head = get_or-set_same (put v _ m) (held_at (link_of s d to)) _ 0 (rw length_put (omega arith)) ∙ ap (λ (a : ℕ). a + 1) same;
    })

-- after i links of sending
record SentUp (d s : ℕ) (m l : List ℕ) (i : ℕ) (v : List ℕ) : Type 0 where
  frame : Sending d s l i v
  links : (to : ℕ) → to < i → (to ≡ d → ⊥) → SentOne m l v (link_of s d to)

module _ (n d s stamp : ℕ) (m l : List ℕ) (ten : length m ≡ 10) (full : length l ≡ 16384) (F : Free n d s l) where
  abbrev short : length m ≤ 10
  short = le_of_eq ten

  turn_up : (i : ℕ) (v : List ℕ) → i < n → Sending d s l (suc i) (sent_to d s m i v) → SentUp d s m l i v → SentUp d s m l (suc i) (sent_to d s m i v)
  turn_up i v k next u = record { frame = next; links = λ to z f. ⊎_elim (λ (g : to ≡ i). own to f g) (λ (g : to ≡ i → ⊥). other to (omega arith) f) (eq_or_ne to i) }
    where
      same : held v (link_of s d i) ≡ held l (link_of s d i)
      same = waiting_held n d s stamp m l short F i v (omega arith) u.frame i (le_refl _) k

      own : (to : ℕ) → (to ≡ d → ⊥) → to ≡ i → SentOne m l (sent_to d s m i v) (link_of s d to)
      own to f g =
          let a = F.depots in
          let b = F.depot in
          let c = F.shelf in
          subst (λ (x : ℕ). SentOne m l (sent_to d s m i v) (link_of s d x)) (sym g)
          (sent_to_one d s m i l v (λ e. f (g ∙ e)) ten (omega arith) (F.room i k (λ e. f (g ∙ e))) (rw (u.frame.size, full) (lib.Dec.lit≤ tt)) same)

      stays : (j : ℕ) → ((i ≡ d → ⊥) → Off (slot_at (link_of s d i) (held l (link_of s d i))) 10 j) → (j ≡ held_at (link_of s d i) → ⊥) → get_or (sent_to d s m i v) j 0 ≡ get_or v j 0
      stays j out head =
          sent_to_off d s m i v j short (λ e. subst (λ (a : ℕ). Off (slot_at (link_of s d i) a) 10 j) (sym same) (out e)) λ e. head

      other : (to : ℕ) → to < i → (to ≡ d → ⊥) → SentOne m l (sent_to d s m i v) (link_of s d to)
      other to z f =
          let a = F.depots in
          let b = F.depot in
          let c = F.shelf in
          let r = F.room to (omega arith) f in
          let o = u.links to z f in
          record {
            last =
                part_off _ v (slot_at (link_of s d to) (held l (link_of s d to))) 10 (length_sent_to d s m i v)
                (λ j x y. stays j (λ e. let t = F.room i k e in omega arith) (omega arith))
                ∙ o.last;
            head = stays (held_at (link_of s d to)) (λ e. omega arith) (omega arith) ∙ o.head;
          }

  sent_up : (i : ℕ) → i ≤ n → SentUp d s m l i (sent_up_to i d s stamp m l)
  unfolding times
  sent_up zero k = record { frame = send_turns n d s stamp m l short F 0 k; links = λ to z f. absurd (omega arith) }
  sent_up (suc i) k = turn_up i (sent_up_to i d s stamp m l) k (send_turns n d s stamp m l short F (suc i) k) (sent_up i (omega arith))

  sent_one : (to : ℕ) → to < n → (to ≡ d → ⊥) → SentOne m l (sent n d s stamp m l) (link_of s d to)
  unfolding sent
  sent_one = (sent_up n (le_refl _)).links

  -- the clock stands at the stamp
  pub sent_clock : clock (sent n d s stamp m l) d s ≡ stamp
  unfolding sent
  sent_clock =
      let b = F.depot in
      let c = F.shelf in
      times_grows (λ i (v : List ℕ). get_or v (clock_at d s) 0 ≡ stamp) n (sent_to d s m) _ (get_or-set_same l (clock_at d s) stamp 0 (rw full (omega arith)))
      λ to v k e. sent_to_off d s m to v (clock_at d s) short (λ f. omega arith) (λ f. omega arith) ∙ e

  module _ (to : ℕ) (k : to < n) (other : to ≡ d → ⊥) where
    pub sent_head : held (sent n d s stamp m l) (link_of s d to) ≡ held l (link_of s d to) + 1
    sent_head = (sent_one to k other).head

    pub sent_first : taken (sent n d s stamp m l) (link_of s d to) ≡ taken l (link_of s d to)
    sent_first =
        let a = F.depots in
        let b = F.depot in
        let c = F.shelf in
        sent_off n d s stamp m l short F (taken_at (link_of s d to)) (omega arith) λ x y z. (omega arith, omega arith)

    pub sent_slots : (a b : ℕ) → a + b ≤ held l (link_of s d to) → slots (sent n d s stamp m l) (link_of s d to) a b ≡ slots l (link_of s d to) a b
    sent_slots a b h =
        let p = F.depots in
        let q = F.depot in
        let r = F.shelf in
        let t = F.room to k other in
        slots_off l _ (link_of s d to) a b (length_sent n d s stamp m l) λ j x y.
        sent_off n d s stamp m l short F j (omega arith) λ e z f.
        let u = F.room e z f in
        (⊎_elim (λ (g : e ≡ to). own e g j (omega arith)) (λ (g : e ≡ to → ⊥). omega arith) (eq_or_ne e to), omega arith)
      where
        own : (e : ℕ) → e ≡ to → (j : ℕ) → j < slot_at (link_of s d to) (held l (link_of s d to)) → Off (slot_at (link_of s d e) (held l (link_of s d e))) 10 j
        own e g j h = subst (λ (x : ℕ). Off (slot_at (link_of s d x) (held l (link_of s d x))) 10 j) (sym g) (omega arith)

    -- the taken copies stay, and the message stands last of the untaken
    pub sent_copies : taken l (link_of s d to) ≤ held l (link_of s d to) → taken_slots (sent n d s stamp m l) (link_of s d to) ≡ taken_slots l (link_of s d to)
    unfolding taken_slots
    sent_copies h = ap (slots (sent n d s stamp m l) (link_of s d to) 0) sent_first ∙ sent_slots 0 (taken l (link_of s d to)) (omega arith)

    pub sent_waiting :
        taken l (link_of s d to) ≤ held l (link_of s d to) → untaken_slots (sent n d s stamp m l) (link_of s d to) ≡ untaken_slots l (link_of s d to) ++ (m ∷ [])
    unfolding untaken_slots
    sent_waiting h =
        ap₂ (λ (a b : ℕ). slots (sent n d s stamp m l) (link_of s d to) a (b - a)) sent_first sent_head
        ∙ ap (slots (sent n d s stamp m l) (link_of s d to) (taken l (link_of s d to))) (omega arith)
        ∙ slots_more (sent n d s stamp m l) (link_of s d to) (taken l (link_of s d to)) (held l (link_of s d to) - taken l (link_of s d to))
        ∙ ap₂ (λ (x : List (List ℕ)) (y : List ℕ). x ++ (y ∷ [])) (sent_slots _ _ (omega arith))
        (ap (slot (sent n d s stamp m l) (link_of s d to)) (omega arith) ∙ (sent_one to k other).last)

  pub sent_stored : (e k : ℕ) → stored (sent n d s stamp m l) e k ≡ stored l e k
  sent_stored e k = part_off _ l (stored_at e k) 9 (length_sent n d s stamp m l) λ j x y. sent_high n d s stamp m l short F j (omega arith)
