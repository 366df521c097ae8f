-- The changes that calls are made of, made to two books that agree on what the change reads: they agree afterwards, and on what was sent.
-- Assumes nothing.
use Prim.Native.Nat.{ℕ, zero, suc, ◌+◌, ◌*◌, ◌-◌, ◌≤◌, ◌<◌, max}
use native.Mathlib.Nat.{le_refl, le_of_eq}
use native.Mathlib.Omega.{arith}
use mathlib.Core.Path.{◌≡◌, refl, sym, ◌∙◌, ap, ap₂, subst, subst₂, subst₃}
use mathlib.Core.Logic.{◌⊎◌, inl, inr, ⊎_elim}
use mathlib.Core.List.{List}
use lib.ListN.{length, get_or, set}
use borrow.Author.Tests.{eqb-true, eqb-false}
use Rattle.loops.specs.Loops.{times}
use Rattle.order.specs.Vector.{Vec, merge_one, merged_at}
use Rattle.order.specs.Order.{above}
use Rattle.order.specs.Record.{bearing_of, rank_of}
use Rattle.loops.proofs.BoolLaws.{eq_or_ne}
use Rattle.book.specs.Words.{put}
use Rattle.book.specs.Layout.{clock_at, seen_at, link_of, held_at, slot_at, stored_at, held, taken, slot}
use Rattle.shelf.specs.Asks.{Free}
use Rattle.shelf.specs.Show.{kept_in, closed_up, with_head}
use Rattle.links.specs.Send.{sent_to, sent, stamp_from, moved_on, took}
use Rattle.links.proofs.SendFrame.{sent_up_to, length_sent_up_to, held_up_to}
use Rattle.upkeep.specs.Local.{Agree, In}
use Rattle.upkeep.proofs.LocalBasics.{pick_alike, times_alike, set_agrees, put_agrees, put_brings, part_agrees}

module _ (S : ℕ → Type 0) where
  -- the entrywise maximum, with vectors that agree
  pub merged_agrees :
      (n d at : ℕ) (u o : Vec) (v w : List ℕ) → ((x : ℕ) → x < n → (x ≡ d → ⊥) → S (at + x)) → ((x : ℕ) → x < n → (x ≡ d → ⊥) → u x ≡ o x) → Agree S v w →
      Agree S (merged_at n d u at v) (merged_at n d o at w)
  unfolding merged_at merge_one
  merged_agrees n d at u o v w here same A =
      times_alike (Agree S) n _ _ v w A λ x p q k B.
      pick_alike (Agree S) refl (λ e. B) λ e.
      let f = eqb-false x d e in
      set_agrees S p q refl (ap₂ max (B.words (at + x) (here x k f)) (same x k f)) B

  -- a record stored if greater
  pub kept_in_agrees :
      (n d : ℕ) (r v w : List ℕ) → ((j : ℕ) → In (stored_at d (bearing_of r)) 9 j → S j) → Agree S v w → Agree S (kept_in n d r v) (kept_in n d r w)
  unfolding kept_in
  kept_in_agrees n d r v w here A =
      pick_alike (Agree S) (ap (λ (z : List ℕ). above n (rank_of r) (rank_of z)) (part_agrees S v w 9 refl here A)) (λ e. put_agrees S v w refl refl A) λ e. A

  -- a link closed up, and its head
  pub closed_up_agrees :
      (q j g h : ℕ) (v w : List ℕ) → ((i : ℕ) → In (slot_at q (j + g)) (10 * (h - (j + g))) i → S i) → Agree S v w →
      Agree S (closed_up q j g h v) (closed_up q j g h w)
  unfolding closed_up
  closed_up_agrees q j g h v w here A =
      put_agrees S (put v _ _) (put w _ _) refl refl (put_agrees S v w refl (part_agrees S v w (10 * (h - (j + g))) refl here A) A)

  pub with_head_agrees : (q h t : ℕ) (v w : List ℕ) → Agree S v w → Agree S (with_head q h t v) (with_head q h t w)
  unfolding with_head
  with_head_agrees q h t v w A = set_agrees S (set v _ _) (set w _ _) refl refl (set_agrees S v w refl refl A)

  -- ---- taking

  moved_on_agrees :
      (q h t : ℕ) (x v w : List ℕ) → ((i : ℕ) → In (slot_at q (t + 1)) (10 * (h - (t + 1))) i → S i) → Agree S v w →
      Agree S (moved_on q h t x v) (moved_on q h t x w)
  unfolding moved_on
  moved_on_agrees q h t x v w here A =
      pick_alike (Agree S) refl (λ e. set_agrees S (closed_up q t 1 h v) (closed_up q t 1 h w) refl refl (closed_up_agrees q t 1 h v w here A)) λ e.
      set_agrees S v w refl refl A

  pub took_agrees :
      (d s from : ℕ) (v w : List ℕ) → held v (link_of s from d) ≡ held w (link_of s from d) → taken v (link_of s from d) ≡ taken w (link_of s from d) →
      taken v (link_of s from d) < held v (link_of s from d) →
      ((i : ℕ) → In (slot_at (link_of s from d) (taken v (link_of s from d))) (10 * (held v (link_of s from d) - taken v (link_of s from d))) i → S i) →
      Agree S v w →
      Agree S (took d s from v) (took d s from w)
  unfolding took
  took_agrees d s from v w eh et more here A =
      let q = link_of s from d in
      let t = taken v q in
      let h = held v q in
      subst₃
      (λ (y z : ℕ) (x : List ℕ).
      Agree S (moved_on q h t (slot v q t) (set v (seen_at d s + from) (stamp_from from (slot v q t))))
      (moved_on q y z x (set w (seen_at d s + from) (stamp_from from x))))
      eh et
      (part_agrees S v w 10 (ap (slot_at q) et) (λ j i. let a = i.0 in let b = i.1 in here j (omega arith, omega arith)) A)
      (moved_on_agrees q h t (slot v q t) (set v (seen_at d s + from) (stamp_from from (slot v q t))) (set w (seen_at d s + from) (stamp_from from (slot v q t)))
      (λ j i. let a = i.0 in let b = i.1 in here j (omega arith, omega arith)) (set_agrees S v w refl refl A))

  -- ---- sending on one link

  module _ (d s : ℕ) (x : List ℕ) (to : ℕ) (v w : List ℕ) (here : (to ≡ d → ⊥) → S (held_at (link_of s d to))) (A : Agree S v w) where
    sent_to_agrees : Agree S (sent_to d s x to v) (sent_to d s x to w)
    unfolding sent_to
    sent_to_agrees =
        pick_alike (Agree S) refl (λ e. A) λ e.
        let h = A.words _ (here (eqb-false to d e)) in
        set_agrees S (put v _ x) (put w _ x) refl (ap (λ (k : ℕ). k + 1) h) (put_agrees S v w (ap (slot_at (link_of s d to)) h) refl A)

    -- the slot that it went to is the same in both, whatever stood there
    sent_to_brings :
        (to ≡ d → ⊥) → slot_at (link_of s d to) (held v (link_of s d to)) + length x ≤ length v → (j : ℕ) →
        In (slot_at (link_of s d to) (held v (link_of s d to))) (length x) j → get_or (sent_to d s x to v) j 0 ≡ get_or (sent_to d s x to w) j 0
    unfolding sent_to
    sent_to_brings f room j i =
        let q = link_of s d to in
        let a = slot_at q (held v q) in
        let T : ℕ → Type 0 = λ (z : ℕ). S z ⊎ In a (length x) z in
        pick_alike (λ (y z : List ℕ). get_or y j 0 ≡ get_or z j 0) refl (λ e. absurd (f (eqb-true to d e))) λ e.
        subst (λ (k : ℕ). get_or (set (put v a x) (held_at q) (held v q + 1)) j 0 ≡ get_or (set (put w (slot_at q k) x) (held_at q) (k + 1)) j 0)
        (A.words _ (here f))
        ((set_agrees T (put v a x) (put w a x) refl refl (put_brings S v w a x room A)).words j (inr i))

-- ---- sending on every link out

-- word j is one of the slots that the first i links out of the book l have next
abbrev pub SlotsOut : ℕ → ℕ → ℕ → List ℕ → ℕ → Type 0
SlotsOut i d s l j = (to : ℕ) × (to < i) × (to ≡ d → ⊥) × In (slot_at (link_of s d to) (held l (link_of s d to))) 10 j

module _
    (S : ℕ → Type 0) (n d s stamp : ℕ) (x : List ℕ) (ten : length x ≡ 10) (l m : List ℕ) (full : length l ≡ 16384) (F : Free n d s l)
    (here : (to : ℕ) → to < n → (to ≡ d → ⊥) → S (held_at (link_of s d to))) (A : Agree S l m) where
  sent_turn :
      (i : ℕ) → i < n → Agree (λ (j : ℕ). S j ⊎ SlotsOut i d s l j) (sent_up_to i d s stamp x l) (sent_up_to i d s stamp x m) →
      Agree (λ (j : ℕ). S j ⊎ SlotsOut (suc i) d s l j) (sent_to d s x i (sent_up_to i d s stamp x l)) (sent_to d s x i (sent_up_to i d s stamp x m))
  sent_turn i k B = record { size = C.size; words = λ j z. ⊎_elim (λ (y : S j). C.words j (inl y)) (λ (y : SlotsOut (suc i) d s l j). slots j y) z }
    where
      v : List ℕ
      v = sent_up_to i d s stamp x l

      T : ℕ → Type 0
      T j = S j ⊎ SlotsOut i d s l j

      C : Agree T (sent_to d s x i v) (sent_to d s x i (sent_up_to i d s stamp x m))
      C = sent_to_agrees T d s x i v (sent_up_to i d s stamp x m) (λ f. inl (here i k f)) B

      same : held v (link_of s d i) ≡ held l (link_of s d i)
      same = held_up_to n d s stamp x l (le_of_eq ten) F i k

      room : (i ≡ d → ⊥) → slot_at (link_of s d i) (held v (link_of s d i)) + length x ≤ length v
      room f =
          let a = F.depots in
          let b = F.depot in
          let c = F.shelf in
          let e = F.room i k f in
          let z : length v ≡ 16384 = length_sent_up_to n d s stamp x l i ∙ full in
          let y = same in
          omega arith

      own :
          (j : ℕ) → (i ≡ d → ⊥) → In (slot_at (link_of s d i) (held l (link_of s d i))) 10 j →
          get_or (sent_to d s x i v) j 0 ≡ get_or (sent_to d s x i (sent_up_to i d s stamp x m)) j 0
      own j f y =
          sent_to_brings T d s x i v (sent_up_to i d s stamp x m) (λ g. inl (here i k g)) B f (room f) j
          (subst₂ (λ (a b : ℕ). In (slot_at (link_of s d i) a) b j) (sym same) (sym ten) y)

      slots : (j : ℕ) → SlotsOut (suc i) d s l j → get_or (sent_to d s x i v) j 0 ≡ get_or (sent_to d s x i (sent_up_to i d s stamp x m)) j 0
      slots j y =
          ⊎_elim
          (λ (e : y.0 ≡ i).
          own j (λ g. y.2 (e ∙ g)) (subst (λ (z : ℕ). In (slot_at (link_of s d z) (held l (link_of s d z))) 10 j) e y.3))
          (λ (e : y.0 ≡ i → ⊥). let a = y.1 in C.words j (inr (y.0, omega arith, y.2, y.3)))
          (eq_or_ne y.0 i)

  sent_turns : (i : ℕ) → i ≤ n → Agree (λ (j : ℕ). S j ⊎ SlotsOut i d s l j) (sent_up_to i d s stamp x l) (sent_up_to i d s stamp x m)
  unfolding times
  sent_turns zero k =
      let B : Agree S (set l (clock_at d s) stamp) (set m (clock_at d s) stamp) = set_agrees S l m refl refl A in
      record { size = B.size; words = λ j z. ⊎_elim (λ (y : S j). B.words j y) (λ (y : SlotsOut 0 d s l j). let c = y.1 in absurd (omega arith)) z }
  sent_turns (suc i) k = sent_turn i k (sent_turns i (omega arith))

  pub sent_agrees : Agree (λ (j : ℕ). S j ⊎ SlotsOut n d s l j) (sent n d s stamp x l) (sent n d s stamp x m)
  unfolding sent
  sent_agrees = sent_turns n (le_refl _)
