-- Raise and show is local. Both halves are one walk along the links into the shelf: a set that holds a link's words holds them until its turn comes,
-- since no turn before it writes there.
-- Assumes nothing.
use Prim.Native.Nat.{ℕ, zero, suc, ◌+◌, ◌≤◌, ◌<◌}
use native.Mathlib.Nat.{le_refl}
use native.Mathlib.Omega.{arith}
use mathlib.Core.Path.{◌≡◌, refl, sym, ◌∙◌, subst}
use mathlib.Core.Logic.{inl, inr, ⊎_elim}
use mathlib.Core.List.{List}
use mathlib.Core.Bool.{true}
use lib.Dec.{eqb}
use lib.ListN.{get_or}
use borrow.Author.Tests.{eqb-false, ne_eqb}
use Rattle.loops.specs.Loops.{times}
use Rattle.order.specs.Vector.{Vec, merged_at}
use Rattle.loops.proofs.BoolLaws.{and_left, and_right, or_next, eq_or_ne}
use Rattle.loops.proofs.LoopLaws.{times_keeps, every_at}
use Rattle.order.proofs.VectorLaws.{length_merged, merge_one_other}
use Rattle.book.specs.declared.parts.Counts.{Counts}
use Rattle.book.specs.Layout.{stable_at, link_of}
use Rattle.fit.specs.Fit.{Within, stable_fit, link_fit}
use Rattle.named.specs.Named.{arrival_fit, show_fit}
use Rattle.shelf.specs.Asks.{Ready}
use Rattle.shelf.specs.Show.{shown, settled}
use Rattle.shelf.proofs.FrameLaws.{pick_cases}
use Rattle.shelf.proofs.ShowFrame.{show_turn, show_turns, raised_off, raised_ready}
use Rattle.register.proofs.FitReady.{show_ready}
use Rattle.upkeep.specs.Local.{Agree, of_head, of_messages, ArrivalWord, of_link, of_place, ShowWord, of_stable, of_arrival}
use Rattle.upkeep.specs.Local.{SettledWord, the_entry, the_arrival}
use Rattle.upkeep.proofs.LocalBasics.{pick_alike}
use Rattle.upkeep.proofs.LocalParts.{head_open, link_headed}
use Rattle.upkeep.proofs.LocalMoves.{merged_agrees}
use Rattle.upkeep.proofs.LocalSweep.{But, Holds, holds_same, shown_link_agrees, shown_link_stays}

-- ---- all the links of a shelf

-- the set holds what showing the links into shelf s of depot d touches
abbrev pub Incoming : (ℕ → Type 0) → ℕ → ℕ → ℕ → List ℕ → Type 0
Incoming S n d s l = (from : ℕ) → from < n → (from ≡ d → ⊥) → Holds S d (link_of s from d) l

module _ (S : ℕ → Type 0) (n d s : ℕ) (l : List ℕ) (R : Ready n d s l) (links : Incoming S n d s l) where
  -- when its turn comes
  waiting_holds : (i : ℕ) → i < n → (i ≡ d → ⊥) → Holds S d (link_of s i d) (times i (show_turn n d s) l)
  waiting_holds i k e =
      let a = R.depots in
      let b = R.depot in
      let c = R.shelf in
      let t = show_turns n d s l R i (omega arith) in
      holds_same S d (link_of s i d) l _ t.size (λ j x y. t.same j (λ from z f. omega arith) (omega arith))
      (λ j x y. t.same j (λ from z f. omega arith) (omega arith)) (links i k e)

  place : (i : ℕ) → i < n → link_of s i d < 64
  place i k =
      let a = R.depots in
      let b = R.depot in
      let c = R.shelf in
      omega arith

  turns_agree :
      (m : List ℕ) → ((x : ℕ) → x < n → S (stable_at d s + x)) → Agree S l m → (i : ℕ) → i ≤ n →
      Agree S (times i (show_turn n d s) l) (times i (show_turn n d s) m)
  unfolding times
  turns_agree m stables A zero k = A
  turns_agree m stables A (suc i) k =
      let B = turns_agree m stables A i (omega arith) in
      pick_alike (Agree S) refl (λ e. B) λ e. shown_link_agrees S n d s i stables _ _ (place i k) (waiting_holds i k (eqb-false i d e)) B

turns_stay :
    (n d s : ℕ) (l : List ℕ) (j : ℕ) → Ready n d s l → Incoming (But j) n d s l → (i : ℕ) → i ≤ n →
    get_or (times i (show_turn n d s) l) j 0 ≡ get_or l j 0
unfolding times
turns_stay n d s l j R links zero k = refl
turns_stay n d s l j R links (suc i) k =
    pick_cases (λ (v : List ℕ). get_or v j 0 ≡ get_or (times i (show_turn n d s) l) j 0) (eqb i d) _ _ (λ e. refl)
    (λ e. shown_link_stays n d s i _ j (place (But j) n d s l R links i k) (waiting_holds (But j) n d s l R links i k (eqb-false i d e)))
    ∙ turns_stay n d s l j R links i (omega arith)

-- ---- raise and show

module _ (S : ℕ → Type 0) (n d s : ℕ) (offered : Vec) (l : List ℕ) (R : Ready n d s l) (links : Incoming S n d s l) where
  raised_holds : Incoming S n d s (merged_at n d offered (stable_at d s) l)
  raised_holds from k e =
      let a = R.depots in
      let b = R.depot in
      let c = R.shelf in
      holds_same S d (link_of s from d) l _ (length_merged n d offered (stable_at d s) l) (λ j x y. raised_off n d s offered l j (omega arith))
      (λ j x y. raised_off n d s offered l j (omega arith)) (links from k e)

  pub settled_agrees :
      (other : Vec) (m : List ℕ) → ((x : ℕ) → x < n → S (stable_at d s + x)) → ((x : ℕ) → x < n → (x ≡ d → ⊥) → offered x ≡ other x) → Agree S l m →
      Agree S (settled n d s offered l) (settled n d s other m)
  unfolding settled shown
  settled_agrees other m stables same A =
      turns_agree S n d s _ (raised_ready n d s offered l R) raised_holds _ stables
      (merged_agrees S n d (stable_at d s) offered other l m (λ x k f. stables x k) same A) n (le_refl _)

pub settled_stays :
    (n d s : ℕ) (offered : Vec) (l : List ℕ) (j : ℕ) → Ready n d s l → ((x : ℕ) → x < n → (x ≡ d → ⊥) → j ≡ stable_at d s + x → ⊥) →
    Incoming (But j) n d s l → get_or (settled n d s offered l) j 0 ≡ get_or l j 0
unfolding settled shown
settled_stays n d s offered l j R entries links =
    turns_stay n d s _ j (raised_ready n d s offered l R) (raised_holds (But j) n d s offered l R links) n (le_refl _) ∙ raised
  where
    raised : get_or (merged_at n d offered (stable_at d s) l) j 0 ≡ get_or l j 0
    raised =
        unfold merged_at in
        times_keeps (λ (v : List ℕ). get_or v j 0 ≡ get_or l j 0) n _ l
        (λ x v k h.
        merge_one_other d (stable_at d s) x (offered x) v j (⊎_elim (λ (e : x ≡ d). inr e) (λ (e : x ≡ d → ⊥). inl (entries x k e)) (eq_or_ne x d)) ∙ h) refl

-- ---- by the words that are named

-- a fit link, and the places of its taken copies
pub arrival_holds :
    (S : ℕ → Type 0) (n : Counts) (l : List ℕ) (d s from : ℕ) → link_fit n l s from (link_of s from d) ≡ true → ((j : ℕ) → ArrivalWord n l d s from j → S j) →
    Holds S d (link_of s from d) l
arrival_holds S n l d s from f W =
    let h = link_headed n l s from (link_of s from d) f in
    let o = head_open l (link_of s from d) h in
    record {
      room = o.0;
      first = o.1;
      heads = λ j i. W j (of_link (of_head i));
      slots = λ j i. W j (of_link (of_messages h i));
      places = λ i k j x. W j (of_place f i k x);
    }

-- fit parts that raise and show touches have fit links
pub arrives :
    (n : Counts) (l : List ℕ) (d s : ℕ) → show_fit n l d s ≡ true → (from : ℕ) → from < n.depots → (from ≡ d → ⊥) →
    link_fit n l s from (link_of s from d) ≡ true
unfolding show_fit arrival_fit
arrives n l d s h from k f =
    and_left (link_fit n l s from (link_of s from d)) _
    (sym (or_next (arrival_fit n l d s from) (ne_eqb from d f)) ∙ every_at n.depots _ (and_right (stable_fit n l d s) _ h) from k)

-- what raise and show writes is named
pub settled_named : (n : Counts) (l : List ℕ) (d s j : ℕ) → SettledWord n l d s j → ShowWord n l d s j
settled_named n l d s j (the_entry x k f e) = of_stable (omega arith, omega arith)
settled_named n l d s j (the_arrival from k f w) = of_arrival from k f w

module _ (n : Counts) (l : List ℕ) (W : Within n) (d s : ℕ) (hd : d < n.depots) (hs : s < n.shelves) (h : show_fit n l d s ≡ true) (offered : Vec) where
  pub settle_agrees :
      (S : ℕ → Type 0) (m : List ℕ) (other : Vec) → ((j : ℕ) → ShowWord n l d s j → S j) → ((x : ℕ) → x < n.depots → (x ≡ d → ⊥) → offered x ≡ other x) →
      Agree S l m → Agree S (settled n.depots d s offered l) (settled n.depots d s other m)
  settle_agrees S m other held same A =
      settled_agrees S n.depots d s offered l (show_ready n l W d s hd hs h)
      (λ from k f. arrival_holds S n l d s from (arrives n l d s h from k f) (λ j x. held j (of_arrival from k f x))) other m
      (λ x k. held _ (of_stable (omega arith, omega arith))) same A

  pub settle_stays : (j : ℕ) → (SettledWord n l d s j → ⊥) → get_or (settled n.depots d s offered l) j 0 ≡ get_or l j 0
  settle_stays j out =
      settled_stays n.depots d s offered l j (show_ready n l W d s hd hs h) (λ x k f e. out (the_entry x k f e)) λ from k f.
      arrival_holds (But j) n l d s from (arrives n l d s h from k f) λ i w e.
      out (the_arrival from k f (subst (ArrivalWord n l d s from) e w))
