-- A book in which only one crew's vector has moved is the state with that vector put; and what a read tells of a record.
-- Assumes nothing.
use Prim.Native.Nat.{ℕ, zero, suc, ◌+◌, ◌-◌, ◌%◌, ◌≤◌, ◌<◌}
use native.Mathlib.Omega.{arith}
use mathlib.Core.Path.{◌≡◌, refl, sym, ◌∙◌, ap, ap₂, fun_ext, subst}
use mathlib.Core.Logic.{⊎_elim}
use mathlib.Core.Bool.{true, false, ◌&&◌}
use mathlib.Core.List.{List, [], ◌∷◌, ◌++◌}
use lib.Dec.{eqb, ltb}
use lib.ListN.{length, get_or, take, length-take, get_or-append}
use lib.Seq.{ext_get_or, get_or-take, get_or_at}
use borrow.Author.Tests.{lt-ltb, ltb-true, eqb-true, eqb-false}
use Rattle.loops.specs.Loops.{pick}
use Rattle.order.specs.Vector.{Vec, zeros}
use Rattle.order.specs.Record.{vector_of}
use Rattle.loops.proofs.BoolLaws.{decided, pick_true, pick_false, eq_or_ne}
use Rattle.book.specs.Layout.{crew_at, clock_at, stable_at, seen_at, stored_at, link_of, held_at, taken_at, slot_at, slot}
use Rattle.shelf.proofs.FrameLaws.{Off, part_off}
use Rattle.register.specs.Answers as answers
use Rattle.register.specs.Answers.{cut}
use Rattle.model.specs.Parts.{Counts, Version, Shelf, put, other, unwritten, empty_shelf, set_crew}
use Rattle.paper.specs.Calls.{read_unwritten, read_value}
use Rattle.model.specs.Calls.{entries, told}
use Rattle.bridge.specs.View.{entries_at, version_of, message_of, listed, untaken_on, store_at, shelf_at, view_by}
use Rattle.bridge.proofs.Basics.{Same, pick_then, length_listed, listed_same, same_entries, shelf_path, state_path}
use Rattle.bridge.proofs.Kept.{taken_on_same, homes_kept}
use Rattle.bridge.proofs.Decoded.{version_entry, version_zeros, version_written}

-- ---- words from 84 on are the shelves

module _ (π : Counts) (m v : List ℕ) (size : length v ≡ length m) (above : (j : ℕ) → 84 ≤ j → get_or v j 0 ≡ get_or m j 0) where
  slot_above : (q i : ℕ) → slot v q i ≡ slot m q i
  slot_above q i = part_off v m (slot_at q i) 10 size λ j x y. above j (omega arith)

  pub shelf_above : (d s : ℕ) → shelf_at π v d s ≡ shelf_at π m d s
  unfolding shelf_at store_at untaken_on
  shelf_above d s =
      shelf_path
      (above (clock_at d s) (omega arith))
      (same_entries π.depots m v (stable_at d s) (λ j x y. above j (omega arith)))
      (fun_ext λ x. pick_then (other π.depots d x) 0 λ t. above (seen_at d s + x) (omega arith))
      (fun_ext λ k. pick_then (ltb k π.bearings && eqb (k % π.shelves) s) unwritten λ t.
      ap (version_of π.depots) (part_off v m (stored_at d k) 9 size λ j x y. above j (omega arith)))
      (fun_ext λ o. pick_then (other π.depots d o) [] λ t. taken_on_same π.depots m v size (link_of s o d) (above _ (omega arith)) λ i k. slot_above (link_of s o d) i)
      (fun_ext λ o. pick_then (other π.depots d o) [] λ t.
      ap₂ (λ (a b : ℕ). listed (b - a) (λ i. message_of π.depots (slot v (link_of s o d) (a + i)))) (above (taken_at (link_of s o d)) (omega arith)) (above (held_at (link_of s o d)) (omega arith))
      ∙ listed_same _ _ _ λ i k. ap (message_of π.depots) (slot_above (link_of s o d) _))

  pub crew_view : (c : ℕ) (u : Vec) → π.depots ≤ 4 → π.crews ≤ 16 → c < π.crews → Same m v 4 16 → ((j : ℕ) → 20 ≤ j → Off (crew_at c) 4 j → get_or v j 0 ≡ get_or m j 0)
      → entries_at π.depots v (crew_at c) ≡ u → view_by π v ≡ set_crew c u (view_by π m)
  unfolding set_crew put view_by
  crew_view c u few room kc homes crews here =
      state_path
      (λ d s. ap (λ (h : Shelf). pick (ltb d π.depots && ltb s π.shelves) h empty_shelf) (shelf_above d s))
      (fun_ext λ e.
      ⊎_elim
      (λ (t : eqb e c ≡ true).
      subst (λ (x : ℕ). pick (ltb x π.crews) (entries_at π.depots v (crew_at x)) (λ y. 0) ≡ u) (sym (eqb-true e c t)) (pick_true _ _ (lt-ltb c _ kc) ∙ here) ∙ sym (pick_true _ _ t))
      (λ (t : eqb e c ≡ false).
      pick_then (ltb e π.crews) (λ y. 0) (λ z. let k = ltb-true e _ z in let n = eqb-false e c t in
      same_entries π.depots m v (crew_at e) λ j x y. crews j (omega arith) (omega arith))
      ∙ sym (pick_false _ _ t))
      (decided (eqb e c)))
      (homes_kept π m v size room homes)

-- ---- what a read tells

listed_at : (n : ℕ) (u : Vec) (i : ℕ) → i < n → get_or (listed n u) i 0 ≡ u i
unfolding listed
listed_at zero u i h = absurd (omega arith)
listed_at (suc n) u i h =
    ⊎_elim
    (λ (e : i ≡ n). get_or_at (listed n u) (u n) [] 0 i (length_listed n u ∙ sym e) ∙ ap u (sym e))
    (λ (e : i ≡ n → ⊥). get_or-append (listed n u) (u n ∷ []) 0 i (let z = length_listed n u in omega arith) ∙ listed_at n u i (omega arith))
    (eq_or_ne i n)

entries_listed : (n : ℕ) (u : Vec) → entries n u ≡ listed n u
unfolding entries listed
entries_listed zero u = refl
entries_listed (suc n) u = ap (λ (a : List ℕ). a ++ (u n ∷ [])) (entries_listed n u)

cut_at : (n : ℕ) (v : Vec) (i : ℕ) → i < 4 → get_or (cut n v) i 0 ≡ pick (ltb i n) (v i) 0
unfolding cut
cut_at n v zero h = refl
cut_at n v (suc zero) h = refl
cut_at n v (suc (suc zero)) h = refl
cut_at n v (suc (suc (suc zero))) h = refl
cut_at n v (suc (suc (suc (suc i)))) h = absurd (omega arith)

cut_entries : (n : ℕ) (u v : Vec) → n ≤ 4 → ((x : ℕ) → x < n → u x ≡ v x) → take n (cut n u) ≡ entries n v
cut_entries n u v few h =
    ext_get_or 0 _ _ (size ∙ sym (length_listed n v) ∙ ap (λ (a : List ℕ). length a) (sym (entries_listed n v))) λ i k.
    let z : i < n = subst (λ (x : ℕ). i < x) size k in
    get_or-take n (cut n u) i 0 z ∙ cut_at n u i (omega arith) ∙ pick_true _ _ (lt-ltb i n z) ∙ h i z ∙ sym (listed_at n v i z) ∙ ap (λ (a : List ℕ). get_or a i 0) (sym (entries_listed n v))
  where
    size : length (take n (cut n u)) ≡ n
    size = length-take n (cut n u) ∙ (unfold cut in omega arith)

pub told_here : (n : ℕ) (r : List ℕ) → n ≤ 4 → answers.told n r ≡ told n (version_of n r)
unfolding answers.told told
told_here n r few =
    ⊎_elim
    (λ (z : zeros n (vector_of r) ≡ true).
    pick_true _ _ z ∙ ap read_unwritten same ∙ sym (pick_true _ _ (version_zeros n r ∙ z)))
    (λ (z : zeros n (vector_of r) ≡ false).
    pick_false _ _ z
    ∙ ap₂ read_value (sym (ap (λ (v : Version). v.payload) (version_written n r z))) same ∙ sym (pick_false _ _ (version_zeros n r ∙ z)))
    (decided (zeros n (vector_of r)))
  where
    same : take n (cut n (vector_of r)) ≡ entries n (version_of n r).vector
    same = cut_entries n (vector_of r) (version_of n r).vector few λ x k. sym (version_entry n r x k)
