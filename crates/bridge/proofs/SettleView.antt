-- Raise and show on the words is raise and show in the model.
-- Assumes nothing.
use Prim.Native.Nat.{ℕ, zero, suc, ◌+◌, ◌%◌, ◌≤◌, ◌<◌, max}
use native.Mathlib.Nat.{le_refl, zero-add}
use native.Mathlib.Omega.{arith}
use mathlib.Core.Path.{◌≡◌, refl, sym, ◌∙◌, ap, ap₂, fun_ext, subst}
use mathlib.Core.Logic.{◌⊎◌, inl, inr, ⊎_elim}
use mathlib.Core.Bool.{Bool, true, false, ◌&&◌}
use mathlib.Core.List.{List, [], map}
use lib.Dec.{eqb, ltb}
use lib.ListN.{length, get_or}
use borrow.Author.Tests.{lt-ltb, ltb-true, ltb-false, eq-eqb, ne_eqb}
use Rattle.loops.specs.Loops.{times, pick}
use Rattle.order.specs.Vector.{Vec}
use Rattle.loops.proofs.BoolLaws.{decided, failed, and_left, pick_true, pick_false, eq_or_ne}
use Rattle.order.proofs.VectorLaws.{merged_entry, merged_own}
use Rattle.book.specs.Layout.{clock_at, stable_at, link_of, stored_at, stable, stored, taken, slot, record_of}
use Rattle.shelf.specs.Show as show
use Rattle.shelf.proofs.ShowFrame as frame
use Rattle.shelf.proofs.SweepLaws.{clear_at}
use Rattle.shelf.proofs.ShowLaws.{taken_slots}
use Rattle.shelf.proofs.AllLaws.{AllOf, all_slots}
use Rattle.shelf.proofs.ShownLaws.{raised_book, settle_turn, settled_copies, settled_waiting, settled_store}
use Rattle.model.specs.Parts.{Counts, Write, Shelf, other, unwritten}
use Rattle.model.specs.Rules.{raised, clear, shown_of, left, shown, settled, settle}
use Rattle.model.proofs.Places.{Other, other_true, other_intro}
use Rattle.bridge.specs.View.{entries_at, version_of, message_of, store_at, shelf_at, view_by}
use Rattle.bridge.proofs.Basics.{pick_then, shelf_path}
use Rattle.bridge.proofs.Sound.{Sound}
use Rattle.bridge.proofs.Looks.{shelf_here, taken_here}
use Rattle.bridge.proofs.Kept.{seen_kept}
use Rattle.bridge.proofs.Decoded.{write_clear, taken_decoded, untaken_decoded}
use Rattle.bridge.proofs.Moved.{view_moved}
use Rattle.bridge.proofs.ShowView.{copied, left_decoded, guarded, LiesOn, shown_guarded, shown_elsewhere}

module _ (π : Counts) (l : List ℕ) (S : Sound π l) (d s : ℕ) (kd : d < π.depots) (ks : s < π.shelves) where
  ready : frame.Ready π.depots d s l
  ready =
      let a = S.small.depots in
      let b = S.small.shelves in
      record {
        depots = a;
        depot = omega arith;
        shelf = omega arith;
        links = λ from k e. let L = S.links s from d ks k kd e in record {
          room = L.few;
          first = L.order;
          bearings = λ i z. let c = (L.copies i z).1.known in let g = S.small.bearings in omega arith;
        };
      }

  lying : (o : ℕ) → Other π.depots d o → AllOf (LiesOn π s) (taken_slots l (link_of s o d))
  unfolding taken_slots
  lying o k =
      let L = S.links s o d ks k.below kd k.apart in
      all_slots _ l (link_of s o d) 0 (taken l (link_of s o d)) λ i z.
      subst (λ (x : ℕ). LiesOn π s (slot l (link_of s o d) x)) (sym (zero-add i)) (record { known = (L.copies i z).1.known; lies = (L.copies i z).1.lies })

  module _ (u u' : Vec) (agree : (x : ℕ) → Other π.depots d x → u x ≡ u' x) where
    n : ℕ
    n = π.depots

    v : List ℕ
    v = show.settled π.depots d s u l

    h : Shelf
    h = shelf_at π l d s

    size : length v ≡ length l
    unfolding v
    size = frame.length_settled π.depots d s u l

    same : (j : ℕ) → (stable_at d s ≤ j → j < stable_at d s + 4 → ⊥) → frame.OffLinks π.depots d s j → (stored_at d 0 ≤ j → j < stored_at d 0 + 1440 → ⊥) → get_or v j 0 ≡ get_or l j 0
    unfolding v
    same j x y z = let a = S.small.depots in frame.settled_off π.depots d s u l ready j (λ p q. x p (omega arith)) y z

    -- ---- the stable vector

    raised_word : (x : ℕ) → x < π.depots → get_or v (stable_at d s + x) 0 ≡ get_or (raised_book π.depots d s u l) (stable_at d s + x) 0
    unfolding v show.settled
    raised_word x k =
        let a = S.small.depots in let b = S.small.shelves in
        frame.shown_off π.depots d s (raised_book π.depots d s u l) (frame.raised_ready π.depots d s u l ready) (stable_at d s + x) (λ from z f. omega arith) (omega arith)

    raised_entry : (x : ℕ) → x < π.depots → get_or (raised_book π.depots d s u l) (stable_at d s + x) 0 ≡ raised π.depots d u' (entries_at π.depots l (stable_at d s)) x
    unfolding raised entries_at
    raised_entry x k =
        let a = S.small.depots in let b = S.small.shelves in let f = S.full in
        let entry : pick (ltb x π.depots) (get_or l (stable_at d s + x) 0) 0 ≡ get_or l (stable_at d s + x) 0 = pick_true _ _ (lt-ltb x _ k) in
        ⊎_elim
        (λ (e : x ≡ d).
        ap (λ (y : ℕ). get_or (raised_book π.depots d s u l) (stable_at d s + y) 0) e ∙ merged_own π.depots d u (stable_at d s) l ∙ ap (λ (y : ℕ). get_or l (stable_at d s + y) 0) (sym e) ∙ sym entry
        ∙ sym (pick_false _ _ (failed (other π.depots d x) (λ t. (other_true π.depots d x t).apart e))))
        (λ (e : x ≡ d → ⊥).
        let o : Other π.depots d x = record { below = k; apart = e } in
        merged_entry π.depots d u (stable_at d s) l (omega arith) x k e ∙ ap₂ max (sym entry) (agree x o) ∙ sym (pick_true _ _ (other_intro o)))
        (eq_or_ne x d)

    stables : entries_at π.depots v (stable_at d s) ≡ raised π.depots d u' (entries_at π.depots l (stable_at d s))
    unfolding entries_at raised
    stables = fun_ext λ x.
        ⊎_elim
        (λ (e : ltb x π.depots ≡ true). pick_true _ _ e ∙ raised_word x (ltb-true x _ e) ∙ raised_entry x (ltb-true x _ e))
        (λ (e : ltb x π.depots ≡ false).
        let g = ltb-false x π.depots e in
        let t : other π.depots d x ≡ false = failed (other π.depots d x) (λ t. let k = (other_true π.depots d x t).below in omega arith) in
        pick_false _ _ e ∙ sym (pick_false _ _ t ∙ pick_false _ _ e))
        (decided (ltb x π.depots))

    -- ---- the test is the same

    stable' : Vec
    stable' = raised π.depots d u' (entries_at π.depots l (stable_at d s))

    test : Write → Bool
    test = clear π.depots d stable'

    check : List ℕ → Bool
    check = clear_at π.depots d s (raised_book π.depots d s u l)

    tests : (m : List ℕ) → test (copied π.depots m) ≡ check m
    unfolding test check clear_at stable'
    tests m = write_clear π.depots d stable' (stable (raised_book π.depots d s u l) d s) (record_of m) λ x k. sym (raised_entry x k)

    -- ---- links and store

    takens : (shelf_at π v d s).taken ≡ (λ (o : ℕ). left test (h.taken o))
    unfolding shelf_at h v check left
    takens = fun_ext λ o.
        ⊎_elim
        (λ (e : other π.depots d o ≡ true).
        let k = other_true π.depots d o e in
        pick_true _ _ e ∙ taken_decoded π.depots v (link_of s o d)
        ∙ ap (map (copied π.depots)) (settled_copies π.depots d s u l S.full ready o k.below k.apart)
        ∙ sym (left_decoded π.depots test check tests (taken_slots l (link_of s o d)))
        ∙ ap (left test) (sym (pick_true _ _ e ∙ taken_decoded π.depots l (link_of s o d))))
        (λ (e : other π.depots d o ≡ false). pick_false _ _ e ∙ ap (left test) (sym (pick_false _ _ e)))
        (decided (other π.depots d o))

    untakens : (shelf_at π v d s).untaken ≡ h.untaken
    unfolding shelf_at h v
    untakens = fun_ext λ o. pick_then (other π.depots d o) [] λ e.
        let k = other_true π.depots d o e in
        untaken_decoded π.depots v (link_of s o d)
        ∙ ap (map (message_of π.depots)) (settled_waiting π.depots d s u l S.full ready o k.below k.apart)
        ∙ sym (untaken_decoded π.depots l (link_of s o d))

    store_now : (r : ℕ) → store_at π v d r ≡ guarded π r (times π.depots (settle_turn π.depots d s u l) (stored l d))
    unfolding store_at guarded
    store_now r = fun_ext λ k. pick_then (ltb k π.bearings && eqb (k % π.shelves) r) unwritten λ t.
        let a = ltb-true k π.bearings (and_left (ltb k π.bearings) _ t) in let b = S.small.bearings in
        ap (version_of π.depots) (unfold v in settled_store π.depots d s u l S.full ready k (omega arith))

    no_link : (o : ℕ) → o ≡ d → h.taken o ≡ []
    unfolding h shelf_at
    no_link o e = pick_false _ _ (failed (other π.depots d o) λ t. (other_true π.depots d o t).apart e)

    store_turns : (i : ℕ) → i ≤ π.depots
        → guarded π s (times i (settle_turn π.depots d s u l) (stored l d)) ≡ times i (λ o. shown_of π.depots test (h.taken o)) (guarded π s (stored l d))
    unfolding times shown_of h check
    store_turns zero k = refl
    store_turns (suc i) k = go (times i (settle_turn π.depots d s u l) (stored l d)) (store_turns i (omega arith)) (eq_or_ne i d)
      where
        go : (st : ℕ → List ℕ) → guarded π s st ≡ times i (λ o. shown_of π.depots test (h.taken o)) (guarded π s (stored l d)) → (i ≡ d) ⊎ (i ≡ d → ⊥)
            → guarded π s (settle_turn π.depots d s u l i st) ≡ shown_of π.depots test (h.taken i) (times i (λ o. shown_of π.depots test (h.taken o)) (guarded π s (stored l d)))
        go st ih (inl e) =
            ap (guarded π s) (pick_true _ _ (eq-eqb i d e)) ∙ ih
            ∙ ap (λ (x : List Write). shown_of π.depots test x (times i (λ o. shown_of π.depots test (h.taken o)) (guarded π s (stored l d)))) (sym (no_link i e))
        go st ih (inr e) =
            let o : Other π.depots d i = record { below = k; apart = e } in
            ap (guarded π s) (pick_false _ _ (ne_eqb i d e))
            ∙ sym (shown_guarded π s test check tests (taken_slots l (link_of s i d)) (lying i o) st)
            ∙ ap₂ (shown_of π.depots test) (sym (taken_here π l d s i o ∙ taken_decoded π.depots l (link_of s i d))) ih

    stores : (shelf_at π v d s).store ≡ times π.depots (λ o. shown_of π.depots test (h.taken o)) h.store
    unfolding shelf_at store_at h guarded
    stores = store_now s ∙ store_turns π.depots (le_refl _)

    elsewhere : (r : ℕ) → (r ≡ s → ⊥) → (i : ℕ) → i ≤ π.depots → guarded π r (times i (settle_turn π.depots d s u l) (stored l d)) ≡ guarded π r (stored l d)
    unfolding times
    elsewhere r apart zero k = refl
    elsewhere r apart (suc i) k = go (eq_or_ne i d) ∙ elsewhere r apart i (omega arith)
      where
        st : ℕ → List ℕ
        st = times i (settle_turn π.depots d s u l) (stored l d)

        go : (i ≡ d) ⊎ (i ≡ d → ⊥) → guarded π r (settle_turn π.depots d s u l i st) ≡ guarded π r st
        go (inl e) = ap (guarded π r) (pick_true _ _ (eq-eqb i d e))
        go (inr e) =
            ap (guarded π r) (pick_false _ _ (ne_eqb i d e))
            ∙ shown_elsewhere π s r _ (taken_slots l (link_of s i d)) apart (lying i (record { below = k; apart = e })) st

    -- ---- the shelf, and the state

    pub settled_here : shelf_at π (show.settled π.depots d s u l) d s ≡ settled π.depots d u' (shelf_at π l d s)
    unfolding settled shown shelf_at v test stable' h
    settled_here =
        let a = S.small.depots in let b = S.small.shelves in
        shelf_path
        (same (clock_at d s) (omega arith) (λ x y z. omega arith) (omega arith))
        stables
        (seen_kept π l v size d s a (λ j x y. same j (omega arith) (λ p q r. omega arith) (omega arith)))
        stores takens untakens

    pub settled_view : view_by π (show.settled π.depots d s u l) ≡ settle π d s u' (view_by π l)
    unfolding settle v store_at guarded
    settled_view =
        view_moved π l v size S d s kd ks
        (λ j o. let a = S.small.depots in same j o.stable (λ x y z. (o.slots x (omega arith), o.heads x (omega arith))) o.stored)
        _ (λ r e. store_now r ∙ elsewhere r e π.depots (le_refl _))
        (settled_here ∙ ap (settled π.depots d u') (sym (shelf_here π l d s kd ks)))

    pub settled_below : (j : ℕ) → j < 84 → get_or (show.settled π.depots d s u l) j 0 ≡ get_or l j 0
    unfolding v
    settled_below j k = same j (omega arith) (λ x y z. omega arith) (omega arith)
