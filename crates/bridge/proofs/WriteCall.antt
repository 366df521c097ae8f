-- Write: what the words do is what the model does.
-- Assumes nothing.
use Prim.Native.Nat.{ℕ, suc, ◌+◌, ◌%◌, ◌<◌}
use native.Mathlib.Numerals.{add-one}
use native.Mathlib.Omega.{arith}
use mathlib.Core.Path.{◌≡◌, refl, sym, ◌∙◌, ap, ap₂, fun_ext, subst}
use mathlib.Core.Logic.{◌⊎◌, inl, inr, ⊎_elim}
use mathlib.Core.Bool.{Bool, true, false}
use mathlib.Core.List.{List, ◌∷◌}
use lib.Dec.{ltb}
use lib.ListN.{length, get_or, length-set}
use lib.Seq.{get_or-set_same, get_or-set_other}
use borrow.Author.Tests.{ltb-true, ltb-false}
use Rattle.loops.specs.Loops.{pick}
use Rattle.order.specs.Order.{above}
use Rattle.order.specs.Record.{bearing_of, rank_of}
use Rattle.loops.proofs.BoolLaws.{decided, pick_true, pick_false, eq_or_ne}
use Rattle.book.specs.Layout.{copy_kind, crew_at, clock_at, stored_at, counts_of, home, clock, link_of, held, stored, record_of}
use Rattle.fit.specs.Fit.{fit}
use Rattle.shelf.specs.Show.{kept_in}
use Rattle.shelf.proofs.FrameLaws.{part_off, kept_in_low}
use Rattle.register.specs.Answers.{written}
use Rattle.register.specs.Table.{write_number}
use Rattle.register.specs.Calls.{settled_home, new_stamp, made_record, written_crew, is_current, write_book}
use Rattle.register.specs.Promises.{after}
use Rattle.register.proofs.FitParts.{Whole, whole_open}
use Rattle.upkeep.proofs.FitStored.{crew_set_whole, kept_in_whole}
use Rattle.upkeep.proofs.FitKept.{settled_home_whole}
use Rattle.upkeep.proofs.FitWrite.{made_version, write_fit_law}
use Rattle.register.proofs.Numbers.{WriteDone, write_done}
use Rattle.register.proofs.FitReady.{out_stays}
use Rattle.register.proofs.MadeLaws.{length_made, made_record_of}
use Rattle.model.specs.Parts.{Version, Write, copy, Shelf, State, put, rank, set_crew}
use Rattle.model.specs.Rules.{shown, settled, settle, keep, send}
use Rattle.paper.specs.declared.answer.Payload.{Payload}
use Rattle.paper.specs.Calls.{write, Answer, current, superseded, answer_by}
use Rattle.model.specs.Calls.{acted, made, answered, home_shelf, shelf_of}
use Rattle.bridge.specs.View.{counts_in, entries_at, write_of, shelf_at, view_by, view}
use Rattle.bridge.specs.Bridged.{Bridged}
use Rattle.bridge.proofs.Sound.{sound, sound_whole}
use Rattle.bridge.proofs.Looks.{shelf_here, home_here, roomy_open}
use Rattle.bridge.proofs.Decoded.{version_above}
use Rattle.bridge.proofs.Numbers.{write_number_law, home_clock}
use Rattle.bridge.proofs.SendView.{sent_view, sent_below}
use Rattle.bridge.proofs.CrewView.{crew_view}
use Rattle.bridge.proofs.HomeView.{kd, ks, crew_agrees, home_settled, home_below, home_size, home_shelf_law, home_stored}
use Rattle.bridge.proofs.MadeView.{new_vector, new_own, new_other, new_beyond, new_write, made_write, made_message_of, kept_view}
use Rattle.bridge.proofs.Assembly.{counts_same, view_by_law, Does, bridged}

module _ (l : List ℕ) (F : fit l ≡ true) (c k : ℕ) (payload : Payload) where
  module _ (z : write_number l c k payload ≡ 0) where
    o : WriteDone l c k payload
    o = write_done l c k payload z

    abbrev d : ℕ
    d = home l c

    abbrev s : ℕ
    s = k % (counts_in l).shelves

    abbrev r : List ℕ
    r = made_record l c k payload

    hd : d < (counts_in l).depots
    hd = kd l F c k o.crew

    hs : s < (counts_in l).shelves
    hs = ks l F c k o.crew

    W : Whole (counts_of l) l
    W = whole_open l F

    -- ---- the books on the way are whole

    crewed_whole : Whole (counts_of l) (written_crew l c k)
    unfolding written_crew
    crewed_whole = let a = o.clocked in crew_set_whole (counts_of l) (settled_home l c k) (settled_home_whole l c k W o.crew) c d (new_stamp l c k) o.crew hd (omega arith)

    bearing_is : bearing_of r ≡ k
    unfolding made_record
    bearing_is = refl

    stored_whole : Whole (counts_of l) (kept_in (counts_of l).depots d r (written_crew l c k))
    stored_whole =
        kept_in_whole (counts_of l) (written_crew l c k) crewed_whole d r hd (length_made l c k payload) (made_version l c k payload W o.crew o.clocked o.carded)
        (subst (λ (x : ℕ). x < (counts_of l).bearings) (sym bearing_is) o.bearing)

    -- ---- the crew

    crew_size : length (written_crew l c k) ≡ length (settled_home l c k)
    unfolding written_crew
    crew_size = length-set (settled_home l c k) _ _

    crew_word : (j : ℕ) → (j ≡ crew_at c + d → ⊥) → get_or (written_crew l c k) j 0 ≡ get_or (settled_home l c k) j 0
    unfolding written_crew
    crew_word j e = get_or-set_other (settled_home l c k) (crew_at c + d) j (new_stamp l c k) 0 e

    crew_entries : entries_at (counts_in l).depots (written_crew l c k) (crew_at c) ≡ new_vector l F c k payload o.crew
    unfolding entries_at written_crew
    crew_entries = fun_ext λ x.
        ⊎_elim
        (λ (e : ltb x (counts_in l).depots ≡ true). pick_true _ _ e ∙ entry x (ltb-true x _ e) (eq_or_ne x d))
        (λ (e : ltb x (counts_in l).depots ≡ false). pick_false _ _ e ∙ sym (new_beyond l F c k payload o.crew x (ltb-false x _ e)))
        (decided (ltb x (counts_in l).depots))
      where
        entry : (x : ℕ) → x < (counts_in l).depots → (x ≡ d) ⊎ (x ≡ d → ⊥) → get_or (written_crew l c k) (crew_at c + x) 0 ≡ new_vector l F c k payload o.crew x
        entry x h (inl e) =
            let S = sound l F in
            let a = S.small.depots in let b = S.small.crews in let g = o.crew in let f = S.full in let y = hd in let w = home_size l F c k o.crew in
            ap (λ (i : ℕ). get_or (written_crew l c k) (crew_at c + i) 0) e
            ∙ get_or-set_same (settled_home l c k) (crew_at c + d) (new_stamp l c k) 0 (omega arith)
            ∙ sym (new_own l F c k payload o.crew) ∙ ap (new_vector l F c k payload o.crew) (sym e)
        entry x h (inr e) =
            let S = sound l F in
            let a = S.small.depots in let b = S.small.crews in let g = o.crew in
            crew_word (crew_at c + x) (omega arith) ∙ home_below l F c k o.crew (crew_at c + x) (omega arith) ∙ crew_agrees l F c k o.crew x h ∙ sym (new_other l F c k payload o.crew x e)

    crewed : view_by (counts_in l) (written_crew l c k) ≡ set_crew c (new_vector l F c k payload o.crew) (view_by (counts_in l) (settled_home l c k))
    crewed =
        let S = sound l F in
        let a = S.small.depots in let b = S.small.crews in let g = o.crew in let y = hd in
        crew_view (counts_in l) (settled_home l c k) (written_crew l c k) crew_size (λ j h. crew_word j (omega arith)) c _ a b o.crew
        (λ j x y. crew_word j (omega arith)) (λ j x out. crew_word j (λ e. out (omega arith) (omega arith))) crew_entries

    -- ---- the version stored

    m : List ℕ
    m = copy_kind ∷ r

    of_m : record_of m ≡ r
    unfolding m
    of_m = made_record_of l c k payload

    keeps : view_by (counts_in l) (kept_in (counts_in l).depots d r (written_crew l c k)) ≡ keep (counts_in l) d s (new_write l F c k payload o.crew) (view_by (counts_in l) (written_crew l c k))
    keeps =
        ap (λ (x : List ℕ). view_by (counts_in l) (kept_in (counts_in l).depots d x (written_crew l c k))) (sym of_m)
        ∙ kept_view (counts_in l) (written_crew l c k) (sound_whole (counts_of l) _ crewed_whole) d s hd hs m (ap (λ (x : List ℕ). length x) of_m ∙ length_made l c k payload)
        (record {
          known = subst (λ (x : List ℕ). bearing_of x < (counts_in l).bearings) (sym of_m) (subst (λ (x : ℕ). x < (counts_in l).bearings) (sym bearing_is) o.bearing);
          lies = ap (λ (x : List ℕ). bearing_of x % (counts_in l).shelves) of_m ∙ ap (λ (x : ℕ). x % (counts_in l).shelves) bearing_is;
        })
        ∙ ap (λ (w : Write). keep (counts_in l) d s w (view_by (counts_in l) (written_crew l c k))) (ap (write_of (counts_in l).depots) of_m ∙ made_write l F c k payload o.crew)

    -- ---- the copies sent

    stored_book : List ℕ
    stored_book = kept_in (counts_in l).depots d r (written_crew l c k)

    clock_stays : clock stored_book d s ≡ clock l d s
    unfolding stored_book shelf_at settled shown view
    clock_stays =
        let S = sound l F in
        let a = S.small.depots in let b = S.small.shelves in let g = S.small.crews in let p = hd in let q = hs in let y = o.crew in
        kept_in_low (counts_in l).depots d r (written_crew l c k) (clock_at d s) (omega arith) ∙ crew_word (clock_at d s) (omega arith)
        ∙ ap (λ (h : Shelf). h.clock) (home_shelf_law l F c k o.crew) ∙ ap (λ (h : Shelf). h.clock) (shelf_here (counts_in l) l d s hd hs)

    room : (to : ℕ) → to < (counts_in l).depots → (to ≡ d → ⊥) → held stored_book (link_of s d to) < 16
    unfolding stored_book
    room to x y = subst (λ (h : ℕ). h < 16) (sym (out_stays l c k payload o to x y)) (roomy_open (counts_in l).depots d s l o.room to x y)

    ten : length m ≡ 10
    unfolding m
    ten = ap suc (length_made l c k payload)

    stamp_is : new_stamp l c k ≡ suc (clock stored_book d s)
    stamp_is = add-one _ ∙ ap suc (sym clock_stays)

    sends : view_by (counts_in l) (write_book l c k payload) ≡ send (counts_in l) d s (copy (new_write l F c k payload o.crew)) (view_by (counts_in l) stored_book)
    unfolding write_book stored_book m
    sends =
        sent_view (counts_in l) stored_book (sound_whole (counts_of l) _ stored_whole) d s (new_stamp l c k) m ten hd hs room stamp_is
        ∙ ap (λ (x : _). send (counts_in l) d s x (view_by (counts_in l) stored_book)) (made_message_of l F c k payload o.crew)

    counted : counts_in (write_book l c k payload) ≡ counts_in l
    unfolding write_book stored_book m
    counted = counts_same l (write_book l c k payload) λ j h.
        sent_below (counts_in l) stored_book (sound_whole (counts_of l) _ stored_whole) d s (new_stamp l c k) m ten hd hs room j (omega arith)
        ∙ kept_in_low (counts_in l).depots d r (written_crew l c k) j (omega arith) ∙ crew_word j (omega arith) ∙ home_below l F c k o.crew j (omega arith)

    -- ---- what the model leaves, with the home depot e, whose clock stands at t

    left_by_law : ℕ → ℕ → State
    left_by_law e t =
        let u = put e (suc t) ((view l).crew c) in
        let w : Write = record { bearing = k; version = record { payload = payload; origin = e; vector = u } } in
        send (counts_in l) e s (copy w) (keep (counts_in l) e s w (set_crew c u (settle (counts_in l) e s ((view l).crew c) (view l))))

    at_home : (view l).home c ≡ d
    unfolding view
    at_home = home_here (counts_in l) l c o.crew

    leaves : view (write_book l c k payload) ≡ (acted (counts_in l) (view l) (write c k payload)).state
    unfolding acted made shelf_of left_by_law new_vector stored_book
    leaves =
        let w = new_write l F c k payload o.crew in
        view_by_law l (write_book l c k payload) counted ∙ sends
        ∙ ap (send (counts_in l) d s (copy w)) (keeps ∙ ap (keep (counts_in l) d s w) (crewed ∙ ap (set_crew c (new_vector l F c k payload o.crew)) (home_settled l F c k o.crew)))
        ∙ sym (ap₂ left_by_law at_home (home_clock l F c k o.crew))

    -- ---- what it answers

    stored_same : stored (written_crew l c k) d k ≡ stored (settled_home l c k) d k
    stored_same =
        let S = sound l F in let a = S.small.depots in let g = S.small.crews in let p = hd in let q = o.crew in
        part_off _ (settled_home l c k) (stored_at d k) 9 crew_size λ j x y. crew_word j (omega arith)

    tests : is_current l c k payload ≡ above (counts_in l).depots (rank (new_write l F c k payload o.crew).version)
        (rank ((settled (counts_in l).depots d ((view l).crew c) ((view l).shelf d s)).store k))
    unfolding is_current write_of
    tests =
        ap (λ (x : List ℕ). above (counts_in l).depots (rank_of r) (rank_of x)) stored_same
        ∙ sym (version_above (counts_in l).depots r (stored (settled_home l c k) d k))
        ∙ ap₂ (λ (a b : Version). above (counts_in l).depots (rank a) (rank b))
        (ap (λ (w : Write). w.version) (made_write l F c k payload o.crew)) (sym (home_stored l F c k o.crew o.bearing))

    tells : written (new_stamp l c k) (is_current l c k payload) ≡ (acted (counts_in l) (view l) (write c k payload)).answer
    unfolding acted made answered home_shelf shelf_of written new_vector
    tells =
        ap₂ (λ (b : Bool) (t : ℕ). pick b (current t) (superseded t)) tests (sym (new_own l F c k payload o.crew))
        ∙ sym (ap₂ (λ (e t : ℕ).
        let v : Version = record { payload = payload; origin = e; vector = put e (suc t) ((view l).crew c) } in
        pick (above (counts_in l).depots (rank v) (rank ((settled (counts_in l).depots e ((view l).crew c) ((view l).shelf e s)).store k))) (current (v.vector e)) (superseded (v.vector e)))
        at_home (home_clock l F c k o.crew))

  does : write_number l c k payload ≡ 0 → Does l (write c k payload) (write_book l c k payload)
  does z = record { leaves = leaves z; counts = counted z; fits = write_fit_law l c k payload F z }

  pub write_bridge :
      (a : Answer) (l' : List ℕ) → a ≡ answer_by (write_number l c k payload) (written (new_stamp l c k) (is_current l c k payload)) →
      l' ≡ after (write_number l c k payload) (write_book l c k payload) l → Bridged l (write c k payload) a l'
  write_bridge a l' answer book =
      bridged l F (write c k payload) (write_number l c k payload) (write_number_law l F c k payload) (write_book l c k payload) does a _ l' answer tells book
