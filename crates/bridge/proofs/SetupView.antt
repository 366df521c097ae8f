-- A book that was set up, seen as a state, is the fresh state.
-- Assumes nothing.
use Prim.Native.Nat.{ℕ, ◌+◌, ◌*◌, ◌-◌, ◌%◌, ◌≤◌, ◌<◌}
use native.Mathlib.Nat.{zero-add, le_trans}
use native.Mathlib.Omega.{arith}
use mathlib.Core.Path.{◌≡◌, sym, ◌∙◌, ap, ap₂, fun_ext}
use mathlib.Core.Logic.{inl, inr, ⊎_elim}
use mathlib.Core.Bool.{Bool, true, ◌&&◌, not}
use mathlib.Core.List.{List, [], ◌∷◌}
use lib.Dec.{eqb, ltb}
use lib.ListN.{length, get_or, replicate, length-replicate, get_or-replicate, get_or-eq_default}
use borrow.Author.Tests.{eqb-true, not-false, eq-eqb, lt-ltb, le-ltb}
use Rattle.loops.specs.Loops.{every, pick}
use Rattle.order.specs.Record.{vector_of}
use Rattle.loops.proofs.BoolLaws.{and_intro, and_left, and_right, pick_true, pick_false, le_or_lt}
use Rattle.order.proofs.VectorLaws.{zeros_intro}
use Rattle.book.specs.declared.parts.Counts as book
use Rattle.book.specs.Words.{put}
use Rattle.book.specs.Layout.{book_words, clock_at, stable_at, seen_at, link_of, held, taken, held_at, taken_at, stored_at}
use Rattle.book.proofs.WordsLaws.{length_put, put_in, put_out, part_at}
use Rattle.fit.specs.Fit.{most_bearings, between, counts_fit}
use Rattle.fit.proofs.FitLaws.{counts_within}
use Rattle.shelf.proofs.FrameLaws.{length_part_le}
use Rattle.register.specs.Table as table
use Rattle.register.specs.Calls.{set_up}
use Rattle.model.specs.Parts.{Counts, other, unwritten, empty_shelf, fresh}
use Rattle.paper.specs.Calls.{first}
use Rattle.model.specs.Calls as calls
use Rattle.bridge.specs.View.{to_model, counts_in, entries_at, version_of, listed, taken_on, untaken_on, store_at, shelf_at, view_by, view}
use Rattle.bridge.proofs.Basics.{first_zero, or_none, pick_then, pick_same, listed_none, shelf_path, state_path}

-- a setup that is done
pub record SetUp (l : List ℕ) (n : book.Counts) (homes : List ℕ) : Type 0 where
  pub full : length l ≡ book_words
  pub counts : counts_fit n ≡ true
  pub number : length homes ≡ n.crews
  pub below : every n.crews (λ c. ltb (get_or homes c 0) n.depots) ≡ true

pub setup_open : (l : List ℕ) (n : book.Counts) (homes : List ℕ) → table.setup_number l n homes ≡ 0 → SetUp l n homes
unfolding table.setup_number first
setup_open l n homes h =
    let a = first_zero _ 0 _ h in
    let b = first_zero _ 10 _ a.1 in
    let c = first_zero _ 1 _ b.1 in
    let d = or_none (not (counts_fit n)) _ b.0 in
    record { full = eqb-true _ _ (not-false _ a.0); counts = not-false _ d.0; number = eqb-true _ _ (not-false _ d.1); below = not-false _ c.0 }

-- then the model's setup is done too
pub setup_model : {l : List ℕ} {n : book.Counts} {homes : List ℕ} → SetUp l n homes → calls.setup (to_model n) homes ≡ 0
unfolding calls.setup first calls.within counts_fit between pick
setup_model {l} {n} {homes} u = ap₂ (λ (a b : Bool). pick (not a) 11 (pick (not b) 2 0)) tests u.below
  where
    tests : (calls.within n.depots 4 && (calls.within n.shelves 4 && (calls.within n.bearings most_bearings && (calls.within n.crews 16 && eqb (length homes) n.crews)))) ≡ true
    tests =
        let c = u.counts in
        let c1 = and_right (between 1 n.depots 4) _ c in
        let c2 = and_right (between 1 n.shelves 4) _ c1 in
        and_intro (and_left (between 1 n.depots 4) _ c)
        (and_intro (and_left (between 1 n.shelves 4) _ c1)
        (and_intro (and_left (between 1 n.bearings most_bearings) _ c2)
        (and_intro (and_right (between 1 n.bearings most_bearings) _ c2) (eq-eqb _ _ u.number))))

-- ---- the words of a book that was set up

module _ (n : book.Counts) (homes : List ℕ) (few : length homes ≤ 16) where
  zero_word : (j : ℕ) → ◌≡◌ {A = ℕ} (get_or (replicate book_words 0) j 0) 0
  zero_word j =
      ⊎_elim
      (λ (h : book_words ≤ j). get_or-eq_default (replicate book_words 0) 0 {n = j} (rw length-replicate h))
      (λ (h : j < book_words). get_or-replicate book_words j 0 0 h)
      (le_or_lt book_words j)

  heads : List ℕ
  heads = n.depots ∷ n.shelves ∷ n.bearings ∷ n.crews ∷ []

  count_word : (j : ℕ) → j < 4 → get_or (set_up n homes) j 0 ≡ get_or heads j 0
  unfolding set_up heads
  count_word j h =
      put_out (put (replicate book_words 0) 0 heads) 4 homes j (inl h)
      ∙ ap (λ (i : ℕ). get_or (put (replicate book_words 0) 0 heads) i 0) (sym (zero-add j))
      ∙ put_in (replicate book_words 0) 0 heads (rw length-replicate (omega arith)) j h

  pub setup_counts : counts_in (set_up n homes) ≡ to_model n
  unfolding heads
  setup_counts = λ i. record {
    depots = count_word 0 (omega arith) i;
    shelves = count_word 1 (omega arith) i;
    bearings = count_word 2 (omega arith) i;
    crews = count_word 3 (omega arith) i;
  }

  home_word : (c : ℕ) → get_or (set_up n homes) (4 + c) 0 ≡ get_or homes c 0
  unfolding set_up heads
  home_word c =
      ⊎_elim
      (λ (h : length homes ≤ c).
      put_out (put (replicate book_words 0) 0 heads) 4 homes (4 + c) (inr (omega arith))
      ∙ put_out (replicate book_words 0) 0 heads (4 + c) (inr (omega arith))
      ∙ zero_word (4 + c) ∙ sym (get_or-eq_default homes 0 h))
      (λ (h : c < length homes). put_in (put (replicate book_words 0) 0 heads) 4 homes (rw (length_put, length-replicate) (omega arith)) c h)
      (le_or_lt (length homes) c)

  rest_word : (j : ℕ) → 20 ≤ j → get_or (set_up n homes) j 0 ≡ 0
  unfolding set_up heads
  rest_word j h =
      put_out (put (replicate book_words 0) 0 heads) 4 homes j (inr (omega arith))
      ∙ put_out (replicate book_words 0) 0 heads j (inr (omega arith))
      ∙ zero_word j

  -- ---- seen as a state

  module _ (π : Counts) where
    empty_shelf_law : (d s : ℕ) → shelf_at π (set_up n homes) d s ≡ empty_shelf
    unfolding shelf_at empty_shelf store_at version_of entries_at taken_on untaken_on listed
    empty_shelf_law d s =
        let m = set_up n homes in
        shelf_path
        (rest_word (clock_at d s) (omega arith))
        (fun_ext λ x. pick_then (ltb x π.depots) 0 (λ t. rest_word (stable_at d s + x) (omega arith)) ∙ pick_same (ltb x π.depots) 0)
        (fun_ext λ x. pick_then (other π.depots d x) 0 (λ t. rest_word (seen_at d s + x) (omega arith)) ∙ pick_same (other π.depots d x) 0)
        (fun_ext λ k.
        pick_then (ltb k π.bearings && eqb (k % π.shelves) s) unwritten (λ t. pick_true _ _ (zeros_intro π.depots _ λ x h. stored_word d k x))
        ∙ pick_same (ltb k π.bearings && eqb (k % π.shelves) s) unwritten)
        (fun_ext λ o. pick_then (other π.depots d o) [] (λ t. listed_none _ _ (rest_word (taken_at (link_of s o d)) (omega arith))) ∙ pick_same (other π.depots d o) [])
        (fun_ext λ o.
        pick_then (other π.depots d o) []
        (λ t. listed_none (held m (link_of s o d) - taken m (link_of s o d)) _ (let z : held m (link_of s o d) ≡ 0 = rest_word (held_at (link_of s o d)) (omega arith) in omega arith))
        ∙ pick_same (other π.depots d o) [])
      where
        stored_word : (d k x : ℕ) → vector_of (Rattle.book.specs.Layout.stored (set_up n homes) d k) x ≡ 0
        stored_word d k x =
            ⊎_elim
            (λ (h : 9 ≤ 5 + x). get_or-eq_default (Rattle.book.specs.Layout.stored (set_up n homes) d k) 0 {n = 5 + x} (le_trans (length_part_le (set_up n homes) (stored_at d k) 9) h))
            (λ (h : 5 + x < 9). part_at (set_up n homes) (stored_at d k) 9 (5 + x) h ∙ rest_word (stored_at d k + (5 + x)) (omega arith))
            (le_or_lt 9 (5 + x))

    pub setup_fresh : π.crews ≡ length homes → view_by π (set_up n homes) ≡ fresh homes
    unfolding view_by fresh entries_at
    setup_fresh e =
        state_path
        (λ d s. pick_then (ltb d π.depots && ltb s π.shelves) empty_shelf (λ t. empty_shelf_law d s) ∙ pick_same (ltb d π.depots && ltb s π.shelves) empty_shelf)
        (fun_ext λ c.
        pick_then (ltb c π.crews) (λ x. 0)
        (λ t. fun_ext λ x. pick_then (ltb x π.depots) 0 (λ t. rest_word (20 + 4 * c + x) (omega arith)) ∙ pick_same (ltb x π.depots) 0)
        ∙ pick_same (ltb c π.crews) (λ x. 0))
        (fun_ext homes_here)
      where
        homes_here : (c : ℕ) → pick (ltb c π.crews) (Rattle.book.specs.Layout.home (set_up n homes) c) 0 ≡ get_or homes c 0
        homes_here c =
            ⊎_elim
            (λ (h : π.crews ≤ c). pick_false _ _ (le-ltb c _ h) ∙ sym (get_or-eq_default homes 0 {n = c} (omega arith)))
            (λ (h : c < π.crews). pick_true _ _ (lt-ltb c _ h) ∙ home_word c)
            (le_or_lt π.crews c)

-- a setup that is done leaves the fresh state
pub setup_view : {l : List ℕ} {n : book.Counts} {homes : List ℕ} → SetUp l n homes → view (set_up n homes) ≡ fresh homes
unfolding view
setup_view {l} {n} {homes} u =
    let w = (counts_within n u.counts).crews in
    let e = u.number in
    setup_fresh n homes (omega arith) (counts_in (set_up n homes)) (ap (λ (π : Counts). π.crews) (setup_counts n homes (omega arith)) ∙ sym e)
