-- The words of a log, entry by entry: what the auditor's tests say of two entries.
-- Assumes nothing.
use Prim.Native.Nat.{ℕ, zero, suc, ◌+◌, ◌*◌, ◌≤◌, ◌<◌}
use native.Mathlib.Omega.{arith}
use native.Mathlib.Nat.{lt_of_lt_of_le}
use mathlib.Core.Path.{◌≡◌, refl, sym, ◌∙◌, ap}
use mathlib.Core.Logic.{◌⊎◌, inl, inr, ⊎_elim}
use mathlib.Core.List.{List, [], ◌∷◌, ◌++◌}
use mathlib.Core.Bool.{Bool, true, false, ◌&&◌, not}
use lib.Dec.{ltb, eqb}
use lib.ListN.{length, get_or, drop, get_or-append}
use lib.Seq.{get_or-append-add, get_or-drop}
use borrow.Author.Tests.{eqb-true, eq-eqb, ltb-true, lt-ltb, le-ltb}
use Rattle.loops.specs.Loops.{pick}
use Rattle.loops.proofs.BoolLaws.{both_ways, and_left, and_right, and_intro, or_cases, not_passed, pick_true, pick_false}
use Rattle.order.specs.Vector.{agree, zeros}
use Rattle.order.specs.Order.{Rank, above}
use Rattle.order.proofs.VectorLaws.{agree_at, agree_intro, zeros_intro}
use Rattle.order.proofs.OrderLaws.{above_cong}
use Rattle.order.proofs.OrderPadded.{above_padded}
use Rattle.model.specs.Parts as model
use Rattle.model.specs.Parts.{Counts, Version, Write, unwritten}
use Rattle.entries.specs.Entries.{kind, crew, bearing, origin, vector, stamp, rank, is_write, is_read, wrote, source, twin, earlier}
use Rattle.entries.specs.Rests.{rests_on, lower_than}
use Rattle.passes.specs.Log.{Entry, nth, shown, words, words_of}

-- a depot that there is, and one that there is not
pub shown_in : (π : Counts) (v : Version) (x : ℕ) → x < π.depots → shown π v x ≡ v.vector x
unfolding shown
shown_in π v x l = pick_true _ _ (lt-ltb x π.depots l)

shown_out : (π : Counts) (v : Version) (x : ℕ) → π.depots ≤ x → shown π v x ≡ 0
unfolding shown
shown_out π v x l = pick_false _ _ (le-ltb x π.depots l)

module _ (π : Counts) where
  pub words_length : (es : List Entry) → length (words_of π es) ≡ length es * 11
  unfolding words_of words
  words_length [] = refl
  words_length (e ∷ es) = let k = words_length es in omega arith

  eleven : (e : Entry) → length (words π e) ≡ 11
  unfolding words
  eleven e = refl

  word_at : (es : List Entry) (i x : ℕ) → i < length es → x < 11 → get_or (words_of π es) (i * 11 + x) 0 ≡ get_or (words π (nth es i)) x 0
  unfolding words_of
  word_at [] i x l m = absurd (omega arith)
  word_at (e ∷ es) zero x l m =
      let n = eleven e in ap (λ (p : ℕ). get_or (words π e ++ words_of π es) p 0) (omega arith) ∙ get_or-append (words π e) (words_of π es) 0 x (omega arith)
  word_at (e ∷ es) (suc i) x l m =
      let n = eleven e in
      let p : suc i * 11 + x ≡ length (words π e) + (i * 11 + x) = omega arith in
      ap (λ (p : ℕ). get_or (words π e ++ words_of π es) p 0) p ∙ get_or-append-add (words π e) (words_of π es) (i * 11 + x) 0 ∙ word_at es i x (omega arith) m

  module _ (es : List Entry) where
    abbrev h : List ℕ
    h = words_of π es

    pub kind_at : (i : ℕ) → i < length es → kind h i ≡ (nth es i).kind
    unfolding words
    kind_at i l = ap (λ (p : ℕ). get_or h p 0) (omega arith) ∙ word_at es i 0 l (omega arith)

    crew_at_law : (i : ℕ) → i < length es → crew h i ≡ (nth es i).crew
    unfolding words
    crew_at_law i l = word_at es i 1 l (omega arith)

    bearing_at : (i : ℕ) → i < length es → bearing h i ≡ (nth es i).write.bearing
    unfolding words
    bearing_at i l = word_at es i 2 l (omega arith)

    pub origin_at : (i : ℕ) → i < length es → origin h i ≡ (nth es i).write.version.origin
    unfolding words
    origin_at i l = word_at es i 6 l (omega arith)

    entry_of : (e : Entry) (x : ℕ) → x < 4 → get_or (drop 7 (words π e)) x 0 ≡ shown π e.write.version x
    unfolding words
    entry_of e zero l = refl
    entry_of e (suc zero) l = refl
    entry_of e (suc (suc zero)) l = refl
    entry_of e (suc (suc (suc zero))) l = refl
    entry_of e (suc (suc (suc (suc x)))) l = absurd (omega arith)

    pub vector_at_law : (i x : ℕ) → i < length es → x < 4 → vector h i x ≡ shown π (nth es i).write.version x
    vector_at_law i x l m =
        let p : i * 11 + 7 + x ≡ i * 11 + (7 + x) = omega arith in
        ap (λ (p : ℕ). get_or h p 0) p ∙ word_at es i (7 + x) l (omega arith) ∙ sym (get_or-drop 7 (words π (nth es i)) x 0) ∙ entry_of (nth es i) x m

    -- ---- two entries beside one another

    -- a write of the version that entry i has
    pub record SameVersion (i j : ℕ) : Type 0 where
      pub write : (nth es j).kind ≡ 0
      pub bearing : (nth es i).write.bearing ≡ (nth es j).write.bearing
      pub origin : (nth es i).write.version.origin ≡ (nth es j).write.version.origin
      pub entry : (x : ℕ) → x < 4 → shown π (nth es i).write.version x ≡ shown π (nth es j).write.version x

    pub wrote_is : (i j : ℕ) → i < length es → j < length es → wrote h i j ≡ true → SameVersion i j
    unfolding wrote
    wrote_is i j l m t =
        let w = and_left (is_write h j) _ t in
        let b = and_right (is_write h j) _ t in
        let v = agree_at 5 _ _ (and_right (eqb (bearing h i) (bearing h j)) _ b) in
        record {
          write = sym (kind_at j m) ∙ eqb-true (kind h j) 0 w;
          bearing = sym (bearing_at i l) ∙ eqb-true (bearing h i) (bearing h j) (and_left (eqb (bearing h i) (bearing h j)) _ b) ∙ bearing_at j m;
          origin = sym (origin_at i l) ∙ first i ∙ v 0 (omega arith) ∙ sym (first j) ∙ origin_at j m;
          entry = λ x n. sym (vector_at_law i x l n) ∙ next i x ∙ v (1 + x) (omega arith) ∙ sym (next j x) ∙ vector_at_law j x m n;
        }
      where
        first : (i : ℕ) → get_or h (i * 11 + 6) 0 ≡ get_or h (i * 11 + 6 + 0) 0
        first i = ap (λ (p : ℕ). get_or h p 0) (omega arith)

        next : (i x : ℕ) → get_or h (i * 11 + 7 + x) 0 ≡ get_or h (i * 11 + 6 + (1 + x)) 0
        next i x = ap (λ (p : ℕ). get_or h p 0) (omega arith)

    pub twin_is : (i j : ℕ) → i < length es → j < length es → twin h i j ≡ true → (i ≡ j → ⊥) × SameVersion i j
    unfolding twin
    twin_is i j l m t = (
      λ e. both_ways (eq-eqb i j e) (not_passed (and_left (not (eqb i j)) _ t)),
      wrote_is i j l m (and_right (not (eqb i j)) _ t),
    )

    -- the whole record is the same where the write is
    pub source_by : (i j : ℕ) → i < length es → j < length es → (nth es j).kind ≡ 0 → (nth es i).write ≡ (nth es j).write → source h i j ≡ true
    unfolding source words
    source_by i j l m k e =
        and_intro (eq-eqb (kind h j) 0 (kind_at j m ∙ k))
        (agree_intro 9 _ _ (λ x n. tail i x l n ∙ ap (λ (w : Write). recorded w x) e ∙ sym (tail j x m n)))
      where
        recorded : Write → ℕ → ℕ
        recorded w x =
            get_or
            (w.bearing ∷ w.version.payload.value ∷ w.version.payload.diameter ∷ w.version.payload.width ∷ w.version.origin
            ∷ shown π w.version 0 ∷ shown π w.version 1 ∷ shown π w.version 2 ∷ shown π w.version 3 ∷ []) x 0

        tail : (i x : ℕ) → i < length es → x < 9 → get_or h (i * 11 + 2 + x) 0 ≡ recorded (nth es i).write x
        tail i x l n =
            let p : i * 11 + 2 + x ≡ i * 11 + (2 + x) = omega arith in
            ap (λ (p : ℕ). get_or h p 0) p ∙ word_at es i (2 + x) l (omega arith) ∙ sym (get_or-drop 2 (words π (nth es i)) x 0)

    -- what an entry rests on directly
    pub rests_is : (i j : ℕ) → i < length es → j < length es → rests_on h i j ≡ true
        → ((j < i) × ((nth es i).crew ≡ (nth es j).crew)) ⊎ (((nth es i).kind ≡ 1) × SameVersion i j)
    unfolding rests_on earlier
    rests_is i j l m t =
        ⊎_elim
        (λ (e : ltb j i && eqb (crew h i) (crew h j) ≡ true).
        inl (ltb-true j i (and_left (ltb j i) _ e), sym (crew_at_law i l) ∙ eqb-true (crew h i) (crew h j) (and_right (ltb j i) _ e) ∙ crew_at_law j m))
        (λ (e : is_read h i && wrote h i j ≡ true).
        inr (sym (kind_at i l) ∙ eqb-true (kind h i) 1 (and_left (is_read h i) _ e), wrote_is i j l m (and_right (is_read h i) _ e)))
        (or_cases (ltb j i && eqb (crew h i) (crew h j)) _ t)

    -- a read that is lower than a write, in the order over the register's depots
    pub record Lower (i j : ℕ) : Type 0 where
      pub read : (nth es i).kind ≡ 1
      pub write : (nth es j).kind ≡ 0
      pub bearing : (nth es j).write.bearing ≡ (nth es i).write.bearing
      pub lower : above π.depots (model.rank (nth es j).write.version) (model.rank (nth es i).write.version) ≡ true

    order_at : π.depots ≤ 4 → (i j : ℕ) → i < length es → j < length es
        → above 4 (rank h j) (rank h i) ≡ above π.depots (model.rank (nth es j).write.version) (model.rank (nth es i).write.version)
    order_at few i j l m =
        above_cong 4 (rank h j) (rank h i) (padded j) (padded i) (λ x n. vector_at_law j x m n) (origin_at j m) (λ x n. vector_at_law i x l n) (origin_at i l)
        ∙ above_padded π.depots 4 (padded j) (padded i) few (λ x p q. (shown_out π _ x p, shown_out π _ x p))
        ∙ above_cong π.depots (padded j) (padded i) _ _ (λ x n. shown_in π _ x n) refl (λ x n. shown_in π _ x n) refl
      where
        padded : ℕ → Rank
        padded i = record { vector = shown π (nth es i).write.version; origin = (nth es i).write.version.origin }

    pub lower_is : π.depots ≤ 4 → (i j : ℕ) → i < length es → j < length es → lower_than h i j ≡ true → Lower i j
    unfolding lower_than
    lower_is few i j l m t =
        let w = and_right (is_read h i) _ t in
        let b = and_right (is_write h j) _ w in
        record {
          read = sym (kind_at i l) ∙ eqb-true (kind h i) 1 (and_left (is_read h i) _ t);
          write = sym (kind_at j m) ∙ eqb-true (kind h j) 0 (and_left (is_write h j) _ w);
          bearing = sym (sym (bearing_at i l) ∙ eqb-true (bearing h i) (bearing h j) (and_left (eqb (bearing h i) (bearing h j)) _ b) ∙ bearing_at j m);
          lower = sym (order_at few i j l m) ∙ and_right (eqb (bearing h i) (bearing h j)) _ b;
        }

    -- the stamp of a write, from a depot that there is
    pub stamp_at : π.depots ≤ 4 → (i : ℕ) → i < length es → (nth es i).write.version.origin < π.depots → stamp h i ≡ model.stamp (nth es i).write.version
    stamp_at few i l o =
        ap (vector h i) (origin_at i l) ∙ vector_at_law i _ l (lt_of_lt_of_le o few) ∙ shown_in π _ _ o

    pub unwritten_at : (i : ℕ) → i < length es → (nth es i).write.version ≡ unwritten → zeros 4 (vector h i) ≡ true
    unfolding unwritten shown pick
    unwritten_at i l e =
        zeros_intro 4 (vector h i) (λ x m. vector_at_law i x l m ∙ ap (λ (v : Version). shown π v x) e ∙ nil (ltb x π.depots))
      where
        nil : (t : Bool) → pick {A = ℕ} t 0 0 ≡ 0
        nil true = refl
        nil false = refl
