-- The laws of a text's lines: where the first ends, what is after it, and that the lines are the first and those after it.
-- Assumes nothing.
use Prim.Native.Nat.{ℕ, suc, ◌+◌, ◌-◌, ◌≤◌, ◌<◌}
use native.Mathlib.Numerals.{add-one}
use native.Mathlib.Nat.{le_of_lt}
use native.Mathlib.Omega.{arith}
use mathlib.Core.Path.{◌≡◌, refl, sym, ◌∙◌, ap, subst}
use mathlib.Core.Logic.{⊎_elim}
use mathlib.Core.List.{List, [], ◌∷◌}
use lib.ListN.{length, get_or, take, drop, take-append-drop, length-take, length-drop, drop_of_length-le}
use lib.Seq.{drop-cons, drop-drop, take-take, take-append_seam, drop-append_seam}
use borrow.Author.Tests.{eq-eqb, ne_eqb}
use Rattle.loops.proofs.BoolLaws.{eq_or_ne, pick_true, pick_false}
use Rattle.shelf.proofs.FrameLaws.{pick_cases}
use Rattle.events.specs.Answering.{line_feed}
use Rattle.script.specs.Script.{onto, fed_lines, line_size, first_line, unfed}

-- what is after the first line
abbrev pub after_line : List ℕ → List ℕ
after_line t = drop (suc (line_size t)) t

-- ---- a text by its first byte

size_none : line_size [] ≡ 0
unfolding line_size
size_none = refl

module _ (b : ℕ) (t : List ℕ) where
  size_fed : b ≡ line_feed → line_size (b ∷ t) ≡ 0
  unfolding line_size
  size_fed e = pick_true _ _ (eq-eqb b 10 e)

  size_on : (b ≡ line_feed → ⊥) → line_size (b ∷ t) ≡ suc (line_size t)
  unfolding line_size
  size_on e = pick_false _ _ (ne_eqb b 10 e)

  lines_fed : b ≡ line_feed → fed_lines (b ∷ t) ≡ (b ∷ []) ∷ fed_lines t
  unfolding fed_lines
  lines_fed e = pick_true _ _ (eq-eqb b 10 e)

  lines_on : (b ≡ line_feed → ⊥) → fed_lines (b ∷ t) ≡ onto b (fed_lines t)
  unfolding fed_lines
  lines_on e = pick_false _ _ (ne_eqb b 10 e)

pub size_within : (t : List ℕ) → line_size t ≤ length t
unfolding line_size
size_within [] = omega arith
size_within (b ∷ t) =
    let h = size_within t in
    pick_cases (λ (n : ℕ). n ≤ suc (length t)) _ 0 (suc (line_size t)) (λ z. omega arith) (λ z. omega arith)

-- ---- a text from the place i on

module _ (s : List ℕ) (i : ℕ) where
  pub size_end : length s ≤ i → line_size (drop i s) ≡ 0
  size_end h = ap (λ (t : List ℕ). line_size t) (drop_of_length-le s h) ∙ size_none

  pub size_feed : i < length s → get_or s i 0 ≡ line_feed → line_size (drop i s) ≡ 0
  size_feed h e = ap (λ (t : List ℕ). line_size t) (drop-cons s i 0 h) ∙ size_fed _ _ e

  pub size_more : i < length s → (get_or s i 0 ≡ line_feed → ⊥) → line_size (drop i s) ≡ suc (line_size (drop (i + 1) s))
  size_more h e = ap (λ (t : List ℕ). line_size t) (drop-cons s i 0 h) ∙ size_on _ _ e ∙ ap (λ (n : ℕ). suc (line_size (drop n s))) (sym (add-one i))

-- ---- a front of a text, by its own length

module _ (k : ℕ) (t : List ℕ) where
  take_own : take (length (take k t)) t ≡ take k t
  take_own = subst (λ (x : List ℕ). take (length (take k t)) x ≡ take k t) (take-append-drop k t) (take-append_seam (take k t) (drop k t))

  drop_own : drop (length (take k t)) t ≡ drop k t
  drop_own = subst (λ (x : List ℕ). drop (length (take k t)) x ≡ drop k t) (take-append-drop k t) (drop-append_seam (take k t) (drop k t))

-- ---- the line at a place, and the place after it

module _ (s : List ℕ) (at : ℕ) where
  -- a line that ends before the text does has its line feed, another has none
  pub end_fed : {e : ℕ} → e ≡ at + line_size (drop at s) → e < length s → e + 1 ≡ at + length (first_line (drop at s))
  unfolding first_line
  end_fed p h =
      let k = length-take (suc (line_size (drop at s))) (drop at s) in
      let n = length-drop at s in
      omega arith

  pub end_last : {e : ℕ} → e ≡ at + line_size (drop at s) → length s ≤ e → e ≡ at + length (first_line (drop at s))
  unfolding first_line
  end_last p h =
      let k = length-take (suc (line_size (drop at s))) (drop at s) in
      let n = length-drop at s in
      let w = size_within (drop at s) in
      omega arith

  -- the bytes from its start to its line feed
  pub line_part : {e : ℕ} → e ≡ at + line_size (drop at s) → take (e - at) (drop at s) ≡ unfed (drop at s)
  unfolding unfed
  line_part {e} p = let n : e - at ≡ line_size (drop at s) = omega arith in ap (λ (n : ℕ). take n (drop at s)) n

  -- and from its start to the place after it
  pub fed_part : {e : ℕ} → e ≡ at + length (first_line (drop at s)) → take (e - at) (drop at s) ≡ first_line (drop at s)
  unfolding first_line
  fed_part {e} p =
      let n : e - at ≡ length (first_line (drop at s)) = omega arith in
      ap (λ (n : ℕ). take n (drop at s)) n ∙ take_own (suc (line_size (drop at s))) (drop at s)

  pub after_part : {e : ℕ} → e ≡ at + length (first_line (drop at s)) → drop e s ≡ after_line (drop at s)
  unfolding first_line
  after_part p = ap (λ (n : ℕ). drop n s) p ∙ sym (drop-drop _ at s) ∙ drop_own (suc (line_size (drop at s))) (drop at s)

  pub after_within : {e : ℕ} → at ≤ length s → e ≡ at + length (first_line (drop at s)) → (at ≤ e) × (e ≤ length s)
  unfolding first_line
  after_within h p =
      let k = length-take (suc (line_size (drop at s))) (drop at s) in
      let n = length-drop at s in
      (omega arith, omega arith)

  after_moves : {e : ℕ} → at < length s → e ≡ at + length (first_line (drop at s)) → at < e
  unfolding first_line
  after_moves h p =
      let k = length-take (suc (line_size (drop at s))) (drop at s) in
      let n = length-drop at s in
      omega arith

  feed_within : {f : ℕ} → at ≤ length s → f ≡ at + line_size (drop at s) → (at ≤ f) × (f ≤ length s)
  feed_within h p =
      let n = length-drop at s in
      let w = size_within (drop at s) in
      (omega arith, omega arith)

-- a line from `at` to `feed`, its answer from `end` to `stop`: both lie in the text, and the next place is further on
pub record Turn (s : List ℕ) (at feed end stop : ℕ) : Type 0 where
  pub line : at ≤ feed
  pub line_in_law : feed ≤ length s
  pub answer : end ≤ stop
  pub answer_in : stop ≤ length s
  pub moves : at < stop

pub turn_at :
    (s : List ℕ) (at : ℕ) {feed end stop : ℕ} → at < length s → feed ≡ at + line_size (drop at s) → end ≡ at + length (first_line (drop at s)) →
    stop ≡ end + length (first_line (drop end s)) → Turn s at feed end stop
turn_at s at {feed} {end} {stop} h pf pe ps =
    let first = feed_within s at (le_of_lt h) pf in
    let second = after_within s at (le_of_lt h) pe in
    let third = after_within s end second.1 ps in
    let on = after_moves s at h pe in
    record { line = first.0; line_in_law = first.1; answer = third.0; answer_in = third.1; moves = omega (arith, third.0) }

-- ---- the lines are the first and those after it

size_first : (t : List ℕ) → line_size (take (suc (line_size t)) t) ≡ line_size t
size_first [] = refl
size_first (b ∷ t) =
    ⊎_elim
    (λ (e : b ≡ line_feed). rw (size_fed b t e) (size_fed b [] e))
    (λ (e : b ≡ line_feed → ⊥). rw (size_on b t e) (size_on b (take (suc (line_size t)) t) e ∙ ap suc (size_first t)))
    (eq_or_ne b line_feed)

pub unfed_first : (t : List ℕ) → unfed (first_line t) ≡ unfed t
unfolding unfed first_line
unfed_first t = ap (λ (n : ℕ). take n (take (suc (line_size t)) t)) (size_first t) ∙ take-take (line_size t) (suc (line_size t)) t (omega arith)

pub lines_more : (t : List ℕ) → 0 < length t → fed_lines t ≡ first_line t ∷ fed_lines (after_line t)
unfolding first_line onto
lines_more [] h = absurd (omega arith)
lines_more (b ∷ []) h =
    ⊎_elim
    (λ (e : b ≡ line_feed). lines_fed b [] e ∙ rw (size_fed b [] e) refl)
    (λ (e : b ≡ line_feed → ⊥). lines_on b [] e ∙ rw (size_on b [] e) (unfold fed_lines in refl))
    (eq_or_ne b line_feed)
lines_more (b ∷ c ∷ t) h =
    ⊎_elim
    (λ (e : b ≡ line_feed). lines_fed b (c ∷ t) e ∙ rw (size_fed b (c ∷ t) e) refl)
    (λ (e : b ≡ line_feed → ⊥). lines_on b (c ∷ t) e ∙ ap (onto b) (lines_more (c ∷ t) (omega arith)) ∙ rw (size_on b (c ∷ t) e) refl)
    (eq_or_ne b line_feed)
