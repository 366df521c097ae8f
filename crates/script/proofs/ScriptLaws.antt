-- The laws of a run: a line and its answer, then the rest; and what is known after some of them, and after some runs.
-- Assumes nothing.
use Prim.Native.Nat.{ℕ, ◌+◌, ◌-◌, ◌≤◌, ◌<◌}
use native.Mathlib.Numerals.{add-one}
use native.Mathlib.Nat.{le_antisymm}
use native.Mathlib.Omega.{arith}
use mathlib.Core.Path.{◌≡◌, refl, sym, ◌∙◌, ap, ap₂, subst}
use mathlib.Core.List.{List, [], ◌∷◌}
use mathlib.Core.Bool.{Bool, true, false}
use lib.ListN.{length, take, drop, length-append, length-drop, drop_of_length-le}
use Rattle.loops.proofs.BoolLaws.{both_ways}
use Rattle.events.specs.Answering.{answer_to, book_after_line, reading_says}
use Rattle.line.specs.Reading.{reading}
use Rattle.script.specs.Script.{fed_lines, line_size, first_line, unfed, Runs, book_run, book_times, RunsTimes, Exactly}
use Rattle.script.proofs.LineLaws.{after_line, lines_more, unfed_first, line_part, fed_part, after_part, after_within}

-- ---- a line, its answer and the rest

lines_none : fed_lines [] ≡ []
unfolding fed_lines
lines_none = refl

-- every answer has a byte: its line feed
some_answer : (l s : List ℕ) → 0 < length (answer_to l s)
unfolding answer_to
some_answer l s = let e : length (answer_to l s) ≡ length (reading_says l (reading s)) + 1 = length-append (reading_says l (reading s)) (10 ∷ []) in omega arith

-- after the line s comes the text u
module _ (l s : List ℕ) where
  runs_on : (u : List ℕ) → first_line u ≡ answer_to l (unfed s) → Runs (book_after_line l (unfed s)) (fed_lines (after_line u)) → Runs l (s ∷ fed_lines u)
  unfolding Runs first_line
  runs_on [] e h = absurd (let k = some_answer l (unfed s) in let n = ap (λ (a : List ℕ). length a) e in omega arith)
  runs_on (c ∷ u) e h = rw (lines_more (c ∷ u) (omega arith)) (e, h)

  runs_back : (u : List ℕ) → Runs l (s ∷ fed_lines u) → (first_line u ≡ answer_to l (unfed s)) × Runs (book_after_line l (unfed s)) (fed_lines (after_line u))
  unfolding Runs
  runs_back [] h = absurd (subst (λ (x : List (List ℕ)). Runs l (s ∷ x)) lines_none h)
  runs_back (c ∷ u) h = subst (λ (x : List (List ℕ)). Runs l (s ∷ x)) (lines_more (c ∷ u) (omega arith)) h

  book_on : (u : List ℕ) → book_run l (s ∷ fed_lines u) ≡ book_run (book_after_line l (unfed s)) (fed_lines (after_line u))
  unfolding book_run
  book_on [] = rw lines_none refl
  book_on (c ∷ u) = rw (lines_more (c ∷ u) (omega arith)) refl

-- the text t begins with the line, and after its answer it goes on
module _ (l t : List ℕ) (h : 0 < length t) where
  turn_book : book_run l (fed_lines t) ≡ book_run (book_after_line l (unfed t)) (fed_lines (after_line (after_line t)))
  turn_book =
      ap (λ (x : List (List ℕ)). book_run l x) (lines_more t h)
      ∙ book_on l (first_line t) (after_line t)
      ∙ ap (λ (x : List ℕ). book_run (book_after_line l x) (fed_lines (after_line (after_line t)))) (unfed_first t)

  turn_runs : first_line (after_line t) ≡ answer_to l (unfed t) → Runs (book_after_line l (unfed t)) (fed_lines (after_line (after_line t))) → Runs l (fed_lines t)
  turn_runs e r =
      subst (λ (x : List (List ℕ)). Runs l x) (sym (lines_more t h))
      (subst
      (λ (x : List ℕ). first_line (after_line t) ≡ answer_to l x → Runs (book_after_line l x) (fed_lines (after_line (after_line t))) → Runs l (first_line t ∷ fed_lines (after_line t)))
      (unfed_first t)
      (runs_on l (first_line t) (after_line t))
      e
      r)

  turn_back : Runs l (fed_lines t) → (first_line (after_line t) ≡ answer_to l (unfed t)) × Runs (book_after_line l (unfed t)) (fed_lines (after_line (after_line t)))
  turn_back r =
      subst
      (λ (x : List ℕ). (first_line (after_line t) ≡ answer_to l x) × Runs (book_after_line l x) (fed_lines (after_line (after_line t))))
      (unfed_first t)
      (runs_back l (first_line t) (after_line t) (subst (λ (x : List (List ℕ)). Runs l x) (lines_more t h) r))

-- ---- one more test: it passed, or it failed

module _ {r good good' : Bool} {P : Type 0} (x : Exactly r P) where
  pub exactly_taken : r ≡ true → good' ≡ good → Exactly good' (P × (good ≡ true))
  exactly_taken e p = (λ g. (x.0 e, sym p ∙ g), λ w. p ∙ w.1)

  pub exactly_left : r ≡ false → good' ≡ r → Exactly good' (P × (good ≡ true))
  exactly_left e p = (λ g. absurd (both_ways (sym p ∙ g) e), λ w. absurd (both_ways (x.1 w.0) e))

-- ---- what is known at the place `at` of the script s, that began on the book l₀

pub record Far (l₀ s : List ℕ) (good : Bool) (l : List ℕ) (at : ℕ) : Type 0 where
  pub within : at ≤ length s
  pub book : book_run l₀ (fed_lines s) ≡ book_run l (fed_lines (drop at s))
  pub rest : good ≡ true → Runs l (fed_lines (drop at s)) → Runs l₀ (fed_lines s)
  pub whole : Runs l₀ (fed_lines s) → (good ≡ true) × Runs l (fed_lines (drop at s))

pub far_start : (l s : List ℕ) → Far l s true l 0
far_start l s = record { within = omega arith; book = refl; rest = λ g r. r; whole = λ r. (refl, r) }

-- a line from `at` to `feed`, its answer from `e` to `stop`
pub far_more :
    {l₀ s l l' : List ℕ} {good good' : Bool} {at feed e stop : ℕ} → Far l₀ s good l at → at < length s → feed ≡ at + line_size (drop at s) →
    e ≡ at + length (first_line (drop at s)) → stop ≡ e + length (first_line (drop e s)) → l' ≡ book_after_line l (take (feed - at) (drop at s)) →
    Exactly good' ((take (stop - e) (drop e s) ≡ answer_to l (take (feed - at) (drop at s))) × (good ≡ true)) → Far l₀ s good' l' stop
far_more {l₀} {s} {l} {l'} {good} {good'} {at} {feed} {e} {stop} far h pf pe ps book x =
    let t = drop at s in
    let line = line_part s at pf in
    let answer = fed_part s e ps in
    let pl : l' ≡ book_after_line l (unfed t) = book ∙ ap (λ (y : List ℕ). book_after_line l y) line in
    let n : 0 < length t = let k = length-drop at s in omega arith in
    let u : drop e s ≡ after_line t = after_part s at pe in
    let v : drop stop s ≡ after_line (after_line t) = after_part s e ps ∙ ap (λ (y : List ℕ). after_line y) u in
    record {
      within = (after_within s e (after_within s at far.within pe).1 ps).1;
      book = far.book ∙ turn_book l t n ∙ sym (ap₂ (λ (m y : List ℕ). book_run m (fed_lines y)) pl v);
      rest =
          λ g r.
          let w = x.0 g in
          far.rest w.1
          (turn_runs l t n
          (sym (ap (λ (y : List ℕ). first_line y) u) ∙ sym answer ∙ w.0 ∙ ap (λ (y : List ℕ). answer_to l y) line)
          (subst (λ (y : List ℕ). Runs (book_after_line l (unfed t)) (fed_lines y)) v (subst (λ (m : List ℕ). Runs m (fed_lines (drop stop s))) pl r)));
      whole =
          λ r.
          let b = turn_back l t n (far.whole r).1 in (
            x.1 (answer ∙ ap (λ (y : List ℕ). first_line y) u ∙ b.0 ∙ sym (ap (λ (y : List ℕ). answer_to l y) line), (far.whole r).0),
            subst (λ (m : List ℕ). Runs m (fed_lines (drop stop s))) (sym pl)
                (subst (λ (y : List ℕ). Runs (book_after_line l (unfed t)) (fed_lines y)) (sym v) b.1),
          );
    }

pub far_done : {l₀ s l : List ℕ} {good : Bool} {at : ℕ} → Far l₀ s good l at → length s ≤ at → (l ≡ book_run l₀ (fed_lines s)) × Exactly good (Runs l₀ (fed_lines s))
unfolding book_run Runs
far_done {l₀} {s} {l} {good} {at} far h =
    let none : fed_lines (drop at s) ≡ [] = ap (λ (t : List ℕ). fed_lines t) (drop_of_length-le s h) ∙ lines_none in (
      sym (far.book ∙ ap (λ (x : List (List ℕ)). book_run l x) none),
      (λ g. far.rest g (subst (λ (x : List (List ℕ)). Runs l x) (sym none) tt), λ r. (far.whole r).0),
    )

-- ---- what is known after some runs

pub record Rerun (l₀ : List ℕ) (ss : List (List ℕ)) (n : ℕ) (good : Bool) (l : List ℕ) : Type 0 where
  pub book : l ≡ book_times n l₀ ss
  pub runs : Exactly good (RunsTimes n l₀ ss)

pub rerun_start : (l : List ℕ) (ss : List (List ℕ)) → Rerun l ss 0 true l
unfolding book_times RunsTimes
rerun_start l ss = record { book = refl; runs = (λ g. tt, λ r. refl) }

pub rerun_more :
    {l₀ l l' : List ℕ} {ss : List (List ℕ)} {n : ℕ} {good good' : Bool} → Rerun l₀ ss n good l → l' ≡ book_run l ss →
    Exactly good' (Runs l ss × (good ≡ true)) → Rerun l₀ ss (n + 1) good' l'
unfolding book_times RunsTimes
rerun_more {l₀} {l} {l'} {ss} {n} {good} {good'} a p x =
    rw add-one
    record {
      book = p ∙ ap (λ (m : List ℕ). book_run m ss) a.book;
      runs = (
        λ g. (a.runs.0 (x.0 g).1, subst (λ (m : List ℕ). Runs m ss) a.book (x.0 g).0),
        λ r. x.1 (subst (λ (m : List ℕ). Runs m ss) (sym a.book) r.1, a.runs.1 r.0),
      );
    }

pub rerun_done : {l₀ l : List ℕ} {ss : List (List ℕ)} {i n : ℕ} {good : Bool} → i ≤ n → n ≤ i → Rerun l₀ ss i good l → Rerun l₀ ss n good l
rerun_done p q a = rw (← le_antisymm p q) a
