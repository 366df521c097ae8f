-- Worked examples, on any book: X is a bad line, and its answer is 13.
-- Assumes nothing.
use Prim.Native.Nat.{ℕ}
use native.Mathlib.Omega.{arith}
use mathlib.Core.Path.{◌≡◌, refl, ap}
use mathlib.Core.List.{List, [], ◌∷◌}
use lib.ListN.{length, get_or}
use Rattle.loops.specs.Loops.{pick}
use Rattle.line.specs.Reading.{reading, headed, named, event_of}
use Rattle.line.specs.Number.{decimal, spelled}
use Rattle.events.specs.Answering.{answer_to, book_after_line, reading_says, reading_book}
use Rattle.script.specs.Script.{onto, fed_lines, line_size, unfed, Runs}

module _ (l : List ℕ) where
  -- X, 13, X, 13: it runs, and leaves the book alone
  pub bad_lines_run : Runs l (fed_lines (88 ∷ 10 ∷ 49 ∷ 51 ∷ 10 ∷ 88 ∷ 10 ∷ 49 ∷ 51 ∷ 10 ∷ []))
  unfolding Runs fed_lines onto pick line_size unfed answer_to book_after_line reading_says reading_book reading headed named event_of decimal spelled
  bad_lines_run = (refl, (refl, tt))

  -- X, 0, X, 13: the first answer differs, so it does not run
  pub wrong_first : Runs l (fed_lines (88 ∷ 10 ∷ 48 ∷ 10 ∷ 88 ∷ 10 ∷ 49 ∷ 51 ∷ 10 ∷ [])) → ⊥
  unfolding Runs fed_lines onto pick line_size unfed answer_to reading_says reading headed named event_of decimal spelled
  wrong_first h = let e : ◌≡◌ {A = ℕ} 48 49 = ap (λ (a : List ℕ). get_or a 0 0) h.0 in omega arith

  -- X, 13 without its line feed, and X alone: neither runs
  pub no_feed : Runs l (fed_lines (88 ∷ 10 ∷ 49 ∷ 51 ∷ [])) → ⊥
  unfolding Runs fed_lines onto pick line_size unfed answer_to reading_says reading headed named event_of decimal spelled
  no_feed h = let e : ◌≡◌ {A = ℕ} 2 3 = ap (λ (a : List ℕ). length a) h.0 in omega arith

  pub no_answer : Runs l (fed_lines (88 ∷ 10 ∷ [])) → ⊥
  unfolding Runs fed_lines onto pick
  no_answer h = h
