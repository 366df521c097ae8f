-- A script: lines of the desk, each with the answer that it must get as the line after it.
-- Assumes nothing.
use Rattle.std.specs.Prelude.{ℕ, zero, suc, ◌≡◌, List, [], ◌∷◌, Bool, true, eqb, take}
use Rattle.loops.specs.Loops.{pick}
use Rattle.events.specs.Answering.{line_feed, answer_to, book_after_line}

-- ---- the lines of a text

-- a byte that is no line feed stands before the first of the lines that follow
unfoldable pub onto : ℕ → List (List ℕ) → List (List ℕ)
onto b [] = (b ∷ []) ∷ []
onto b (s ∷ ss) = (b ∷ s) ∷ ss

-- each line with its line feed; the last may have none
unfoldable pub fed_lines : List ℕ → List (List ℕ)
fed_lines [] = []
fed_lines (b ∷ t) = pick (eqb b line_feed) ((b ∷ []) ∷ fed_lines t) (onto b (fed_lines t))

-- how many bytes stand before the first line feed: all of them where there is none
unfoldable pub line_size : List ℕ → ℕ
line_size [] = 0
line_size (b ∷ t) = pick (eqb b line_feed) 0 (suc (line_size t))

-- the first line with its line feed, and without it
unfoldable pub first_line : List ℕ → List ℕ
first_line t = take (suc (line_size t)) t

unfoldable pub unfed : List ℕ → List ℕ
unfed t = take (line_size t) t

-- ---- how a script runs

-- the lines run on the book l: each gets, line feed and all, the answer that is the line after it, on the book that the line before left. A last
-- line with no line after it gets none
unfoldable pub Runs : List ℕ → List (List ℕ) → Type 0
Runs l [] = Unit {0}
Runs l (s ∷ []) = ⊥
Runs l (s ∷ a ∷ ss) = (a ≡ answer_to l (unfed s)) × Runs (book_after_line l (unfed s)) ss

-- the book after them, whatever their answers are
unfoldable pub book_run : List ℕ → List (List ℕ) → List ℕ
book_run l [] = l
book_run l (s ∷ []) = book_after_line l (unfed s)
book_run l (s ∷ a ∷ ss) = book_run (book_after_line l (unfed s)) ss

-- the book after n runs of the same lines, and that each of them runs
unfoldable pub book_times : ℕ → List ℕ → List (List ℕ) → List ℕ
book_times zero l ss = l
book_times (suc n) l ss = book_run (book_times n l ss) ss

unfoldable pub RunsTimes : ℕ → List ℕ → List (List ℕ) → Type 0
RunsTimes zero l ss = Unit {0}
RunsTimes (suc n) l ss = RunsTimes n l ss × Runs (book_times n l ss) ss

-- the answer is `true` exactly if P holds
abbrev pub Exactly : Bool → Type 0 → Type 0
Exactly r P = (r ≡ true → P) × (P → r ≡ true)
