-- The calls between setups and what they answer, as the paper has them. Model, register and desk all speak of these.
-- Assumes nothing.
use Rattle.std.specs.Prelude.{ℕ, ◌≡◌, Bool, true, false, List, [], ◌∷◌, eqb}
use Rattle.loops.specs.Loops.{pick}
use Rattle.paper.specs.declared.answer.Payload.{Payload}

-- a value is a day number; the last one is that of 31 December 2399, the calendar's last day
abbrev pub last_day : ℕ
last_day = 146096

-- read (crew, bearing), write (crew, bearing, payload: the value and its card), tick (depot, shelf), take (at depot, shelf, from depot), refresh (depot, shelf),
-- move (crew, new home), list (crew, bearings)
pub data Call : Type 0 where
  read : ℕ → ℕ → Call
  write : ℕ → ℕ → Payload → Call
  tick : ℕ → ℕ → Call
  take : ℕ → ℕ → ℕ → Call
  refresh : ℕ → ℕ → Call
  move : ℕ → ℕ → Call
  list : ℕ → List ℕ → Call

-- what is told of a bearing: the payload or "unwritten", with the vector
pub data Told : Type 0 where
  read_value : Payload → List ℕ → Told
  read_unwritten : List ℕ → Told

-- a refusal carries its number and nothing else; a read answers what it is told; a write its stamp, and "current" or "superseded"; a list what is told of each
-- bearing, in list order
pub data Answer : Type 0 where
  refused : ℕ → Answer
  done : Answer
  reads : Told → Answer
  current superseded : ℕ → Answer
  listed : List Told → Answer

-- the number of an answer: 0 is done
unfoldable pub number_in : Answer → ℕ
number_in (refused n) = n
number_in done = 0
number_in (reads t) = 0
number_in (current stamp) = 0
number_in (superseded stamp) = 0
number_in (listed told) = 0

-- the number of the first test that holds, 0, done, where none does
unfoldable pub first : List (Bool × ℕ) → ℕ
first [] = 0
first (t ∷ rest) = pick t.0 t.1 (first rest)

-- so a number is answered exactly when its test holds and none before it does: the table's rows say the number n: at a row whose test holds, its number; past rows whose tests fail; 0 past the last
pub data Says : List (Bool × ℕ) → ℕ → Type 0 where
  here : {t : Bool} {n : ℕ} {rest : List (Bool × ℕ)} → t ≡ true → Says ((t, n) ∷ rest) n
  later : {t : Bool} {m n : ℕ} {rest : List (Bool × ℕ)} → t ≡ false → Says rest n → Says ((t, m) ∷ rest) n
  otherwise : Says [] 0

-- what a call with this number answers: its own answer if done, else the refusal
unfoldable pub answer_by : ℕ → Answer → Answer
answer_by number answer = pick (eqb number 0) answer (refused number)
