-- What the auditor finds, as a number: the answer's own, and 256 times the entry that it names.
-- Assumes nothing.
use Rattle.std.specs.Prelude.{ℕ, ◌+◌, ◌*◌, ◌≡◌, List}
use Rattle.auditor.specs.Verdict.{Verdict}
use Rattle.auditor.specs.declared.finding.Finding.{Finding}
use Rattle.auditor.specs.declared.finding.Finding.TheVariants.{TooMany, BadLength, Refused, Circle, Low, Causal}

-- 0 causal · 1 too many · 2 bad length · 3 refused · 4 circle · 5 low
unfoldable pub answer_of : Finding → ℕ
answer_of TooMany = 1
answer_of BadLength = 2
answer_of (Refused n) = 3
answer_of (Circle n) = 4
answer_of (Low n) = 5
answer_of Causal = 0

-- the entry that is named, 0 where none is
unfoldable pub entry_of : Finding → ℕ
entry_of TooMany = 0
entry_of BadLength = 0
entry_of (Refused n) = n
entry_of (Circle n) = n
entry_of (Low n) = n
entry_of Causal = 0

unfoldable pub number_of : Finding → ℕ
number_of f = answer_of f + 256 * entry_of f

-- r is the number of what is found of the words h
pub record Audited (h : List ℕ) (r : ℕ) : Type 0 where
  pub finding : Finding
  pub verdict : Verdict h finding
  pub number : r ≡ number_of finding
