-- What is said of the lines of a history, to the byte.
-- Assumes nothing.
use Rattle.std.specs.Prelude.{ℕ, ◌*◌, ◌≤◌, ◌<◌, ◌≡◌, List, [], ◌∷◌, ◌++◌, length, get_or, take, None}
use Rattle.line.specs.Number.{decimal}
use Rattle.entries.specs.Entries.{entry_words, most_entries, kind}
use Rattle.auditor.specs.Verdict.{If, Names, Verdict}
use Rattle.auditor.specs.declared.finding.Finding.{Finding}
use Rattle.auditor.specs.declared.finding.Finding.TheVariants.{TooMany, BadLength, Refused, Circle, Low, Causal}
use Rattle.history.specs.Entry.{entry_in}
use Rattle.history.specs.Stream.{lines_of, words_of}
use Rattle.report.specs.declared.report.Said.{Said}
use Rattle.report.specs.declared.report.Said.TheVariants.{BadLine, Found}

-- what the auditor finds in the words h
pub data Audited (h : List ℕ) : Said → Type 0 where
  found : {f : Finding} → Verdict h f → Audited h (Found f)

-- what is said of the lines ls: more than 256 are too many, before all else; then the first bad line is told; then what the auditor finds in the
-- entries that they say
abbrev pub Told : List (List ℕ) → Said → Type 0
Told ls = If (most_entries < length ls) (Found TooMany) (Names (length ls) (λ i. entry_in (get_or ls i []) ≡ None) BadLine (Audited (words_of ls)))

-- the kind that is stored of a bad line
abbrev pub bad_kind : ℕ
bad_kind = 2

-- the same of so many lines, the words of which were stored
abbrev pub Reported : List ℕ → ℕ → Said → Type 0
Reported words lines =
    If (most_entries < lines) (Found TooMany) (Names lines (λ i. kind words i ≡ bad_kind) BadLine (Audited (take (lines * entry_words) words)))

-- ---- the answer's line

-- a text and the line feed
unfoldable pub ended : List ℕ → List ℕ
ended text = text ++ (10 ∷ [])

-- a text and a number
unfoldable pub numbered : List ℕ → ℕ → List ℕ
numbered text n = text ++ decimal n

-- too many · bad length · refused N · circle N · low N · causal
unfoldable pub spoken_finding : Finding → List ℕ
spoken_finding TooMany = ended (116 ∷ 111 ∷ 111 ∷ 32 ∷ 109 ∷ 97 ∷ 110 ∷ 121 ∷ [])
spoken_finding BadLength = ended (98 ∷ 97 ∷ 100 ∷ 32 ∷ 108 ∷ 101 ∷ 110 ∷ 103 ∷ 116 ∷ 104 ∷ [])
spoken_finding (Refused n) = ended (numbered (114 ∷ 101 ∷ 102 ∷ 117 ∷ 115 ∷ 101 ∷ 100 ∷ 32 ∷ []) n)
spoken_finding (Circle n) = ended (numbered (99 ∷ 105 ∷ 114 ∷ 99 ∷ 108 ∷ 101 ∷ 32 ∷ []) n)
spoken_finding (Low n) = ended (numbered (108 ∷ 111 ∷ 119 ∷ 32 ∷ []) n)
spoken_finding Causal = ended (99 ∷ 97 ∷ 117 ∷ 115 ∷ 97 ∷ 108 ∷ [])

-- bad line N, or the finding
unfoldable pub spoken : Said → List ℕ
spoken (BadLine n) = ended (numbered (98 ∷ 97 ∷ 100 ∷ 32 ∷ 108 ∷ 105 ∷ 110 ∷ 101 ∷ 32 ∷ []) n)
spoken (Found f) = spoken_finding f

-- no answer is longer
abbrev pub answer_room : ℕ
answer_room = 32

-- the whole output for a whole input
pub record Output (t o : List ℕ) : Type 0 where
  pub said : Said
  pub told : Told (lines_of t) said
  pub bytes : o ≡ spoken said

-- the first n bytes of the output o are that for the bytes that were read
pub record Concluded (o : List ℕ) (n : ℕ) : Type 0 where
  pub within : n ≤ length o
  pub bytes : List ℕ
  pub output : Output bytes (take n o)
