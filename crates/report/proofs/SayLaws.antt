-- The bytes of an answer: each has room.
-- Assumes nothing.
use Prim.Native.Nat.{ℕ, ◌+◌, ◌≤◌}
use native.Mathlib.Omega.{arith}
use mathlib.Core.Path.{◌≡◌}
use mathlib.Core.List.{List, [], ◌∷◌, ◌++◌}
use lib.ListN.{length, length-append}
use Rattle.line.specs.Number.{decimal}
use Rattle.line.specs.Printing.{Room}
use Rattle.line.proofs.PrintLaws.{decimal_length}
use Rattle.auditor.specs.declared.finding.Finding.{Finding}
use Rattle.auditor.specs.declared.finding.Finding.TheVariants.{TooMany, BadLength, Refused, Circle, Low, Causal}
use Rattle.report.specs.Report.{ended, numbered, spoken_finding, spoken}
use Rattle.report.specs.declared.report.Said.{Said}
use Rattle.report.specs.declared.report.Said.TheVariants.{BadLine, Found}

pub room_text : (o text : List ℕ) → length text + 1 ≤ length o → Room o 0 (ended text)
unfolding ended
room_text o text l = let e = length-append text (10 ∷ []) in record { room = omega arith }

pub room_numbered : (o text : List ℕ) (n : ℕ) → length text + 11 ≤ length o → Room o 0 (ended (numbered text n))
unfolding numbered
room_numbered o text n l = let e = length-append text (decimal n) in let d = decimal_length n in room_text o (text ++ decimal n) (omega arith)

text_length : (text : List ℕ) → length (ended text) ≡ length text + 1
unfolding ended
text_length text = length-append text (10 ∷ [])

numbered_length : (text : List ℕ) (n : ℕ) → length (ended (numbered text n)) ≤ length text + 11
unfolding numbered
numbered_length text n = let e = text_length (text ++ decimal n) in let a = length-append text (decimal n) in let d = decimal_length n in omega arith

finding_length : (f : Finding) → length (spoken_finding f) ≤ 32
unfolding spoken_finding
finding_length TooMany = let e = text_length (116 ∷ 111 ∷ 111 ∷ 32 ∷ 109 ∷ 97 ∷ 110 ∷ 121 ∷ []) in omega arith
finding_length BadLength = let e = text_length (98 ∷ 97 ∷ 100 ∷ 32 ∷ 108 ∷ 101 ∷ 110 ∷ 103 ∷ 116 ∷ 104 ∷ []) in omega arith
finding_length (Refused n) = let e = numbered_length (114 ∷ 101 ∷ 102 ∷ 117 ∷ 115 ∷ 101 ∷ 100 ∷ 32 ∷ []) n in omega arith
finding_length (Circle n) = let e = numbered_length (99 ∷ 105 ∷ 114 ∷ 99 ∷ 108 ∷ 101 ∷ 32 ∷ []) n in omega arith
finding_length (Low n) = let e = numbered_length (108 ∷ 111 ∷ 119 ∷ 32 ∷ []) n in omega arith
finding_length Causal = let e = text_length (99 ∷ 97 ∷ 117 ∷ 115 ∷ 97 ∷ 108 ∷ []) in omega arith

-- no answer is longer than its room
pub spoken_length : (s : Said) → length (spoken s) ≤ 32
unfolding spoken
spoken_length (BadLine n) = let e = numbered_length (98 ∷ 97 ∷ 100 ∷ 32 ∷ 108 ∷ 105 ∷ 110 ∷ 101 ∷ 32 ∷ []) n in omega arith
spoken_length (Found f) = finding_length f
