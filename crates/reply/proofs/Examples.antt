-- Pages to the byte, by computing: one with an unwritten bearing, and the longest, which with its line feed fills the room of an answer.
-- Assumes nothing.
use Prim.Native.Nat.{◌+◌}
use mathlib.Core.Path.{◌≡◌, refl}
use mathlib.Core.List.{[], ◌∷◌}
use lib.ListN.{length, replicate}
use Rattle.loops.specs.Loops.{pick}
use Rattle.paper.specs.Calls.{Told, read_value, read_unwritten, listed}
use Rattle.line.specs.Number.{spelled, decimal}
use Rattle.line.specs.Grammar.{spaced}
use Rattle.reply.specs.Printed.{told_bytes, page_bytes, printed, answer_room}

-- 0 - 0 0 20 7 9 1 0
page : printed (listed (read_unwritten (0 ∷ 0 ∷ []) ∷ read_value (record { value = 20; diameter = 7; width = 9 }) (1 ∷ 0 ∷ []) ∷ []))
    ≡ 48 ∷ 32 ∷ 45 ∷ 32 ∷ 48 ∷ 32 ∷ 48 ∷ 32 ∷ 50 ∷ 48 ∷ 32 ∷ 55 ∷ 32 ∷ 57 ∷ 32 ∷ 49 ∷ 32 ∷ 48 ∷ []
unfolding printed page_bytes told_bytes spaced decimal spelled pick
page = refl

-- the largest value, the largest length and the largest entries
longest_told : Told
longest_told = read_value (record { value = 4294967295; diameter = 1157234688; width = 1157234688 }) (replicate 4 2147483647)

longest : length (printed (listed (replicate 8 longest_told))) + 1 ≡ answer_room
unfolding longest_told printed page_bytes told_bytes spaced decimal spelled pick
longest = refl
