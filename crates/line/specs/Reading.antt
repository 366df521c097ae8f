-- How a line is read: what any bytes whatsoever say, from the first byte on.
-- Assumes nothing.
use Rattle.std.specs.Prelude.{ℕ, zero, suc, List, [], ◌∷◌, ◌&&◌, leb, eqb, length, drop, replicate, Option, None, Some}
use Rattle.std.proofs.lemmas.List.Edits.{sets}
use Rattle.loops.specs.Loops.{pick}
use Rattle.line.specs.Number.{digit_run, value_from, is_number}
use Rattle.line.specs.Grammar.{letter, least, most, most_bytes, most_numbers, space_byte}
use Rattle.request.specs.declared.ask.Event.{Event}
use Rattle.request.specs.declared.ask.Event.TheVariants as event
use Rattle.line.specs.declared.reader.Line.{Line}

-- what a line says: BAD LINE, or an event and its numbers
pub data Reading : Type 0 where
  bad : Reading
  good : Event → List ℕ → Reading

-- the event that a letter names
unfoldable pub event_of : ℕ → Option Event
event_of b =
    pick (eqb b (letter event.Setup)) (Some event.Setup)
    (pick (eqb b (letter event.Read)) (Some event.Read)
    (pick (eqb b (letter event.Write)) (Some event.Write)
    (pick (eqb b (letter event.Tick)) (Some event.Tick)
    (pick (eqb b (letter event.Take)) (Some event.Take)
    (pick (eqb b (letter event.Refresh)) (Some event.Refresh) (pick (eqb b (letter event.List)) (Some event.List) None))))))

-- n before the numbers that follow
unfoldable pub before : ℕ → Option (List ℕ) → Option (List ℕ)
before n None = None
before n (Some ns) = Some (n ∷ ns)

-- the numbers of a text that is at most k numbers, each after exactly one space, and nothing else
unfoldable pub numbers_in : ℕ → List ℕ → Option (List ℕ)
numbers_in zero [] = Some []
numbers_in zero (b ∷ l) = None
numbers_in (suc k) [] = Some []
numbers_in (suc k) (b ∷ l) = pick (eqb b space_byte && is_number l) (before (value_from 0 l) (numbers_in k (drop (digit_run l) l))) None

-- the event e with its numbers, if they are enough
unfoldable pub counted : Event → ℕ → Option (List ℕ) → Reading
counted e few None = bad
counted e few (Some ns) = pick (leb few (length ns)) (good e ns) bad

-- an event's line after its letter
unfoldable pub named : Option Event → List ℕ → Reading
named None l = bad
named (Some e) l = counted e (least e) (numbers_in (most e) l)

-- a line from its first byte on; an empty one is bad
unfoldable pub headed : List ℕ → Reading
headed [] = bad
headed (b ∷ l) = named (event_of b) l

-- what a line says: one over 120 bytes is bad
unfoldable pub reading : List ℕ → Reading
reading s = pick (leb (length s) most_bytes) (headed s) bad

-- what the reader hands back of any reading: nothing of a bad line; room that is not used is 0
unfoldable pub line_of : Reading → Option Line
line_of bad = None
line_of (good e ns) = Some (record { event = e; numbers = sets (replicate most_numbers 0) 0 ns; count = length ns })
