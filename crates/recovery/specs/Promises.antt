-- What is promised of recovery: how many records were done, how many bytes they have, how it ended, and every word of the book.
-- Assumes nothing.
use Rattle.std.specs.Prelude.{ℕ, ◌+◌, ◌≡◌, List}
use Rattle.journal.specs.Journal.{start, replay, end_of}
use Rattle.recovery.specs.declared.Recovered.{Recovered}

-- from the book l on the bytes f are recovered, and leave the book l'
pub record Recovery (l f : List ℕ) (r : Recovered) (l' : List ℕ) : Type 0 where
  pub done : r.done ≡ (replay (start l) f).done
  pub bytes : r.bytes ≡ (replay (start l) f).bytes
  pub end : r.end ≡ end_of (replay (start l) f)
  pub book : l' ≡ (replay (start l) f).book

-- bytes in two pieces: what is told of the first, a, and of the rest of it with the second behind it, b, tells this of both
abbrev pub together : Recovered → Recovered → Recovered
together a b = record { done = a.done + b.done; bytes = a.bytes + b.bytes; end = b.end }
