-- The worked journal of docs/JOURNAL.md: the requests of its records, and a row of its second table.
-- Assumes nothing.
use Rattle.std.specs.Prelude.{ℕ, ◌≡◌, List, [], ◌∷◌}
use Rattle.paper.specs.Calls.{read, write, tick, take, refresh}
use Rattle.upkeep.specs.Requests.{Request, setup, call}
use Rattle.journal.specs.Journal.{Recovered, end_of}

-- the paper's listing without the line that is refused; every card is 1 by 1, whose bits are 1065353216
unfoldable pub listing : List Request
listing =
    setup (record { depots = 2; shelves = 2; bearings = 4; crews = 2 }) (0 ∷ 1 ∷ [])
    ∷ call (read 0 0)
    ∷ call (write 0 0 (record { value = 20; diameter = 1065353216; width = 1065353216 }))
    ∷ call (tick 0 1)
    ∷ call (write 0 1 (record { value = 30; diameter = 1065353216; width = 1065353216 }))
    ∷ call (take 1 0 0)
    ∷ call (refresh 1 0)
    ∷ call (read 1 0)
    ∷ call (take 1 1 0)
    ∷ call (refresh 1 0)
    ∷ call (read 1 0)
    ∷ []

-- n records were done, m bytes count, and recovery ended with this number
pub record Row (s : Recovered) (n m number : ℕ) : Type 0 where
  pub done : s.done ≡ n
  pub bytes : s.bytes ≡ m
  pub ended : end_of s ≡ number
