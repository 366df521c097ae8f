-- What the parts of the reader ask of their callers, which prove it.
-- Assumes nothing.
use Rattle.std.specs.Prelude.{ℕ, ◌+◌, ◌≤◌, ◌<◌, List, length, get_or}
use Rattle.frame.specs.declared.Route.{Route}
use Rattle.frame.specs.Frame.{size_of}

-- a message of a kind that there is begins at a place of f, and all its bytes are there
pub record There (r : Route) (f : List ℕ) (at : ℕ) : Type 0 where
  pub begins : at < length f
  pub known : 0 < size_of r.counts.depots (get_or f at 0)
  pub ends : at + size_of r.counts.depots (get_or f at 0) ≤ length f
