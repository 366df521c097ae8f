-- Demand 3: the clocks of a depot pass a write's stamp, or a crew's home entry, in as many rounds as their lowest lacks.
-- Assumes nothing.
use Prim.Native.Nat.{ℕ}
use native.Mathlib.Omega.{arith}
use native.Mathlib.Numerals.{add-one}
use mathlib.Core.Path.{◌≡◌}
use mathlib.Core.List.{List}
use Rattle.model.specs.Parts.{Counts}
use Rattle.model.specs.Calls.{setup, shelf_of}
use Rattle.model.specs.System.{of_model}
use Rattle.model.specs.Demands.{lowest_clock, Demand3}
use Rattle.model.proofs.Refusals.{SetUp, setting_up, shelf_below}
use Rattle.model.proofs.Histories.{inv}
use Rattle.model.proofs.Unique.{at_least}
use Rattle.model.proofs.Rounds.{rounds_made, lowest_reached, lowest_top, rounds_deliver}
use Rattle.model.proofs.Waiting.{waiting}
use Rattle.model.proofs.Possible.{possible}

module _ (π : Counts) (homes : List ℕ) where
  pub demand3 : setup π homes ≡ 0 → Demand3 π (of_model π homes)
  demand3 e = record {
    delivered = λ g h w m r d hd.
        let o = w.version.origin in
        at_least π homes u h _ w (rounds_made π homes u r m)
        (rounds_deliver π homes u r (add-one _) w m (lowest_clock π (of_model π homes) g o) (lowest_top π homes u g o) (lowest_reached π homes u g o) (omega arith) d hd)
        (((inv π homes u h).sound.shelf d (shelf_of π w.bearing) hd (shelf_below π u w.bearing)).stores w.bearing);
    waits = waiting π homes u;
    possible = possible π homes;
  }
    where
      u : SetUp π homes
      u = setting_up π homes e
