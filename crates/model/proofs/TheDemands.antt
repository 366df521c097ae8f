-- The model meets the demands, wherever it is set up.
-- Assumes nothing.
use Prim.Native.Nat.{ℕ}
use mathlib.Core.Path.{◌≡◌}
use mathlib.Core.List.{List}
use Rattle.model.specs.Parts.{Counts}
use Rattle.model.specs.Calls.{setup}
use Rattle.model.specs.System.{of_model}
use Rattle.model.specs.Demands.{Demands}
use Rattle.model.proofs.Demand2.{demand2}
use Rattle.model.proofs.Demand3.{demand3}
use Rattle.model.proofs.Limits.{limits}

pub the_demands : (π : Counts) (homes : List ℕ) → setup π homes ≡ 0 → Demands π (of_model π homes)
the_demands π homes e = record { second = demand2 π homes e; third = demand3 π homes e; besides = limits π homes e }
