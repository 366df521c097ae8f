-- `register::calls::home::shelf_for` meets its contract: a remainder is below its divisor.
-- Assumes nothing.
use Prim.Native.Nat.{ℕ, ◌%◌}
use mathlib.Core.Path.{◌∙◌, ap}
use Rattle.register.proofs.home.shelf_for.Goals as goal

pub returns : goal.returns
returns c = c.nth.ensures ∙ ap (λ (x : ℕ). x % c.args.n.shelves) c.index.ensures
