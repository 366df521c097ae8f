-- `register::calls::setup::counts_from` meets its contract: each count is its word.
-- Assumes nothing.
use Rattle.setup.proofs.counts_from.Goals as goal

pub returns : goal.returns
returns c =
    λ i.
    record {
      depots = c.wide.ensures i;
      shelves = c.wide-2.ensures i;
      bearings = c.wide-3.ensures i;
      crews = c.wide-4.ensures i;
    }
