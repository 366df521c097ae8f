-- `book::parts::counts_of` meets its contract: each count is the word at its place.
-- Assumes nothing.
use Rattle.book.proofs.parts.counts_of.Goals as goal

pub returns : goal.returns
returns c =
    λ i.
    record {
      depots = c.wide.ensures i;
      shelves = c.wide-2.ensures i;
      bearings = c.wide-3.ensures i;
      crews = c.wide-4.ensures i;
    }
