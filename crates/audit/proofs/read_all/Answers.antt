-- `audit::read_all` meets its contract. The loop's invariant: the buffers hold what was read.
-- Assumes nothing.
use Rattle.history.proofs.StreamLaws.{seen_more}
use Rattle.audit.proofs.read_all.Goals as goal

pub pieces-preserved : goal.pieces-preserved
pieces-preserved g c = seen_more _ c.pieces.invariant c.in_ok-left.ensures.fits c.in_ok-left.ensures.lines_after

pub returns-then-left-eq0-clause-seen : goal.returns-then-left-eq0-clause-seen
returns-then-left-eq0-clause-seen g c = seen_more _ c.pieces.invariant c.in_ok-left.ensures.fits c.in_ok-left.ensures.lines_after
