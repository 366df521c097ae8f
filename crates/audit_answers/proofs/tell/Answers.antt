-- `audit_answers::tell` meets its contract. The loop's invariant: the buffers hold what was read.
-- Assumes nothing.
use mathlib.Core.Path.{sym}
use borrow.Author.Rules.{rules}
use Rattle.history.proofs.StreamLaws.{seen_start, seen_more}
use Rattle.audit_answers.proofs.tell.Goals as goal

pub times-init : goal.times-init
times-init g c = seen_start

pub slice_bounds-feed-end : goal.slice_bounds-feed-end
slice_bounds-feed-end g c = sym c.times.invariant.fits.room

pub slice_bounds-feed-end-in-times : goal.slice_bounds-feed-end-in-times
slice_bounds-feed-end-in-times g c = sym c.times.invariant.fits.bytes

pub feed-place-requires : goal.feed-place-requires
feed-place-requires g c = c.times.invariant.fits

pub times-preserved : goal.times-preserved
times-preserved g c = let call = c.feed-place in seen_more _ c.times.invariant call.ensures.fits call.ensures.lines_after

pub slice_bounds-conclude-end : goal.slice_bounds-conclude-end
slice_bounds-conclude-end g c = sym c.times.invariant.fits.room

pub slice_bounds-conclude-end-2 : goal.slice_bounds-conclude-end-2
slice_bounds-conclude-end-2 g c = sym c.times.invariant.fits.bytes

pub conclude-end-requires : goal.conclude-end-requires
conclude-end-requires g c = (c.times.invariant, search rules)
