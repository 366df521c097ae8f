-- `history::stream::feed` meets its contract. The loop's invariant: what is left of the piece makes the whole.
-- Assumes nothing.
use mathlib.Core.Path.{refl, sym, ◌∙◌}
use Rattle.history.proofs.StreamLaws.{through_next, through_over}
use Rattle.history.proofs.stream.feed.Goals as goal

pub loop-byte-init : goal.loop-byte-init
loop-byte-init c = (c.requires, refl)

pub feed_byte-place-requires : goal.feed_byte-place-requires
feed_byte-place-requires c = c.loop-byte.invariant.0

pub loop-byte-preserved : goal.loop-byte-preserved
loop-byte-preserved c = (
  c.feed_byte-place.ensures.fits,
  through_next _ _ _
      c.loop-byte-test.true c.feed_byte-place.ensures.lines_after
      ∙ c.loop-byte.invariant.1,
)

pub returns : goal.returns
returns c = record { fits = c.loop-byte.invariant.0; lines_after = sym (through_over _ _ _ c.loop-byte-test.false) ∙ c.loop-byte.invariant.1 }
