-- `who::with_bit` meets its contract: a bit above all that the mask has is added by `|`.
-- Assumes nothing.
use Rattle.who.proofs.MaskLaws.{with_bit, without_bit}
use Rattle.who.proofs.with_bit.Goals as goal

pub returns-then-has : goal.returns-then-has
returns-then-has c = with_bit _ _ c.requires.0 c.requires.1 c.if-has.true

pub returns : goal.returns
returns c = without_bit _ _ c.if-has.false
