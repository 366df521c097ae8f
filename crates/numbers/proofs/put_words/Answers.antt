-- `numbers::put_words` meets its contract. The loop's invariant: the bytes of the words passed stand in the buffer.
-- Assumes nothing.
use Rattle.numbers.proofs.OneByOne.{bytes_none, bytes_step, bytes_all}
use Rattle.numbers.proofs.put_words.Goals as goal

pub loop-i-init : goal.loop-i-init
loop-i-init c = bytes_none _ _

pub loop-i-preserved : goal.loop-i-preserved
loop-i-preserved c = bytes_step _ _ _ _ c.loop-i-test.true c.loop-i.invariant c.put_word.ensures

pub returns : goal.returns
returns c = bytes_all _ _ _ _ c.loop-i-test.false c.loop-i.invariant
