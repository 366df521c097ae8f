-- `numbers::read_words` meets its contract. The loop's invariant: the words passed are those of the bytes.
-- Assumes nothing.
use borrow.Author.Rules.{rules}
use Rattle.numbers.proofs.OneByOne.{words_none, words_step, words_all}
use Rattle.numbers.proofs.read_words.Goals as goal

pub loop-i-init : goal.loop-i-init
loop-i-init c = words_none _ _ _

pub loop-i-preserved : goal.loop-i-preserved
loop-i-preserved c = words_step _ _ _ _ c.loop-i.invariant c.word_at.ensures

pub returns : goal.returns
returns c = words_all _ _ _ _ (search rules) (search rules) c.loop-i.invariant
