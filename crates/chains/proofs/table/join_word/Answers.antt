-- `chains::table::join_word` meets its contract. The row of the word has bit k, and the word is joined; or it has not, and nothing is added.
-- Assumes nothing.
use Rattle.loops.proofs.BoolLaws.{test_passed, test_failed}
use Rattle.chains.proofs.TableLaws.{adds_joined, adds_unjoined}
use Rattle.chains.proofs.table.join_word.Goals as goal

pub returns-then-not-is_set : goal.returns-then-not-is_set
returns-then-not-is_set c = adds_unjoined _ _ _ c.requires.0 (test_failed c.is_set.ensures c.if-not-is_set.true-raw)

pub returns : goal.returns
returns c =
    adds_joined _ _ _ c.requires.0 c.requires.2 (test_passed c.is_set.ensures c.if-not-is_set.false-raw)
