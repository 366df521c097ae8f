-- `chains::table::join` meets its contract. The loop's invariant: the words passed are joined with row k, which no turn changes.
-- Assumes nothing.
use Rattle.chains.proofs.TableLaws.{turns_none, turns_joined}
use Rattle.chains.proofs.table.join.Goals as goal

pub loop-p-init : goal.loop-p-init
loop-p-init c = turns_none _ _ c.requires.0

pub loop-p-preserved : goal.loop-p-preserved
loop-p-preserved c = turns_joined _ _ _ _ c.loop-p.invariant c.requires.1 c.join_word.ensures
