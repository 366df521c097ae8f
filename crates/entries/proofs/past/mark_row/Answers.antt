-- `entries::past::mark_row` meets its contract. The loop's invariant: the entries passed are marked. A step is marked, and what is none is not.
-- Assumes nothing.
use mathlib.Core.Path.{sym, ◌∙◌}
use Rattle.chains.proofs.TableLaws.{turns_none, turns_more, adds_direct, adds_indirect}
use Rattle.entries.proofs.past.mark_row.Goals as goal
use Rattle.entries.proofs.past.mark_row.Goals.{then-rests_on, else-rests_on}

pub loop-j-init : goal.loop-j-init
loop-j-init c = turns_none _ _ c.requires.0.sized

pub loop-j-preserved : goal.loop-j-preserved
loop-j-preserved c =
    let old = c.loop-j.invariant in
    turns_more _ _ old
    (elim c.if-rests_on.branch [
      | then-rests_on w ↦ rw w.past-is (adds_direct _ _ _ (sym c.rests_on.ensures ∙ w.if-rests_on.true) w.mark.ensures)
      | else-rests_on w ↦ rw w.past-is (adds_indirect _ _ _ old.sized (sym c.rests_on.ensures ∙ w.if-rests_on.false))
    ])
