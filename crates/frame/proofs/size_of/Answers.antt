-- `frame::size_of` meets its contract: by the kind.
-- Assumes nothing.
use mathlib.Core.Path.{sym, ◌∙◌}
use borrow.Author.Tests.{eq-eqb, ne_eqb}
use Rattle.loops.proofs.BoolLaws.{pick_true, pick_false}
use Rattle.frame.specs.Frame.{size_of}
use Rattle.frame.proofs.size_of.Goals as goal

pub returns-then-kind-eq-BEAT : goal.returns-then-kind-eq-BEAT
unfolding size_of
returns-then-kind-eq-BEAT c = sym (pick_true _ _ (eq-eqb _ _ c.if-kind-eq-BEAT.true))

pub returns-then-kind-eq-COPY : goal.returns-then-kind-eq-COPY
unfolding size_of
returns-then-kind-eq-COPY c = sym (pick_false _ _ (ne_eqb _ _ c.if-kind-eq-BEAT.false) ∙ pick_true _ _ (eq-eqb _ _ c.if-kind-eq-COPY.true))

pub returns : goal.returns
unfolding size_of
returns c = sym (pick_false _ _ (ne_eqb _ _ c.if-kind-eq-BEAT.false) ∙ pick_false _ _ (ne_eqb _ _ c.if-kind-eq-COPY.false))
