-- `rehome::is_open` meets its contract: the present home, or one that has seen the crew's vector.
-- Assumes nothing.
use mathlib.Core.Path.{◌∙◌, sym}
use borrow.Author.Tests.{eq-eqb, ne_eqb}
use Rattle.loops.proofs.BoolLaws.{or_stop, or_next}
use Rattle.rehome.proofs.is_open.Goals as goal

pub returns-then-index-wide : goal.returns-then-index-wide
returns-then-index-wide c = sym (or_stop _ (eq-eqb _ _ (sym c.index.ensures ∙ c.if-index-wide.true ∙ c.wide.ensures ∙ c.home_of.ensures)))

pub returns : goal.returns
returns c =
    c.has_seen.ensures
    ∙ sym (or_next _ (ne_eqb _ _ (λ e. c.if-index-wide.false (c.index.ensures ∙ e ∙ sym (c.wide.ensures ∙ c.home_of.ensures)))))
