-- `messages::messages_fit` meets its contract: the taken messages, then those that wait.
-- Assumes nothing.
use native.Mathlib.Omega.{arith}
use mathlib.Core.Path.{◌∙◌, sym}
use borrow.Author.Tests.{eq-eqb}
use Rattle.std.proofs.lemmas.Grind.{common_steps}
use Rattle.loops.proofs.BoolLaws.{and_next}
use Rattle.fit.specs.Fit.{messages_fit}
use Rattle.messages.proofs.MessageLaws.{none_wait}
use Rattle.messages.proofs.messages_fit.Goals as goal

pub returns-then-taken-count : goal.returns-then-taken-count
unfolding messages_fit
returns-then-taken-count c =
    let none = c.if-taken-count.true in
    eq-eqb _ _ none ∙ sym (and_next _ (sym c.copies_fit.ensures ∙ c.if-copies_fit.true) ∙ none_wait _ none)

pub returns-else-taken-count : goal.returns-else-taken-count
unfolding messages_fit
returns-else-taken-count c = grind (arith, common_steps)

pub returns-else-copies_fit : goal.returns-else-copies_fit
unfolding messages_fit
returns-else-copies_fit c = grind (arith, common_steps)
