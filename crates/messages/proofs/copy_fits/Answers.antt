-- `messages::copy_fits` meets its contract: the kind, then the record behind it.
-- Assumes nothing.
use native.Mathlib.Omega.{arith}
use mathlib.Core.Path.{◌∙◌, sym, ap, refl}
use borrow.Author.Tests.{eq-eqb}
use Rattle.std.proofs.lemmas.Grind.{common_steps}
use Rattle.loops.proofs.BoolLaws.{and_next}
use Rattle.book.proofs.WordsLaws.{part_lent}
use Rattle.fit.specs.Fit.{carried_fit, copy_fit}
use Rattle.messages.proofs.copy_fits.Goals as goal

pub returns-then-message-eq-COPY : goal.returns-then-message-eq-COPY
unfolding copy_fit
returns-then-message-eq-COPY c =
    let args = c.args in
    c.carried_fits.ensures
    ∙ ap (carried_fit args.n args.s.0 args.from.0) (part_lent args.message.now 1 10 9 refl)
    ∙ sym (and_next _ (eq-eqb _ _ c.if-message-eq-COPY.true))

pub returns-else-message-eq-COPY : goal.returns-else-message-eq-COPY
unfolding copy_fit
returns-else-message-eq-COPY c = grind (arith, common_steps)
