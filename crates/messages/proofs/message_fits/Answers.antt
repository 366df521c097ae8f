-- `messages::message_fits` meets its contract: a heartbeat's stamp, or the record behind a copy's kind.
-- Assumes nothing.
use mathlib.Core.Path.{◌∙◌, ap, refl}
use borrow.Author.Rules.{rules}
use Rattle.book.proofs.WordsLaws.{part_lent}
use Rattle.fit.specs.Fit.{carried_fit}
use Rattle.messages.proofs.MessageLaws.{message_beat, message_none, message_copy}
use Rattle.messages.proofs.message_fits.Goals as goal

pub returns-in-2 : goal.returns-in-2
returns-in-2 c = message_beat _ _ _ _ (search rules)

pub returns-in-1 : goal.returns-in-1
returns-in-1 c =
    let args = c.args in
    c.carried_fits.ensures
    ∙ ap (carried_fit args.n args.s.0 args.from.0) (part_lent args.message.now 1 10 9 refl)
    ∙ message_copy args.n args.s.0 args.from.0 args.message.now (search rules)

pub returns-in_default : goal.returns-in_default
returns-in_default c = message_none _ _ _ _ (search rules) (search rules)
