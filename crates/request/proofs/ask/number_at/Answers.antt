-- `request::ask::number_at` meets its contract: past the last number stands 0.
-- Assumes nothing.
use mathlib.Core.Path.{sym}
use lib.ListN.{get_or-eq_default}
use Rattle.request.proofs.ask.number_at.Goals as goal

pub returns : goal.returns
returns c = sym (get_or-eq_default c.args.numbers.now 0 c.if-i-numbers.false)
