-- `register::calls::home::crew_vector` meets its contract: the four words at the crew's place.
-- Assumes nothing.
use Rattle.std.proofs.Common.{rules, tests}
use Rattle.book.specs.Layout.{crew_vector}
use Rattle.links.proofs.FourLaws.{four_made}
use Rattle.register.proofs.home.crew_vector.Goals as goal

pub returns : goal.returns
returns c = four_made (crew_vector c.args.book.now c.args.c.0) _ _ (λ x b q l k. search (rules, tests)) c.from_fn.ensures.items
