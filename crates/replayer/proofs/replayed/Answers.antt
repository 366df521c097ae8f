-- `replayer::replayed` meets its contract: the call that is performed is the one that the numbers ask.
-- Assumes nothing.
use mathlib.Core.Path.{◌∙◌, ap}
use Rattle.calls.specs.Performed.{asked}
use Rattle.replayer.proofs.TurnLaws.{replays}
use Rattle.replayer.proofs.replayed.Goals as goal

pub returns : goal.returns
returns c =
    let request = c.request_by-request in
    let told = replays c.perform-reply.ensures (ap (asked request.result) c.beside_by.ensures ∙ request.ensures)
    c.number_in.ensures in
    record { value = told.0; book_after = told.1 }
