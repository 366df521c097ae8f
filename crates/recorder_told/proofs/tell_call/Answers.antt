-- `recorder_told::tell_call` meets its contract: the recorder's promise, and where the call is done what is told of it.
-- Assumes nothing.
use mathlib.Core.Path.{◌≡◌, ◌∙◌, ap}
use Rattle.calls.specs.Performed.{asked}
use Rattle.journal.specs.Record.{request_by}
use Rattle.recorder_told.proofs.ToldLaws.{recorded_as, made_refused, size_few, made_done}
use Rattle.recorder_told.proofs.tell_call.Goals as goal
use Rattle.recorder_told.proofs.tell_call.Lts as lts
use Rattle.recorder_told.proofs.tell_call.Tie as tie
use Rattle.recorder_told.proofs.tell_call.Reads as reads

-- what is known at a place, for the lemmas below
abbrev After-recorded-told : Type 0
After-recorded-told = lts.After-recorded tie.the-claims reads.Pre reads.Post

-- what is asked is what the kind with its numbers asks
asked_by :
    (c : After-recorded-told) →
    let args = c.args in asked c.request_by-request.result c.beside_by.result.now ≡ request_by args.kind args.numbers.now
asked_by c = ap (asked c.request_by-request.result) c.beside_by.ensures ∙ c.request_by-request.ensures

pub returns-then-number-ne0 : goal.returns-then-number-ne0
returns-then-number-ne0 c = made_refused (recorded_as (asked_by c.before.before.before.before.before.before) c.recorded-told.ensures) _ c.if-number-ne0.true

pub tell-requires : goal.tell-requires
tell-requires c =
    let call = recorded_as (asked_by c.before.before.before.before.before.before.before) c.recorded-told.ensures in
    (c.requires.1, size_few call c.if-number-ne0.false, call.holds)

pub returns : goal.returns
returns c =
    made_done (recorded_as (asked_by c.before.before.before.before.before.before.before.before.before.before) c.recorded-told.ensures) c.if-number-ne0.false _ c.tell.ensures
