-- `calls::perform::perform` meets its contract: the promise of the call that the request names settles reply and book.
-- Assumes nothing.
use borrow.Author.Rules.{rules}
use Rattle.upkeep.specs.Requests.{setting_up, did_read, did_write, ticked, took, refreshed, moved, did_list}
use Rattle.calls.proofs.ReplyLaws.{read_reply, write_reply, list_reply, mapped, performed}
use Rattle.calls.proofs.perform.perform.Goals as goal

pub returns-in-Setup : goal.returns-in-Setup
returns-in-Setup c =
    let promise = c.setup.ensures in
    let reply = c.answered.ensures in
    performed _ c.in-Setup.is (setting_up promise) reply.0 reply.1

pub returns-in-Read : goal.returns-in-Read
returns-in-Read c =
    let promise = c.read.ensures in
    let reply = read_reply _ _ c.map.ensures.cases promise.holds in
    performed _ c.in-Read.is (did_read promise) reply.0 reply.1

pub returns-in-Write : goal.returns-in-Write
returns-in-Write c =
    let promise = c.write.ensures in
    let reply = write_reply _ _ c.map-in-Write.ensures.cases in
    performed _ c.in-Write.is (did_write promise) reply.0 reply.1

pub returns-in-Tick : goal.returns-in-Tick
returns-in-Tick c =
    let promise = c.tick.ensures in
    let reply = c.answered-in-Tick.ensures in
    performed _ c.in-Tick.is (ticked promise) reply.0 reply.1

pub returns-in-Take : goal.returns-in-Take
returns-in-Take c =
    let promise = c.take.ensures in
    let reply = c.answered-in-Take.ensures in
    performed _ c.in-Take.is (took promise) reply.0 reply.1

pub returns-in-Refresh : goal.returns-in-Refresh
returns-in-Refresh c =
    let promise = c.refresh.ensures in
    let reply = c.answered-in-Refresh.ensures in
    performed _ c.in-Refresh.is (refreshed promise) reply.0 reply.1

pub returns-in-Move : goal.returns-in-Move
returns-in-Move c =
    let promise = c.move_crew.ensures in
    let reply = c.answered-in-Move.ensures in
    performed _ c.in-Move.is (moved promise) reply.0 reply.1

pub returns-in-List : goal.returns-in-List
returns-in-List c =
    let promise = c.list.ensures in
    let reply = list_reply _ _ (mapped _ _ c.map-in-List.ensures.cases (λ x y k. search rules)) promise.holds in
    performed _ c.in-List.is (did_list promise) reply.0 reply.1
