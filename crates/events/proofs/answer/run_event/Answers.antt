-- `events::answer::run_event` meets its contract: the promise of a call with its record settles what is printed and what is recorded.
-- Assumes nothing.
use Prim.Native.Nat.{◌≤◌}
use native.Mathlib.Omega.{arith}
use mathlib.Core.Path.{sym, ◌∙◌, ap, ap₂, subst}
use lib.ListN.{length}
use Rattle.paper.specs.Calls.{Answer}
use Rattle.paper.specs.Answers.{tellings}
use Rattle.upkeep.specs.Requests.{reply_to, book_after}
use Rattle.calls.specs.Performed.{asked, request_of}
use Rattle.line.proofs.PrintLaws.{wrote_same}
use Rattle.reply.specs.Printed.{printed}
use Rattle.events.specs.Answering.{event_book, event_says}
use Rattle.events.proofs.SayLaws.{reply_short}
use Rattle.events.proofs.KeepLaws.{asked_few, asked_wrote}
use borrow.Author.Rules.{rules}
use Rattle.events.proofs.answer.run_event.Goals as goal

pub record_at-recorded-requires : goal.record_at-recorded-requires
unfolding request_of
record_at-recorded-requires c =
    let request = ap₂ asked c.request_of-request.ensures c.beside_in.ensures in
    let few = asked_few c.args.book.now c.args.event c.args.numbers.now request in
    omega (arith, c.requires.1)

pub say-end-requires : goal.say-end-requires
unfolding request_of
say-end-requires c =
    let l = c.args.book.now in
    let request = ap₂ asked c.request_of-request.ensures c.beside_in.ensures in
    let promise = c.record_at-recorded.ensures.performed in
    let short = (reply_short l c.args.event c.args.numbers.now).bearings in
    (promise.holds, subst (λ (a : Answer). length (tellings a) ≤ 8) (sym (promise.answer ∙ ap (reply_to l) request)) short, c.requires.0)

pub overflow_add-result : goal.overflow_add-result
unfolding request_of
overflow_add-result c =
    let request = ap₂ asked c.request_of-request.ensures c.beside_in.ensures in
    let few = asked_few c.args.book.now c.args.event c.args.numbers.now request in
    let size = c.record_at-recorded.ensures.size in
    search rules

pub returns : goal.returns
unfolding event_book event_says request_of
returns c =
    let l = c.args.book.now in
    let request = ap₂ asked c.request_of-request.ensures c.beside_in.ensures in
    let done = c.record_at-recorded.ensures in record { book_after = done.performed.book ∙ ap (book_after l) request; wrote = wrote_same (ap printed (done.performed.answer ∙ ap (reply_to l) request)) c.say-end.ensures; wrote_2 = asked_wrote l c.args.event c.args.numbers.now request done.buffer done.size }
