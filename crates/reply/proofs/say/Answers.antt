-- `reply::say` meets its contract: each reply is printed as what it is on paper.
-- Assumes nothing.
use Prim.Native.Nat.{ℕ, ◌≤◌}
use native.Mathlib.Omega.{arith}
use mathlib.Core.Path.{refl, ap, subst}
use lib.ListN.{length}
use Rattle.std.specs.Prelude.{Result}
use Rattle.paper.specs.declared.answer.Refusal.{Refusal}
use Rattle.paper.specs.Calls.{refused, done}
use Rattle.paper.specs.Answers.{paper_list, entries_in, tellings}
use Rattle.request.specs.declared.reply.Reply.{Reply}
use Rattle.request.specs.Replies.{paper_reply, on_paper, Carries}
use Rattle.request.proofs.Known.{known_done, carried}
use Rattle.line.specs.Answers.{number_answer}
use Rattle.line.proofs.PrintLaws.{wrote_same}
use Rattle.reply.specs.Printed.{printed}
use Rattle.reply.proofs.RoomLaws.{no_list, printed_room, holds_few_listed, said_as}
use Rattle.reply.proofs.say.Goals as goal

pub answer_number-requires : goal.answer_number-requires
unfolding printed entries_in tellings
answer_number-requires c = printed_room done (no_list _ (omega arith) refl) c.requires.2

pub say_reading-requires : goal.say_reading-requires
unfolding on_paper paper_reply Carries
say_reading-requires c = (carried (known_done c.in-Ok.is c.in-Read.is) c.requires.0, c.requires.2)

pub say_list-requires : goal.say_list-requires
unfolding on_paper paper_reply Carries
say_list-requires c =
    let e = known_done c.in-Ok.is c.in-Listed.is in
    let few = holds_few_listed _ (carried e c.requires.0) (subst (λ (x : Result Reply Refusal). length (tellings (on_paper x)) ≤ 8) e c.requires.1) in
    let most = few.bearings in
    (omega (arith, few.words), few.counted, omega (arith, c.requires.2))

pub answer_number-requires-in-Err : goal.answer_number-requires-in-Err
unfolding printed entries_in tellings
answer_number-requires-in-Err c = printed_room (refused _) (no_list _ (omega arith) refl) c.requires.2

pub returns-in-Done : goal.returns-in-Done
unfolding printed on_paper paper_reply
returns-in-Done c = said_as (known_done c.in-Ok.is c.in-Done.is) c.answer_number.ensures

pub returns-in-Read : goal.returns-in-Read
unfolding on_paper paper_reply
returns-in-Read c = said_as (known_done c.in-Ok.is c.in-Read.is) c.say_reading.ensures

pub returns-in-Written : goal.returns-in-Written
unfolding on_paper paper_reply
returns-in-Written c = said_as (known_done c.in-Ok.is c.in-Written.is) c.say_written.ensures

pub returns-in-Listed : goal.returns-in-Listed
unfolding printed on_paper paper_reply paper_list
returns-in-Listed c = said_as (known_done c.in-Ok.is c.in-Listed.is) c.say_list.ensures

pub returns-in-Err : goal.returns-in-Err
unfolding printed on_paper
returns-in-Err c = said_as c.in-Err.is (wrote_same (ap number_answer c.number_of.ensures) c.answer_number-in-Err.ensures)
