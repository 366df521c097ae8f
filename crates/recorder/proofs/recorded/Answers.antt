-- `recorder::recorded` meets its contract: the room first of all.
-- Assumes nothing.
use Prim.Native.Nat.{ℕ, ◌≤◌, ◌<◌}
use mathlib.Core.Path.{refl, subst}
use lib.ListN.{length}
use Rattle.paper.specs.Answers.{number_of}
use Rattle.request.specs.Replies.{on_paper, Carries}
use Rattle.calls.specs.Performed.{asked}
use Rattle.recorder.proofs.RecorderLaws.{record_room_law, recording_room, recording_none}
use Rattle.recorder.proofs.recorded.Goals as goal

pub returns-then-out-size : goal.returns-then-out-size
unfolding on_paper Carries number_of
returns-then-out-size c =
    let args = c.args in
    recording_none args.book.now (asked args.request args.beside.now) args.out.now
    (subst (λ (n : ℕ). length args.out.now < n) c.size_of-size.ensures c.if-out-size.true) refl tt

pub record_at-requires : goal.record_at-requires
record_at-requires c =
    let args = c.args in
    record_room_law args.book.now (asked args.request args.beside.now) _
    (subst (λ (n : ℕ). n ≤ length args.out.now) c.size_of-size.ensures c.if-out-size.false)

pub returns : goal.returns
returns c =
    let args = c.args in
    recording_room
    (subst (λ (n : ℕ). n ≤ length args.out.now) c.size_of-size.ensures
    c.if-out-size.false) c.record_at.ensures
