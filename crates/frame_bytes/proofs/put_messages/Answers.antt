-- `frame_bytes::put_messages` meets its contract. The loop's invariant: the messages passed stand in the buffer, and the next goes to `at`.
-- Assumes nothing.
use Prim.Native.Nat.{ℕ, ◌+◌, ◌≤◌}
use native.Mathlib.Omega.{arith}
use native.Mathlib.Nat.{le_antisymm}
use mathlib.Core.Path.{◌≡◌, ◌∙◌, sym, ap, subst}
use mathlib.Core.List.{List}
use lib.ListN.{length}
use Rattle.book.specs.Words.{put}
use Rattle.book.specs.Layout.{kind_of, slot}
use Rattle.book.proofs.WordsLaws.{part_from}
use Rattle.wire.specs.Wire.{joined}
use Rattle.wire.proofs.WireLaws.{put_none, put_run}
use Rattle.frame.specs.Frame.{body_at, size_of, message_bytes, place_of, messages_of}
use Rattle.frame_bytes.proofs.BytesLaws.{kind_there, place_none, place_more, place_most, place_room, place_runs}
use borrow.Author.Rules.{rules}
use Rattle.frame_bytes.proofs.put_messages.Goals as goal

pub loop-i-init : goal.loop-i-init
loop-i-init c = (place_none _ _ _, put_none _ (body_at c.args.count) _)

pub put_message-requires : goal.put_message-requires
put_message-requires c =
    let args = c.args in
    let loop = c.loop-i in
    let g : ℕ → List ℕ = λ j. slot args.book.now args.q.0 (args.taken + j) in
    let room = place_room args.depots args.count g loop.i _ c.loop-i-test.true loop.invariant.0
    c.requires.4 in (
      search rules,
      c.requires.3,
      subst (λ (m : List ℕ). loop.at + size_of args.depots (kind_of m) ≤ length loop.out)
          (sym (part_from args.book.now 10 c.slot_at-from.ensures)) (omega (arith, room, loop.auto.out)),
    )

pub overflow_add-at-in-loop-i : goal.overflow_add-at-in-loop-i
overflow_add-at-in-loop-i c =
    let args = c.args in
    let loop = c.loop-i in
    let g : ℕ → List ℕ = λ j. slot args.book.now args.q.0 (args.taken + j) in
    let next : loop.at + c.size_of-at.result ≡ place_of args.depots args.count g (loop.i + 1) =
    place_more _ _ g _ loop.invariant.0 (c.size_of-at.ensures ∙ ap (size_of c.args.depots) (kind_there _ _ _ c.slot_at-from.ensures)) in
    omega (
      arith,
      next,
      place_most args.depots args.count g (loop.i + 1)
          c.requires.3,
      c.requires.2,
      c.loop-i-test.true,
    )

pub loop-i-preserved : goal.loop-i-preserved
loop-i-preserved c =
    let args = c.args in
    let loop = c.loop-i in
    let g : ℕ → List ℕ = λ j. slot args.book.now args.q.0 (args.taken + j) in (
      place_more _ _ g _ loop.invariant.0 (c.size_of-at.ensures ∙ ap (size_of c.args.depots) (kind_there _ _ _ c.slot_at-from.ensures)),
      put_run _ (body_at args.count) loop.i (λ k. message_bytes args.depots (g k)) loop.invariant.1 (place_runs args.depots args.count g loop.i loop.invariant.0)
          (ap (message_bytes args.depots) (part_from args.book.now 10 c.slot_at-from.ensures))
          c.put_message.ensures,
    )

pub returns : goal.returns
unfolding messages_of
returns c =
    let args = c.args in
    let loop = c.loop-i in
    loop.invariant.1
    ∙ ap (λ (n : ℕ). put args.out.now (body_at args.count) (joined n (λ k. message_bytes args.depots (slot args.book.now args.q.0 (args.taken + k)))))
    (le_antisymm loop.auto.i-end c.loop-i-test.false)
