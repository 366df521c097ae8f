-- `frame_bytes::size_of_frame` meets its contract. The loop's invariant: the next message goes to `at`.
-- Assumes nothing.
use Prim.Native.Nat.{ℕ, ◌+◌}
use native.Mathlib.Omega.{arith}
use native.Mathlib.Nat.{le_antisymm}
use mathlib.Core.Path.{◌≡◌, ◌∙◌, ap}
use Rattle.book.specs.Layout.{slot}
use Rattle.frame.specs.Frame.{size_of, place_of}
use Rattle.frame_bytes.proofs.BytesLaws.{kind_there, place_none, place_more, place_most}
use Rattle.frame_bytes.proofs.size_of_frame.Goals as goal

pub loop-i-init : goal.loop-i-init
loop-i-init c = place_none _ _ _

pub overflow_add-at-in-loop-i : goal.overflow_add-at-in-loop-i
overflow_add-at-in-loop-i c =
    let args = c.args in
    let loop = c.loop-i in
    let g : ℕ → mathlib.Core.List.List ℕ = λ j. slot args.book.now args.q.0 (args.taken + j) in
    let next : loop.at + c.size_of-at.result ≡ place_of args.depots args.count g (loop.i + 1) =
    place_more _ _ g _ loop.invariant (c.size_of-at.ensures ∙ ap (size_of c.args.depots) (kind_there _ _ _ c.slot_at.ensures)) in
    omega (
      arith,
      next,
      place_most args.depots args.count g (loop.i + 1)
          c.requires.3,
      c.requires.2,
      c.loop-i-test.true,
    )

pub loop-i-preserved : goal.loop-i-preserved
loop-i-preserved c = place_more _ _ _ _ c.loop-i.invariant (c.size_of-at.ensures ∙ ap (size_of c.args.depots) (kind_there _ _ _ c.slot_at.ensures))

pub returns : goal.returns
returns c =
    let args = c.args in
    c.loop-i.invariant ∙ ap (place_of args.depots args.count (λ j. slot args.book.now args.q.0 (args.taken + j))) (le_antisymm c.loop-i.auto.i-end c.loop-i-test.false)
