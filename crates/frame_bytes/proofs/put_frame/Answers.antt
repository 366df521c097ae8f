-- `frame_bytes::put_frame` meets its contract: head, offsets and messages, one behind the other.
-- Assumes nothing.
use Prim.Native.Nat.{ℕ, ◌+◌}
use native.Mathlib.Omega.{arith}
use mathlib.Core.Path.{◌∙◌, ap}
use mathlib.Core.List.{List}
use lib.ListN.{length}
use Rattle.book.specs.Layout.{slot}
use Rattle.book.proofs.WordsLaws.{length_put}
use Rattle.frame_bytes.proofs.BytesLaws.{place_least, frame_put}
use Rattle.frame_bytes.proofs.put_frame.Goals as goal

pub put_head-requires : goal.put_head-requires
put_head-requires c =
    let args = c.args in
    let pre = c.requires in
    let g : ℕ → List ℕ = λ j. slot args.book.now args.q.0 (args.taken + j) in
    (omega (arith, pre.2), omega (arith, pre.3, place_least args.way.route.counts.depots args.count g args.count))

pub put_offsets-requires : goal.put_offsets-requires
put_offsets-requires c =
    let args = c.args in
    let pre = c.requires in
    let g : ℕ → List ℕ = λ j. slot args.book.now args.q.0 (args.taken + j) in (
      pre.0,
      pre.1,
      pre.2,
      args.way.ready.counts.depots,
      omega (arith, pre.3, place_least args.way.route.counts.depots args.count g args.count, ap length c.put_head.ensures ∙ length_put _ _ _),
    )

pub put_messages-requires : goal.put_messages-requires
put_messages-requires c =
    let pre = c.requires in (
      pre.0,
      pre.1,
      pre.2,
      c.args.way.ready.counts.depots,
      omega (
        arith,
        pre.3,
        ap length c.put_offsets.ensures
            ∙ length_put _ _ _,
        ap length c.put_head.ensures ∙ length_put _ _ _,
      ),
    )

pub shape_of-out : goal.shape_of-out
shape_of-out c =
    ap length c.put_messages.ensures ∙ length_put _ _ _ ∙ ap length
    c.put_offsets.ensures ∙ length_put _ _ _ ∙ ap length
    c.put_head.ensures ∙ length_put _ _ _

pub returns : goal.returns
returns c = frame_put _ _ _ _ _ c.put_head.ensures
    c.put_offsets.ensures c.put_messages.ensures
