-- `frame_bytes::put_offsets` meets its contract. The loop's invariant: the offsets passed stand in the buffer, and the next message goes to `at`.
-- Assumes nothing.
use Prim.Native.Nat.{ℕ, ◌+◌}
use native.Mathlib.Omega.{arith}
use native.Mathlib.Nat.{le_antisymm}
use mathlib.Core.Path.{◌≡◌, ◌∙◌, ap}
use mathlib.Core.List.{List}
use Rattle.book.specs.Words.{put}
use Rattle.book.specs.Layout.{slot}
use Rattle.wire.specs.Wire.{half_bytes, joined}
use Rattle.wire.proofs.WireLaws.{put_none, put_run}
use Rattle.frame.specs.Frame.{size_of, place_of, offsets_of}
use Rattle.frame_bytes.proofs.BytesLaws.{kind_there, place_none, place_more, place_most, offset_runs}
use Rattle.frame_bytes.proofs.put_offsets.Goals as goal

pub loop-i-init : goal.loop-i-init
loop-i-init c = (place_none _ _ _, put_none _ 4 _)

pub put_half-requires : goal.put_half-requires
put_half-requires c = omega (arith, c.loop-i.auto.out, c.loop-i-test.true, c.requires.4)

pub overflow_add-at-in-loop-i : goal.overflow_add-at-in-loop-i
overflow_add-at-in-loop-i c =
    let args = c.args in
    let loop = c.loop-i in
    let g : ℕ → List ℕ = λ j. slot args.book.now args.q.0 (args.taken + j) in
    let next : loop.at + c.size_of-at.result ≡ place_of args.depots args.count g (loop.i + 1) =
    place_more _ _ g _ loop.invariant.0 (c.size_of-at.ensures ∙ ap (size_of c.args.depots) (kind_there _ _ _ c.slot_at.ensures)) in
    omega (
      arith,
      next,
      place_most args.depots args.count g (loop.i + 1)
          c.requires.3,
      c.requires.2,
      c.loop-i-test.true,
    )

pub loop-i-preserved : goal.loop-i-preserved
loop-i-preserved c =
    let args = c.args in
    let loop = c.loop-i in
    let g : ℕ → List ℕ = λ j. slot args.book.now args.q.0 (args.taken + j) in (
      place_more _ _ g _ loop.invariant.0 (c.size_of-at.ensures ∙ ap (size_of c.args.depots) (kind_there _ _ _ c.slot_at.ensures)),
      put_run _ 4 loop.i (λ k. half_bytes (place_of args.depots args.count g k)) loop.invariant.1 (offset_runs args.depots args.count g loop.i)
          (ap half_bytes loop.invariant.0) c.put_half.ensures,
    )

pub returns : goal.returns
unfolding offsets_of
returns c =
    let args = c.args in
    let loop = c.loop-i in
    loop.invariant.1
    ∙ ap (λ (n : ℕ). put args.out.now 4 (joined n (λ k. half_bytes (place_of args.depots args.count (λ j. slot args.book.now args.q.0 (args.taken + j)) k))))
    (le_antisymm loop.auto.i-end c.loop-i-test.false)
