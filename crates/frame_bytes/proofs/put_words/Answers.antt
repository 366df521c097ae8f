-- `frame_bytes::put_words` meets its contract. The loop's invariant: the words passed stand in the buffer.
-- Assumes nothing.
use Prim.Native.Nat.{ℕ}
use native.Mathlib.Omega.{arith}
use native.Mathlib.Nat.{le_antisymm}
use mathlib.Core.Path.{◌∙◌, ap}
use Rattle.book.specs.Words.{put}
use Rattle.wire.specs.Wire.{word_bytes, joined}
use Rattle.wire.proofs.WireLaws.{put_none, put_run}
use Rattle.frame.specs.Frame.{sent_word}
use Rattle.frame_bytes.proofs.BytesLaws.{word_runs}
use Rattle.frame_bytes.proofs.put_words.Goals as goal

pub loop-i-init : goal.loop-i-init
loop-i-init c = put_none _ _ _

pub put_word-requires : goal.put_word-requires
put_word-requires c = omega (arith, c.loop-i.auto.out, c.loop-i-test.true, c.requires.2)

pub loop-i-preserved : goal.loop-i-preserved
loop-i-preserved c =
    let args = c.args in
    let i = c.loop-i.i in
    put_run _ args.at i (λ j. word_bytes (sent_word args.m.now j)) c.loop-i.invariant (word_runs args.m.now args.at i) (ap word_bytes c.sent_word.ensures) c.put_word.ensures

pub returns : goal.returns
returns c =
    let args = c.args in
    c.loop-i.invariant ∙ ap (λ (n : ℕ). put args.out.now args.at (joined n (λ j. word_bytes (sent_word args.m.now j)))) (le_antisymm c.loop-i.auto.i-end c.loop-i-test.false)
