-- `frame_bytes::put_message` meets its contract: by the kind.
-- Assumes nothing.
use native.Mathlib.Omega.{arith}
use mathlib.Core.Path.{◌∙◌, ap}
use lib.ListN.{length, length-set}
use Rattle.book.specs.Layout.{kind_of}
use Rattle.book.proofs.WordsLaws.{length_put}
use Rattle.frame.proofs.MessageLaws.{size_beat, size_copy}
use Rattle.frame_bytes.proofs.BytesLaws.{beat_put, copy_put, none_put}
use Rattle.frame_bytes.proofs.put_message.Goals as goal

pub bounds-out-at : goal.bounds-out-at
bounds-out-at c = let args = c.args in omega
    (arith, c.requires.2, size_beat args.depots (kind_of args.m.now) c.if-kind-eq-BEAT.true)

pub put_word-requires : goal.put_word-requires
put_word-requires c =
    let args = c.args in simp length-set
    (omega (arith, c.requires.2, size_beat args.depots (kind_of args.m.now) c.if-kind-eq-BEAT.true))

pub shape_of-out-then-kind-eq-BEAT : goal.shape_of-out-then-kind-eq-BEAT
shape_of-out-then-kind-eq-BEAT c = ap length c.put_word.ensures ∙ length_put _ _ _ ∙ simp length-set

pub returns-then-kind-eq-BEAT : goal.returns-then-kind-eq-BEAT
returns-then-kind-eq-BEAT c = beat_put _ _ _ _ c.if-kind-eq-BEAT.true c.low.ensures c.put_word.ensures

pub bounds-out-at-then-kind-eq-COPY : goal.bounds-out-at-then-kind-eq-COPY
bounds-out-at-then-kind-eq-COPY c = let args = c.args in omega
    (arith, c.requires.2, size_copy args.depots (kind_of args.m.now) c.if-kind-eq-COPY.true)

pub bounds-out-at-then-kind-eq-COPY-2 : goal.bounds-out-at-then-kind-eq-COPY-2
bounds-out-at-then-kind-eq-COPY-2 c =
    let args = c.args in simp length-set
    (omega (arith, c.requires.2, size_copy args.depots (kind_of args.m.now) c.if-kind-eq-COPY.true))

pub put_words-requires : goal.put_words-requires
put_words-requires c =
    let args = c.args in (
      c.requires.0,
      c.requires.1,
      simp length-set (omega (
        arith,
        c.requires.2,
        size_copy args.depots (kind_of args.m.now) c.if-kind-eq-COPY.true,
      )),
    )

pub shape_of-out : goal.shape_of-out
shape_of-out c = ap length c.put_words.ensures ∙ length_put _ _ _ ∙ simp length-set

pub returns-then-kind-eq-COPY : goal.returns-then-kind-eq-COPY
returns-then-kind-eq-COPY c = copy_put _ _ _ _ c.if-kind-eq-COPY.true
    c.low-then-kind-eq-COPY.ensures c.low-then-kind-eq-COPY-2.ensures c.put_words.ensures

pub returns-else-kind-eq-COPY : goal.returns-else-kind-eq-COPY
returns-else-kind-eq-COPY c = none_put _ _ _ _ c.if-kind-eq-BEAT.false c.if-kind-eq-COPY.false
