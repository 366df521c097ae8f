-- `frame_form::message_at` meets its contract: by the kind.
-- Assumes nothing.
use mathlib.Core.List.{[]}
use native.Mathlib.Omega.{arith}
use mathlib.Core.Path.{◌∙◌, sym, ap}
use lib.ListN.{get_or}
use borrow.Author.Tests.{ne_eqb}
use Rattle.loops.proofs.BoolLaws.{pick_false}
use Rattle.links.specs.Send.{beat}
use Rattle.frame.specs.Frame.{message_at}
use Rattle.frame.proofs.MessageLaws.{by_beat, size_beat, size_other}
use Rattle.frame_form.proofs.message_at.Goals as goal

pub word_at-stamp-requires : goal.word_at-stamp-requires
word_at-stamp-requires c =
    let pre = c.requires in
    omega (
      arith,
      pre.ends,
      size_beat c.args.way.route.counts.depots
          (get_or c.args.f.now c.args.at 0) (sym c.word_of_byte.ensures ∙ c.if-word_of_byte-eq-BEAT.true),
    )

pub returns-then-word_of_byte-eq-BEAT : goal.returns-then-word_of_byte-eq-BEAT
unfolding message_at
returns-then-word_of_byte-eq-BEAT c = ap beat c.word_at-stamp.ensures ∙ sym (by_beat _ _ [] (sym c.word_of_byte.ensures ∙ c.if-word_of_byte-eq-BEAT.true))

pub copy_at-requires : goal.copy_at-requires
copy_at-requires c =
    let pre = c.requires in
    omega (
      arith,
      pre.ends,
      size_other c.args.way.route.counts.depots
          (get_or c.args.f.now c.args.at 0) (λ e. c.if-word_of_byte-eq-BEAT.false (c.word_of_byte.ensures ∙ e)) pre.known,
    )

pub returns : goal.returns
unfolding message_at
returns c = c.copy_at.ensures ∙ sym (pick_false _ _ (ne_eqb _ _ (λ e. c.if-word_of_byte-eq-BEAT.false (c.word_of_byte.ensures ∙ e))))
