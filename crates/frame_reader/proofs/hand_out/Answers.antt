-- `frame_reader::hand_out` meets its contract. The loop's invariant: the words of the messages passed stand in the buffer, and the next begins at `at`.
-- Assumes nothing.
use Rattle.std.proofs.Common.{◌≡◌, ℕ, ◌+◌, ◌*◌, List, length, get_or, sym, ap, ◌∙◌, le_antisymm, zero-add, arith}
use Rattle.book.specs.Words.{put}
use Rattle.wire.specs.Wire.{joined}
use Rattle.wire.proofs.WireLaws.{joined_long, put_none, put_run}
use Rattle.frame.specs.Frame.{size_of, start_in, message_at, body_in}
use Rattle.frame.proofs.Theorems.{message_ten}
use Rattle.frame_form.specs.Asks.{There}
use Rattle.frame_form.proofs.FormLaws.{start_none, start_more, there_at}
use Rattle.frame_reader.proofs.hand_out.Goals as goal
use Rattle.frame_reader.proofs.hand_out.Lts as lts
use Rattle.frame_reader.proofs.hand_out.Tie as tie
use Rattle.frame_reader.proofs.hand_out.Reads as reads

-- what is known at a place, for the lemmas below
abbrev In-loop-i : Type 0
In-loop-i = lts.In-loop tie.the-claims reads.Pre reads.Post goal.the-invariant-loop-i goal.the-decreases-loop-i

abbrev After-size_of-at : Type 0
After-size_of-at = lts.After-size_of tie.the-claims reads.Pre reads.Post goal.the-invariant-loop-i goal.the-decreases-loop-i

there : (c : In-loop-i) → let args = c.args in There args.way.route args.f.now c.loop-i.at
there c = let pre = c.requires in there_at _ _ c.loop-i.i c.args.way.ready pre.0 (omega (arith, c.loop-i-test.true, pre.1)) c.loop-i.invariant.0

size_is :
    (c : After-size_of-at) →
    let args = c.args in c.size_of-at.result
    ≡ size_of args.way.route.counts.depots (get_or args.f.now c.loop-i.at 0)
size_is c = c.size_of-at.ensures ∙ ap
    (size_of c.args.way.route.counts.depots) c.word_of_byte.ensures

pub loop-i-init : goal.loop-i-init
loop-i-init c = (start_none _ _ c.requires.1, put_none _ 0 _)

pub message_at-m-requires : goal.message_at-m-requires
message_at-m-requires c = there c.before

pub write_words-requires : goal.write_words-requires
write_words-requires c =
    let loop = c.loop-i in
    omega (
      arith,
      loop.auto.out,
      c.loop-i-test.true,
      c.requires.2,
      ap length c.message_at-m.ensures
          ∙ message_ten c.args.way.route c.args.f.now loop.at,
    )

pub bounds-f-at : goal.bounds-f-at
bounds-f-at c = omega (arith, (there c.before.before.before.before.before.before.before.before).begins)

pub overflow_add-at-in-loop-i : goal.overflow_add-at-in-loop-i
overflow_add-at-in-loop-i c = omega (arith, (there c.before.before.before.before.before.before.before.before.before.before).ends, size_is c.before)

pub loop-i-preserved : goal.loop-i-preserved
loop-i-preserved c =
    let args = c.args in
    let loop = c.loop-i in
    let G : ℕ → List ℕ = λ j. message_at args.way.route args.f.now (start_in args.way.route.counts.depots args.f.now j) in
    let ten : 10 * loop.i ≡ 0 + length (joined loop.i G) = sym (zero-add _ ∙ joined_long loop.i 10 G (λ j. message_ten _ _ _)) in (
      start_more _ _ _ loop.invariant.0 (size_is c.before),
      put_run _ 0 loop.i G loop.invariant.1 ten (c.message_at-m.ensures ∙ ap
          (message_at args.way.route args.f.now) loop.invariant.0) c.write_words.ensures,
    )

pub returns : goal.returns
unfolding body_in
returns c =
    let args = c.args in
    let loop = c.loop-i in
    loop.invariant.1
    ∙ ap (λ (n : ℕ). put args.out.now 0 (joined n (λ j. message_at args.way.route args.f.now (start_in args.way.route.counts.depots args.f.now j))))
    (le_antisymm loop.auto.i-end c.loop-i-test.false ∙ c.requires.1)
