-- `frame_reader::read_on` meets its contract: the form, the distance by wrapping subtraction, the room, and then the messages.
-- Assumes nothing.
use Rattle.std.proofs.Common.{◌≡◌, ◌+◌, ◌%◌, ◌<◌, true, ◌-◌, arith, rules}
use Rattle.loops.proofs.BoolLaws.{test_passed, test_failed}
use Rattle.wire.specs.Wire.{half_limit}
use Rattle.frame.specs.declared.FrameRefusal.TheVariants.{NoRoom, BadFrame, Old, Gap}
use Rattle.frame.specs.Frame.{serial_in, formed}
use Rattle.frame.specs.Promises.{frame_number}
use Rattle.frame.proofs.DecodeLaws.{Formed, formed_says}
use Rattle.frame.proofs.PromiseLaws.{refused_as, done_as, arrival_bad, arrival_old, arrival_gap, arrival_room, arrival_good}
use Rattle.frame.proofs.Theorems.{half_small}
use Rattle.frame_reader.proofs.ReaderLaws.{wrapped, serial_old, serial_not_old, serial_other, serial_own}
use Rattle.frame_reader.proofs.read_on.Goals as goal
use Rattle.frame_reader.proofs.read_on.Lts as lts
use Rattle.frame_reader.proofs.read_on.Tie as tie
use Rattle.frame_reader.proofs.read_on.Reads as reads

-- what is known at a place, for the lemmas below
abbrev Else-not-is_formed : Type 0
Else-not-is_formed = lts.Else1 tie.the-claims reads.Pre reads.Post

abbrev After-half_at-serial : Type 0
After-half_at-serial = lts.After-half_at tie.the-claims reads.Pre reads.Post

is : (c : Else-not-is_formed) → formed c.args.way.route c.args.f.now ≡ true
is c = test_passed c.is_formed.ensures c.if-not-is_formed.false-raw

whole : (c : Else-not-is_formed) → Formed c.args.way.route c.args.f.now
whole c = formed_says _ _ (is c)

small : (c : Else-not-is_formed) → serial_in c.args.f.now < half_limit
small c = half_small _ 2 (record { at = λ i. omega (arith, c.shared_slice_known-1.given i) })

-- the distance, of the frame's serial
wraps : (c : After-half_at-serial) → ((c.args.expected + (half_limit - c.half_at-serial.result)) % half_limit + serial_in c.args.f.now) % half_limit ≡ c.args.expected
wraps c = rw c.half_at-serial.ensures (wrapped _ _ (search rules) (small c.before))

pub returns-then-not-is_formed : goal.returns-then-not-is_formed
unfolding frame_number
returns-then-not-is_formed c = refused_as BadFrame _ _ _ (arrival_bad _ _ _ _ (test_failed c.is_formed.ensures c.if-not-is_formed.true-raw))

pub half_at-serial-requires : goal.half_at-serial-requires
half_at-serial-requires c = omega (arith, (whole c.before).head.four)

pub overflow_cast-serial : goal.overflow_cast-serial
overflow_cast-serial c = omega (arith, c.half_at-serial.ensures, small c.before.before)

pub returns-then-behind-le32767 : goal.returns-then-behind-le32767
unfolding frame_number
returns-then-behind-le32767 c =
    refused_as Old _ _ _
    (arrival_old _ _ _ _ (is c.before.before.before.before) (serial_old _ _ _ (search rules) (small c.before.before.before.before) (search rules)
    (wraps c.before.before.before) c.if-behind-ne0.true c.if-behind-le32767.true))

pub returns-then-behind-ne0 : goal.returns-then-behind-ne0
unfolding frame_number
returns-then-behind-ne0 c =
    refused_as Gap _ _ _
    (arrival_gap _ _ _ _ (is c.before.before.before.before)
    (serial_not_old _ _ _ (search rules) (small c.before.before.before.before) (search rules) (wraps c.before.before.before) c.if-behind-le32767.false)
    (serial_other _ _ _ (search rules) (small c.before.before.before.before) (search rules) (wraps c.before.before.before) c.if-behind-ne0.true))

pub bounds-f-1 : goal.bounds-f-1
bounds-f-1 c = omega (arith, (whole c.before.before.before.before).head.four)

pub overflow_mul-count : goal.overflow_mul-count
overflow_mul-count c = omega (arith, c.wide_byte-count.ensures, (whole c.before.before.before.before.before).head.few)

pub returns-then-out-count : goal.returns-then-out-count
unfolding frame_number
returns-then-out-count c =
    let own = serial_own _ _ _ (search rules) (small c.before.before.before.before.before.before) (search rules)
    (wraps c.before.before.before.before.before) c.if-behind-ne0.false in
    refused_as NoRoom _ _ _ (arrival_room _ _ _ _ (is c.before.before.before.before.before.before) own.1 own.0 (omega (arith, c.if-out-count.true, c.wide_byte-count.ensures)))

pub hand_out-requires : goal.hand_out-requires
hand_out-requires c = (
  is
      c.before.before.before.before.before.before.before,
  c.wide_byte-count.ensures,
  omega (arith, c.if-out-count.false),
)

pub returns : goal.returns
returns c =
    let own = serial_own _ _ _ (search rules) (small c.before.before.before.before.before.before.before.before.before.before) (search rules)
    (wraps c.before.before.before.before.before.before.before.before.before) c.if-behind-ne0.false in
    done_as (arrival_good _ _ _ _ (is c.before.before.before.before.before.before.before.before.before.before) own.1 own.0
    (omega (arith, c.if-out-count.false, c.wide_byte-count.ensures)))
    c.wide_byte-count.ensures c.hand_out.ensures
