-- `stream::feed` meets its contract. The loop's invariant: what the bytes passed do, say and log is done, said and logged.
-- Assumes nothing.
use Rattle.stream.proofs.StreamLaws.{answers_most, records_most, fed_start, given_start, given_room, fed_step, given_step, fed_words, fed_line, given_all}
use Rattle.stream.proofs.feed.Goals as goal

pub loop-i-init : goal.loop-i-init
loop-i-init c = (fed_start _ _ _ c.requires.0, given_start _ _ _ _ _ _, given_start _ _ _ _ _ _)

pub feed_byte-next-requires : goal.feed_byte-next-requires
feed_byte-next-requires c =
    let inv = c.loop-i.invariant in
    let more = c.loop-i-test.true in
    let pre = c.requires in
    (inv.0.holder, given_room inv.1 more pre.1, given_room inv.2 more pre.2)

pub loop-i-preserved : goal.loop-i-preserved
loop-i-preserved c =
    let call = c.feed_byte-next in
    let more = c.loop-i-test.true in
    let inv = c.loop-i.invariant in (
      fed_step inv.0 more call.ensures.book_after call.ensures.holder,
      given_step inv.0 more answers_most inv.1 call.ensures.wrote,
      given_step inv.0 more records_most inv.2 call.ensures.wrote_2,
    )

pub returns : goal.returns
returns c =
    let inv = c.loop-i.invariant in
    let all = c.loop-i-test.false in
    record { book_after = fed_words inv.0 all; holder = (inv.0.holder, fed_line inv.0 all); wrote = given_all inv.1 all; wrote_2 = given_all inv.2 all }
