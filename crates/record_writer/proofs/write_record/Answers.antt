-- `record_writer::write_record` meets its contract: each request's numbers, behind its head.
-- Assumes nothing.
use native.Mathlib.Omega.{arith}
use Rattle.journal.specs.Record.{form_of, head_by, head_size, kind_in, numbers_of, count_by, head_of, record_bytes}
use Rattle.record_writer.proofs.WritingLaws.{long_as, count_as, written_as}
use Rattle.record_writer.proofs.write_record.Goals as goal

pub put_counted-requires : goal.put_counted-requires
unfolding form_of head_by head_size kind_in numbers_of count_by head_of record_bytes
put_counted-requires c =
    let args = c.args in
    let pre = c.requires in
    let e = c.in-Setup.is in
    (omega (arith, long_as args.beside.now e, pre.0), count_as args.beside.now e pre.1)

pub put_counted-requires-in-List : goal.put_counted-requires-in-List
unfolding form_of head_by head_size kind_in numbers_of count_by head_of record_bytes
put_counted-requires-in-List c =
    let args = c.args in
    let pre = c.requires in
    let e = c.in-List.is in
    (omega (arith, long_as args.beside.now e, pre.0), count_as args.beside.now e pre.1)

pub put_plain-requires : goal.put_plain-requires
unfolding form_of head_by head_size kind_in numbers_of count_by head_of record_bytes
put_plain-requires c = omega (arith, long_as c.args.beside.now c.in-Read.is, c.requires.0)

pub put_plain-requires-in-Write : goal.put_plain-requires-in-Write
unfolding form_of head_by head_size kind_in numbers_of count_by head_of record_bytes
put_plain-requires-in-Write c = omega (arith, long_as c.args.beside.now c.in-Write.is, c.requires.0)

pub put_plain-requires-in-Tick : goal.put_plain-requires-in-Tick
unfolding form_of head_by head_size kind_in numbers_of count_by head_of record_bytes
put_plain-requires-in-Tick c = omega (arith, long_as c.args.beside.now c.in-Tick.is, c.requires.0)

pub put_plain-requires-in-Take : goal.put_plain-requires-in-Take
unfolding form_of head_by head_size kind_in numbers_of count_by head_of record_bytes
put_plain-requires-in-Take c = omega (arith, long_as c.args.beside.now c.in-Take.is, c.requires.0)

pub put_plain-requires-in-Refresh : goal.put_plain-requires-in-Refresh
unfolding form_of head_by head_size kind_in numbers_of count_by head_of record_bytes
put_plain-requires-in-Refresh c = omega (arith, long_as c.args.beside.now c.in-Refresh.is, c.requires.0)

pub put_plain-requires-in-Move : goal.put_plain-requires-in-Move
unfolding form_of head_by head_size kind_in numbers_of count_by head_of record_bytes
put_plain-requires-in-Move c = omega (arith, long_as c.args.beside.now c.in-Move.is, c.requires.0)

pub returns-in-Setup : goal.returns-in-Setup
unfolding form_of head_by head_size kind_in numbers_of count_by head_of record_bytes
returns-in-Setup c = written_as _ c.in-Setup.is _ _ c.put_counted.ensures

pub returns-in-Read : goal.returns-in-Read
unfolding form_of head_by head_size kind_in numbers_of count_by head_of record_bytes
returns-in-Read c = written_as _ c.in-Read.is _ _ c.put_plain.ensures

pub returns-in-Write : goal.returns-in-Write
unfolding form_of head_by head_size kind_in numbers_of count_by head_of record_bytes
returns-in-Write c = written_as _ c.in-Write.is _ _ c.put_plain-in-Write.ensures

pub returns-in-Tick : goal.returns-in-Tick
unfolding form_of head_by head_size kind_in numbers_of count_by head_of record_bytes
returns-in-Tick c = written_as _ c.in-Tick.is _ _ c.put_plain-in-Tick.ensures

pub returns-in-Take : goal.returns-in-Take
unfolding form_of head_by head_size kind_in numbers_of count_by head_of record_bytes
returns-in-Take c = written_as _ c.in-Take.is _ _ c.put_plain-in-Take.ensures

pub returns-in-Refresh : goal.returns-in-Refresh
unfolding form_of head_by head_size kind_in numbers_of count_by head_of record_bytes
returns-in-Refresh c = written_as _ c.in-Refresh.is _ _ c.put_plain-in-Refresh.ensures

pub returns-in-Move : goal.returns-in-Move
unfolding form_of head_by head_size kind_in numbers_of count_by head_of record_bytes
returns-in-Move c = written_as _ c.in-Move.is _ _ c.put_plain-in-Move.ensures

pub returns-in-List : goal.returns-in-List
unfolding form_of head_by head_size kind_in numbers_of count_by head_of record_bytes
returns-in-List c = written_as _ c.in-List.is _ _ c.put_counted-in-List.ensures
