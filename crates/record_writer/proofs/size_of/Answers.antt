-- `record_writer::size_of` meets its contract: the bytes of the head, and four for each number.
-- Assumes nothing.
use native.Mathlib.Omega.{arith}
use Rattle.journal.specs.Record.{form_of, head_by, head_size, kind_in, numbers_of}
use Rattle.record_writer.proofs.WritingLaws.{long_as}
use Rattle.record_writer.proofs.size_of.Goals as goal

pub returns-in-Setup : goal.returns-in-Setup
unfolding form_of head_by head_size kind_in numbers_of
returns-in-Setup c = omega (arith, long_as c.args.beside.now c.in-Setup.is)

pub returns-in-Read : goal.returns-in-Read
unfolding form_of head_by head_size kind_in numbers_of
returns-in-Read c = omega (arith, long_as c.args.beside.now c.in-Read.is)

pub returns-in-Write : goal.returns-in-Write
unfolding form_of head_by head_size kind_in numbers_of
returns-in-Write c = omega (arith, long_as c.args.beside.now c.in-Write.is)

pub returns-in-Tick : goal.returns-in-Tick
unfolding form_of head_by head_size kind_in numbers_of
returns-in-Tick c = omega (arith, long_as c.args.beside.now c.in-Tick.is)

pub returns-in-Take : goal.returns-in-Take
unfolding form_of head_by head_size kind_in numbers_of
returns-in-Take c = omega (arith, long_as c.args.beside.now c.in-Take.is)

pub returns-in-Refresh : goal.returns-in-Refresh
unfolding form_of head_by head_size kind_in numbers_of
returns-in-Refresh c = omega (arith, long_as c.args.beside.now c.in-Refresh.is)

pub returns-in-Move : goal.returns-in-Move
unfolding form_of head_by head_size kind_in numbers_of
returns-in-Move c = omega (arith, long_as c.args.beside.now c.in-Move.is)

pub returns-in-List : goal.returns-in-List
unfolding form_of head_by head_size kind_in numbers_of
returns-in-List c = omega (arith, long_as c.args.beside.now c.in-List.is)
