-- `frame_told::read_told` meets its contract: the word, then the reader's answer in numbers.
-- Assumes nothing.
use native.Mathlib.Omega.{arith}
use mathlib.Core.Path.{refl}
use Rattle.frame_told.proofs.ToldLaws.{told_no_room, told_refused, told_done, done_number}
use Rattle.frame_told.proofs.read_told.Goals as goal

pub returns-then-told-lt-TOLD_WORDS : goal.returns-then-told-lt-TOLD_WORDS
returns-then-told-lt-TOLD_WORDS c = told_no_room _ _ _ _ _ c.if-told-lt-TOLD_WORDS.true

pub overflow_cast-told : goal.overflow_cast-told
overflow_cast-told c =
    let d = done_number _ _ _ _ c.read_frame.ensures c.in-Ok.is in
    omega (arith, d.1, c.shared_slice_known-2-1.given 1)

pub returns-in-Err : goal.returns-in-Err
returns-in-Err c = told_refused _ _ _ _ _ c.if-told-lt-TOLD_WORDS.false _
    c.read_frame.ensures c.in-Err.is c.frame_number.ensures

pub returns-in-Ok : goal.returns-in-Ok
returns-in-Ok c = told_done _ _ _ _ _ c.if-told-lt-TOLD_WORDS.false
    c.read_frame.ensures c.in-Ok.is refl
