-- `history::entry::read_read` meets its contract. The line ends in a dash after a space, or it is read as ten numbers.
-- Assumes nothing.
use native.Mathlib.Omega.{arith}
use mathlib.Core.Path.{sym, ◌∙◌}
use lib.Seq.{length-take-le}
use Rattle.history.proofs.ReadLaws.{read_short, read_unspaced, read_undashed, read_dashed}
use Rattle.history.proofs.entry.read_read.Goals as goal

pub returns-then-n-lt3 : goal.returns-then-n-lt3
returns-then-n-lt3 c = c.read_numbers.ensures ∙ (sym (read_short _ c.if-n-lt3.true))

pub returns-then-s-n-ne32 : goal.returns-then-s-n-ne32
returns-then-s-n-ne32 c = c.read_numbers-then-s-n-ne32.ensures ∙ (sym (read_unspaced _ c.if-n-lt3.false c.if-s-n-ne32.true))

pub returns-then-s-n-ne45 : goal.returns-then-s-n-ne45
returns-then-s-n-ne45 c = c.read_numbers-then-s-n-ne45.ensures ∙ (sym (read_undashed _ c.if-n-lt3.false c.if-s-n-ne32.false c.if-s-n-ne45.true))

pub slice_bounds-read_numbers-length : goal.slice_bounds-read_numbers-length
slice_bounds-read_numbers-length c = sym (length-take-le _ _ (omega arith))

pub returns : goal.returns
returns c =
    c.read_numbers-2.ensures ∙ (sym (read_dashed _ c.if-n-lt3.false
    c.if-s-n-ne32.false c.if-s-n-ne45.false))
