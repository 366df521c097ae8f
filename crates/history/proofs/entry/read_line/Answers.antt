-- `history::entry::read_line` meets its contract. The first byte says how the rest is read.
-- Assumes nothing.
use mathlib.Core.Path.{sym, ◌∙◌}
use Rattle.history.proofs.ReadLaws.{entry_empty, entry_write, entry_read, entry_other}
use Rattle.history.proofs.entry.read_line.Goals as goal

pub returns-then-s-eq0 : goal.returns-then-s-eq0
returns-then-s-eq0 c = sym (entry_empty _ c.if-s-eq0.true)

pub returns-in-87 : goal.returns-in-87
returns-in-87 c = c.read_numbers.ensures ∙ sym (entry_write _ c.if-s-eq0.false c.in-87.is)

pub returns-in-82 : goal.returns-in-82
returns-in-82 c = c.read_read.ensures ∙ sym (entry_read _ c.if-s-eq0.false c.in-82.is)

pub returns-in_default : goal.returns-in_default
returns-in_default c = sym (entry_other _ c.in_default.in_default-own.rest.0.1 c.in_default.in_default-own.rest.1)
