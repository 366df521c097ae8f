-- `script::line_after` meets its contract: a line that ends before the text does has its line feed.
-- Assumes nothing.
use Rattle.script.proofs.LineLaws.{end_fed, end_last}
use Rattle.script.proofs.line_after.Goals as goal

pub returns-then-end-s : goal.returns-then-end-s
returns-then-end-s c = end_fed _ _ c.line_end-end.ensures c.if-end-s.true

pub returns : goal.returns
returns c = end_last _ _ c.line_end-end.ensures c.if-end-s.false
