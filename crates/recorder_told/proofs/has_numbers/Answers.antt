-- `recorder_told::has_numbers` meets its contract: by the kind's form.
-- Assumes nothing.
use Rattle.recorder_told.proofs.ToldLaws.{kind_counted, kind_plain}
use Rattle.recorder_told.proofs.has_numbers.Goals as goal

pub returns-then-shape : goal.returns-then-shape
returns-then-shape c = kind_counted _ _ c.shape_of-shape.ensures c.if-shape.true

pub returns : goal.returns
returns c = kind_plain _ _ c.shape_of-shape.ensures c.if-shape.false
