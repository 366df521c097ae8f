-- `calendar::starts::month_starts` meets its contract: the table's rule, tested once, makes its entries the month starts.
-- Assumes nothing.
use Rattle.months.proofs.StartTable.{later}
use Rattle.months.proofs.StartLaws.{table_starts}
use Rattle.months.proofs.starts.month_starts.Goals as goal

pub returns : goal.returns
unfolding later
returns c = table_starts
