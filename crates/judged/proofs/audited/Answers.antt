-- `judged::audited` meets its contract: the number of what the auditor finds.
-- Assumes nothing.
use Rattle.judged.proofs.NumberLaws.{entry_few}
use Rattle.judged.proofs.audited.Goals as goal

pub number_of-requires : goal.number_of-requires
number_of-requires c = entry_few c.audit-finding.ensures

pub returns : goal.returns
returns c = record { finding = c.audit-finding.result; verdict = c.audit-finding.ensures; number = c.number_of.ensures }
