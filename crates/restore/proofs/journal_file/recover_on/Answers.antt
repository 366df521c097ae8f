-- `restore::journal_file::recover_on` meets its contract: recovery makes requests to the book.
-- Assumes nothing.
use Rattle.restore.proofs.RestoreLaws.{began_more}
use Rattle.restore.proofs.journal_file.recover_on.Goals as goal

pub returns : goal.returns
returns c = began_more c.recover.ensures c.requires
