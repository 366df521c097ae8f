-- `rehome::set_home` meets its contract: the store at the home's place.
-- Assumes nothing.
use Rattle.rehome.proofs.set_home.Goals as goal

pub returns : goal.returns
returns c = rw (c.home_at.ensures, c.word.ensures, c.index.ensures)
