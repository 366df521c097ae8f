-- `register::calls::setup::write_fresh` meets its contract: clear, write the counts, write the homes.
-- Assumes nothing.
use Rattle.register.proofs.SetupLaws.{fresh_words}
use Rattle.setup.proofs.write_fresh.Goals as goal

pub returns : goal.returns
returns c =
    fresh_words _ (record { depots = c.args.depots; shelves = c.args.shelves; bearings = c.args.bearings; crews = c.args.crews }) _
    c.requires.0
    c.clear_words.ensures
    c.write_words.ensures
    c.write_words-2.ensures
