-- `report::say::print_text` meets its contract: the text is copied onto its part of the output.
-- Assumes nothing.
use mathlib.Core.Path.{refl}
use Rattle.line.proofs.PrintLaws.{sets_copied}
use Rattle.report.proofs.say.print_text.Goals as goal

pub returns : goal.returns
returns c = record { stored = sets_copied _ c.args.at _ c.copy_from_slice.ensures.after refl c.requires.room; after = refl }
