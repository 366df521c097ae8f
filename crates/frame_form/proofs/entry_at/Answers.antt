-- `frame_form::entry_at` meets its contract.
-- Assumes nothing.
use mathlib.Core.Path.{◌∙◌, sym}
use borrow.Author.Tests.{lt-ltb, le-ltb}
use Rattle.loops.proofs.BoolLaws.{pick_true, pick_false}
use Rattle.frame.specs.Frame.{entry_at}
use Rattle.frame_form.proofs.entry_at.Goals as goal

pub returns-then-x-depots : goal.returns-then-x-depots
unfolding entry_at
returns-then-x-depots c = c.word_at.ensures ∙ sym (pick_true _ _ (lt-ltb _ _ c.if-x-depots.true))

pub returns : goal.returns
unfolding entry_at
returns c = sym (pick_false _ _ (le-ltb _ _ c.if-x-depots.false))
