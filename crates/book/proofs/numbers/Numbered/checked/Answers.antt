-- `book::numbers::Numbered::checked` meets its contract: the one that `nth` makes is the one of that number.
-- Assumes nothing.
use mathlib.Core.Path.{◌∙◌, sym, ap}
use Rattle.std.specs.Prelude.{Some, None}
use Rattle.book.proofs.Chosen.{below, not_below}
use Rattle.book.proofs.numbers.Numbered.checked.Goals as goal

pub returns-then-n-count : goal.returns-then-n-count
returns-then-n-count g c =
    let Kind = g.Self.Numbered in
    let same = sym (g.met.Self.Numbered.is_its_number c.nth.result) ∙ ap Kind.made c.nth.ensures in
    ap Some same ∙ below _ None c.if-n-count.true

pub returns-else-n-count : goal.returns-else-n-count
returns-else-n-count g c = not_below _ _ c.if-n-count.false
