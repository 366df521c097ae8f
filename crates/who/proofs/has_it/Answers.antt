-- `who::has_it` meets its contract: the two parts of the book are the records compared.
-- Assumes nothing.
use mathlib.Core.Path.{◌∙◌, ap, ap₂}
use mathlib.Core.Bool.{not}
use mathlib.Core.List.{List}
use Prim.Native.Nat.{ℕ}
use Rattle.order.specs.Order.{above}
use Rattle.order.specs.Record.{rank_of}
use Rattle.book.proofs.WordsLaws.{part_from}
use Rattle.who.specs.Who.{has_it}
use Rattle.who.proofs.has_it.Goals as goal

pub returns : goal.returns
unfolding has_it
returns c =
    let args = c.args in
    ap not
    (c.is_above.ensures
    ∙ ap₂ (λ (x y : List ℕ). above args.n (rank_of x) (rank_of y)) (part_from args.book.now 9 c.stored_at-asked.ensures)
    (part_from args.book.now 9 c.stored_at-at.ensures))
