-- `making::keep_record` meets its contract: the comparison, and the record where it is greater.
-- Assumes nothing.
use mathlib.Core.Path.{◌∙◌, sym}
use Rattle.register.proofs.WriteLaws.{kept_said, kept_greater, kept_dropped}
use Rattle.making.proofs.keep_record.Goals as goal

pub returns-then-is_above : goal.returns-then-is_above
returns-then-is_above c =
    let to = c.stored_at-to in
    let said = c.is_above.ensures in
    let version = c.args.version.now in
    let book = c.args.book.now in (
      sym c.if-is_above.true ∙ kept_said _ _ _ book version to.ensures c.requires.5 said,
      kept_greater _ _ _ book version to.ensures c.requires.5 said c.if-is_above.true c.write_words.ensures,
    )

pub returns : goal.returns
returns c =
    let to = c.stored_at-to in
    let said = c.is_above.ensures in
    let version = c.args.version.now in
    let book = c.args.book.now in (
      sym c.if-is_above.false ∙ kept_said _ _ _ book version to.ensures c.requires.5 said,
      kept_dropped _ _ _ book version to.ensures c.requires.5 said c.if-is_above.false,
    )
