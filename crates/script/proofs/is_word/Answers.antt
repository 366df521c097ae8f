-- `script::is_word` meets its contract: the word was compared, or there is none.
-- Assumes nothing.
use native.Mathlib.Omega.{arith}
use mathlib.Core.Path.{sym, ◌∙◌}
use mathlib.Core.Bool.{false≢true}
use borrow.Author.Tests.{eqb-true, eq-eqb, le-ltb}
use Rattle.script.proofs.is_word.Goals as goal

pub returns-then-at-book : goal.returns-then-at-book
returns-then-at-book c = (λ e. (c.if-at-book.true, eqb-true _ _ e), λ h. eq-eqb _ _ h.1)

pub returns-else-at-book : goal.returns-else-at-book
returns-else-at-book c = (λ e. absurd (false≢true (sym (le-ltb _ _ c.if-at-book.false) ∙ e)), λ h. absurd (omega (arith, h.0, c.if-at-book.false)))
