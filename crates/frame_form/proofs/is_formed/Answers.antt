-- `frame_form::is_formed` meets its contract: the header, then the messages.
-- Assumes nothing.
use native.Mathlib.Omega.{arith}
use mathlib.Core.Path.{sym, ◌∙◌}
use Rattle.frame.proofs.DecodeLaws.{head_says}
use Rattle.frame_form.proofs.is_formed.Goals as goal

pub bounds-f-1 : goal.bounds-f-1
bounds-f-1 c = omega (arith, (head_says _ _ (sym c.head_is_right.ensures ∙ c.if-head_is_right.true)).four)

pub messages_are_right-requires : goal.messages_are_right-requires
messages_are_right-requires c = (c.wide_byte.ensures, omega (arith, c.wide_byte.ensures, (head_says _ _ (sym c.head_is_right.ensures ∙ c.if-head_is_right.true)).offsets))
