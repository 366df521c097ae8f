-- `frame_bytes::sent_word` meets its contract.
-- Assumes nothing.
use Prim.Native.Nat.{ℕ}
use mathlib.Core.Path.{sym, ap}
use lib.ListN.{get_or}
use borrow.Author.Tests.{lt-ltb, le-ltb}
use Rattle.loops.proofs.BoolLaws.{pick_true, pick_false}
use Rattle.frame.specs.Frame.{sent_word}
use Rattle.frame_bytes.proofs.sent_word.Goals as goal

pub returns-then-i-lt-PLAIN : goal.returns-then-i-lt-PLAIN
unfolding sent_word
returns-then-i-lt-PLAIN c = ap (λ (k : ℕ). get_or c.args.m.now k 0) (sym (pick_true _ _ (lt-ltb _ _ c.if-i-lt-PLAIN.true)))

pub returns : goal.returns
unfolding sent_word
returns c = ap (λ (k : ℕ). get_or c.args.m.now k 0) (sym (pick_false _ _ (le-ltb _ _ c.if-i-lt-PLAIN.false)))
