-- `named_show::place_fits` meets its contract: the bearing in the copy's record, and what is stored for it.
-- Assumes nothing.
use native.Mathlib.Nat.{lt_of_lt_of_le}
use native.Mathlib.Omega.{arith}
use mathlib.Core.Path.{◌≡◌, ◌∙◌, sym, ap, subst}
use Prim.Native.Nat.{ℕ, ◌<◌}
use Rattle.order.specs.Record.{bearing_of}
use Rattle.book.specs.Layout.{slot, record_of}
use Rattle.fit.specs.Fit.{stored_fit}
use Rattle.messages.proofs.MessageLaws.{bearing_there}
use Rattle.named_show.proofs.place_fits.Goals as goal
use Rattle.named_show.proofs.place_fits.Lts as lts
use Rattle.named_show.proofs.place_fits.Tie as tie
use Rattle.named_show.proofs.place_fits.Reads as reads

-- what is known at a place, for the lemmas below
abbrev After-wide-k : Type 0
After-wide-k = lts.After-wide tie.the-claims reads.Pre reads.Post

-- the word read is the bearing
told : (c : After-wide-k) → let args = c.args in c.wide-k.result ≡ bearing_of (record_of (slot args.book.now args.q.0 args.i))
told c = let args = c.args in c.wide-k.ensures ∙ bearing_there args.book.now args.q.0 args.i c.slot_at.ensures

pub nth-requires : goal.nth-requires
nth-requires c = let same = told c.before in omega (arith, same, c.requires.5)

pub stored_fits-requires : goal.stored_fits-requires
stored_fits-requires c =
    (c.requires.0, c.requires.1, c.requires.2, subst (λ (k : ℕ). k < 160) (sym (c.nth.ensures ∙ told c.before.before)) (lt_of_lt_of_le c.requires.5 c.requires.6))

pub returns : goal.returns
returns c =
    let args = c.args in
    c.stored_fits.ensures ∙ ap (stored_fit args.n args.book.now args.d.0) (c.nth.ensures ∙ told c.before.before.before)
