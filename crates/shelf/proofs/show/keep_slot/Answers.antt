-- `shelf::show::keep_slot` meets its contract: the record stands one word behind its kind.
-- Assumes nothing.
use Prim.Native.Nat.{ℕ}
use mathlib.Core.Path.{◌∙◌, sym, ap}
use mathlib.Core.List.{List}
use native.Mathlib.Omega.{arith}
use Rattle.order.specs.Record.{bearing_of}
use Rattle.shelf.specs.Show.{kept_in}
use Rattle.shelf.proofs.ShelfCode.{record_place, bearing_place}
use borrow.Author.Rules.{rules}
use Rattle.shelf.proofs.show.keep_slot.Goals as goal

pub nth-k-requires : goal.nth-k-requires
nth-k-requires c =
    let args = c.args in
    let read = bearing_place args.q.0 args.i args.book.now c.slot_at-version.ensures in
    omega (arith, read, c.wide.ensures)

pub keep-requires : goal.keep-requires
keep-requires c =
    let at = c.slot_at-version in
    let args = c.args in
    let read = bearing_place args.q.0 args.i args.book.now at.ensures in
    let same = ap bearing_of (record_place args.q.0 args.i args.book.now at.ensures) in (
      search rules,
      search rules,
      search rules,
      omega (arith, read, c.wide.ensures, c.nth-k.ensures),
      search rules,
      same
          ∙ sym read ∙ sym c.wide.ensures ∙ sym c.nth-k.ensures,
    )

pub returns : goal.returns
returns c =
    let args = c.args in
    let at = c.slot_at-version in
    c.keep.ensures ∙ ap (λ (r : List ℕ). kept_in args.n args.d.0 r args.book.now) (record_place _ _ _ at.ensures)
