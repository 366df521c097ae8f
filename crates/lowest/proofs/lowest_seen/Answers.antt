-- `lowest::lowest_seen` meets its contract. The loop's invariant: each entry is the lowest stamp of the shelves passed.
-- Assumes nothing.
use native.Mathlib.Nat.{add-zero}
use mathlib.Core.Path.{refl, sym}
use borrow.Author.Rules.{rules}
use Rattle.links.specs.Send.{lowest_seen}
use Rattle.lowest.proofs.LowestCode.{lowest_none, lowest_more, lowest_told, four_same}
use Rattle.lowest.proofs.lowest_seen.Goals as goal

pub loop-s-init : goal.loop-s-init
loop-s-init c = (lowest_none _ _ _, lowest_none _ _ _, lowest_none _ _ _, lowest_none _ _ _)

pub loop-s-preserved : goal.loop-s-preserved
loop-s-preserved c =
    let loop = c.loop-s in (
      lowest_more _ _ _ _ loop.invariant.0 (search rules) (sym (add-zero _)) c.seen_at-at.ensures c.nth.ensures,
      lowest_more _ _ _ _ loop.invariant.1 (search rules) refl c.seen_at-at.ensures c.nth.ensures,
      lowest_more _ _ _ _ loop.invariant.2 (search rules) refl c.seen_at-at.ensures c.nth.ensures,
      lowest_more _ _ _ _ loop.invariant.3 (search rules) refl c.seen_at-at.ensures c.nth.ensures,
    )

pub returns : goal.returns
returns c =
    let all = c.loop-s.auto.s-end in
    let passed = c.loop-s-test.false in
    let inv = c.loop-s.invariant in
    four_same (lowest_seen _ _ _ _)
    (lowest_told _ _ _ _ all passed inv.0 c.of_other.ensures)
    (lowest_told _ _ _ _ all passed inv.1 c.of_other-2.ensures)
    (lowest_told _ _ _ _ all passed inv.2 c.of_other-3.ensures)
    (lowest_told _ _ _ _ all passed inv.3 c.of_other-4.ensures)
