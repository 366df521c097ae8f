-- `calendar::dates::month_on` meets its contract. The loop's invariant: `low` has started by the day, and `high` has not.
-- Assumes nothing.
use Prim.Native.Nat.{suc, ◌+◌, ◌-◌, ◌/◌}
use native.Mathlib.Omega.{arith}
use mathlib.Core.Path.{◌≡◌, sym, ap}
use borrow.Author.Rules.{rules}
use Rattle.months.specs.Months.{start}
use Rattle.months.proofs.StartLaws.{start_none, year_2400_start, start_suc}
use Rattle.calendar.proofs.DateLaws.{month_on_is}
use Rattle.calendar.proofs.dates.month_on.Goals as goal

pub loop-low-init : goal.loop-low-init
loop-low-init c = (search rules, search rules, omega (arith, start_none), omega (arith, year_2400_start))

pub bounds-starts-middle : goal.bounds-starts-middle
bounds-starts-middle c = let h = c.requires.0.size in search rules

pub loop-low-preserved-then-starts-middle : goal.loop-low-preserved-then-starts-middle
loop-low-preserved-then-starts-middle c =
    let loop = c.loop-low in
    let e = c.requires.0.entry ((loop.low + loop.high) / 2) (omega arith) in
    (search rules, search rules, omega arith, loop.invariant.3)

pub loop-low-preserved : goal.loop-low-preserved
loop-low-preserved c =
    let loop = c.loop-low in
    let e = c.requires.0.entry ((loop.low + loop.high) / 2) (omega arith) in
    (search rules, search rules, loop.invariant.2, omega arith)

pub returns : goal.returns
returns c =
    let loop = c.loop-low in
    let e : loop.high ≡ suc loop.low = omega arith in
    sym (month_on_is loop.low _ (omega arith) (record { begun = loop.invariant.2; not_over = omega (arith, ap start e, start_suc loop.low) }))
