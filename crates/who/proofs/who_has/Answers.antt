-- `who::who_has` meets its contract: the three checks in their order, the parts, then the mask and its ones.
-- Assumes nothing.
use Prim.Native.Nat.{ℕ, ◌≤◌, ◌<◌}
use native.Mathlib.Nat.{lt_of_lt_of_le}
use native.Mathlib.Omega.{arith}
use mathlib.Core.Path.{◌≡◌, ◌∙◌, sym, ap, ap₂, subst}
use mathlib.Core.Bool.{true}
use Rattle.std.specs.Prelude.{None, Some, Err}
use Rattle.loops.proofs.BoolLaws.{test_passed, test_failed}
use Rattle.book.specs.declared.parts.Counts.{Counts}
use Rattle.book.specs.Numbers.{Depot, Bearing}
use Rattle.book.specs.Layout.{counts_of}
use Rattle.named.specs.Named.{base_fit}
use Rattle.named.proofs.NamedLaws.{Based, base_open}
use Rattle.paper.specs.declared.answer.Refusal.TheVariants.{BadBook, BadDepot, BadKey}
use Rattle.paper.specs.Answers.{number_of}
use Rattle.register.proofs.KindLaws.{good_number, bad_number}
use Rattle.who.specs.Who.{who_parts}
use Rattle.who.proofs.WhoLaws.{who_book, who_depot, who_key, who_parts_law, who_good, who_refused, who_done}
use Rattle.who.proofs.who_has.Goals as goal
use Rattle.who.proofs.who_has.Lts as lts
use Rattle.who.proofs.who_has.Tie as tie
use Rattle.who.proofs.who_has.Reads as reads

-- what is known at a place, for the lemmas below
abbrev After-stores_fit : Type 0
After-stores_fit = lts.After-stores_fit tie.the-claims reads.Pre reads.Post tie.handed_clauses

abbrev In-Ok-checked : Type 0
In-Ok-checked = lts.Past-After-known_told3 tie.the-claims reads.Pre reads.Post tie.handed_clauses

-- what each check says where it passed
base : (c : In-Ok-checked) → base_fit c.args.book.now ≡ true
base c = test_passed c.base_fits.ensures c.if-not-base_fits.false-raw

based : (c : In-Ok-checked) → Based c.args.book.now
based c = base_open _ (base c)

depot_known :
    (c : In-Ok-checked) → let args = c.args in
    (args.depot < (counts_of args.book.now).depots) × (args.depot ≡ c.in_ok-d.d.0)
depot_known c =
    let some : c.checked.result ≡ Some c.in_ok-d.d = grind arith in
    let good = good_number _ c.checked.ensures some in
    (rw c.counts_of-n.ensures at good.0, ap (λ (x : Depot). x.0) good.1)

bearing_known :
    (c : In-Ok-checked) → let args = c.args in
    (args.bearing < (counts_of args.book.now).bearings) × (args.bearing ≡ c.in_ok-k.k.0)
bearing_known c =
    let some : c.checked-2.result ≡ Some c.in_ok-k.k = grind arith in
    let good = good_number _ c.checked-2.ensures some in
    (rw c.counts_of-n.ensures at good.0, ap (λ (x : Bearing). x.0) good.1)

-- what the test of the parts says
parts_said :
    (c : After-stores_fit) → let args = c.args in
    c.stores_fit.result ≡ who_parts (counts_of args.book.now) args.book.now args.bearing
parts_said c =
    let book = c.args.book.now in
    c.stores_fit.ensures
    ∙ ap₂ (λ (n : Counts) (k : ℕ). who_parts n book k) c.counts_of-n.ensures (sym (bearing_known c.before).1)

pub returns-then-not-base_fits : goal.returns-then-not-base_fits
unfolding number_of
returns-then-not-base_fits c = who_refused _ _ _ BadBook (who_book _ _ _ (test_failed c.base_fits.ensures c.if-not-base_fits.true-raw))

pub counts_of-n-requires : goal.counts_of-n-requires
counts_of-n-requires c = (base_open _ (test_passed c.base_fits.ensures c.if-not-base_fits.false-raw)).full

pub returns-in_err-d : goal.returns-in_err-d
unfolding number_of
returns-in_err-d c =
    let none : c.checked.result ≡ None = grind arith in
    let answer : c.from_residual.result ≡ Err BadDepot = grind arith in
    let fit = test_passed c.base_fits.ensures c.if-not-base_fits.false-raw in
    let over = rw c.counts_of-n.ensures at (bad_number _ c.checked.ensures none) in
    rw answer (who_refused _ _ _ BadDepot (who_depot _ _ _ fit over))

pub returns-in_err-k : goal.returns-in_err-k
unfolding number_of
returns-in_err-k c =
    let some : c.checked.result ≡ Some c.in_ok-d.d = grind arith in
    let none : c.checked-2.result ≡ None = grind arith in
    let answer : c.from_residual-in_err-k.result ≡ Err BadKey = grind arith in
    let fit = test_passed c.base_fits.ensures c.if-not-base_fits.false-raw in
    let under = rw c.counts_of-n.ensures at ((good_number _ c.checked.ensures some).0) in
    let over = rw c.counts_of-n.ensures at (bad_number _ c.checked-2.ensures none) in
    rw answer (who_refused _ _ _ BadKey (who_key _ _ _ fit under over))

pub stores_fit-requires : goal.stores_fit-requires
stores_fit-requires c =
    let w = based c.before in
    let known = bearing_known c.before in (
      w.full,
      subst (λ (n : Counts). n.depots ≤ 4) (sym c.counts_of-n.ensures) w.within.depots,
      subst (λ (k : ℕ). k < 160) known.1 (lt_of_lt_of_le known.0 w.within.bearings),
    )

pub returns-then-not-stores_fit : goal.returns-then-not-stores_fit
unfolding number_of
returns-then-not-stores_fit c =
    let known = c.before.before.before in
    who_refused _ _ _ BadBook
    (who_parts_law _ _ _ (base known) (depot_known known).0 (bearing_known known).0 (test_failed (parts_said c.before.before) c.if-not-stores_fit.true-raw))

pub mask_of-mask-requires : goal.mask_of-mask-requires
mask_of-mask-requires c =
    let known = c.before.before.before in
    let w = based known in
    let depot = depot_known known in
    let bearing = bearing_known known in (
      w.full,
      subst (λ (n : Counts). n.depots ≤ 4) (sym c.counts_of-n.ensures) w.within.depots,
      subst (λ (d : ℕ). d < 4) depot.1 (lt_of_lt_of_le depot.0 w.within.depots),
      subst (λ (k : ℕ). k < 160) bearing.1 (lt_of_lt_of_le bearing.0 w.within.bearings),
    )

pub returns : goal.returns
returns c =
    let known = c.before.before.before.before in
    let depot = depot_known known in
    let bearing = bearing_known known in
    who_done _ _ _
    (who_good _ _ _ (base known) depot.0 bearing.0 (test_passed (parts_said c.before.before.before) c.if-not-stores_fit.false-raw))
    c.counts_of-n.ensures depot.1 bearing.1 c.mask_of-mask.ensures
