-- `auditor::audit::judge` meets its contract. The bits are the pasts, so the searches name the first entry on a circle and the first low read.
-- Assumes nothing.
use native.Mathlib.Omega.{arith}
use mathlib.Core.Path.{refl}
use Rattle.std.proofs.Common.{rules, tests}
use Rattle.std.specs.Prelude.{Some, None}
use Rattle.chains.specs.Table.{bit}
use Rattle.loops.proofs.ChainLaws.{PassesFirst, PassesNowhere, place_from_find}
use Rattle.auditor.specs.Verdict.{bad}
use Rattle.auditor.specs.Judging.{low}
use Rattle.auditor.proofs.JudgeLaws.{judged_bad, judged_circle, judged_low, judged_causal}
use Rattle.auditor.proofs.audit.judge.Goals as goal
use Rattle.auditor.proofs.audit.judge.Goals.{In-Some, In_default, In-Some-find, In_default-find, In-Some-find-2, In_default-find-2}

lowest_bad : (c : In-Some) → PassesFirst c.args.n (bad c.args.h.now) c.in-Some.bad
lowest_bad c = place_from_find c.args.n (bad c.args.h.now) _ (Some c.in-Some.bad) c.in-Some.ensures.ran refl (λ x b q k. search (rules, tests))

pub overflow_cast-result : goal.overflow_cast-result
overflow_cast-result c = let found = lowest_bad c in omega (arith, c.requires.0.few, found.0)

pub returns-in-Some : goal.returns-in-Some
returns-in-Some c = judged_bad _ c.requires.0.count (lowest_bad c)

good : (c : In_default) → PassesNowhere c.args.n (bad c.args.h.now)
good c = place_from_find c.args.n (bad c.args.h.now) _ None c.in_default.ensures.ran refl (λ x b q k. search (rules, tests))

first_circle : (c : In-Some-find) → PassesFirst c.args.n (λ i. bit c.fill.new.past i i) c.in-Some-find.circle
first_circle c = place_from_find c.args.n (λ i. bit c.fill.new.past i i) _ (Some c.in-Some-find.circle) c.in-Some-find.ensures.ran refl (λ x b q k. search (rules, tests))

pub overflow_cast-result-in-Some-find : goal.overflow_cast-result-in-Some-find
overflow_cast-result-in-Some-find c = let found = first_circle c in omega (arith, c.requires.0.few, found.0)

pub returns-in-Some-find : goal.returns-in-Some-find
returns-in-Some-find c = judged_circle _ c.requires.0.count (good (goal.at.returns-in-Some-find c).In_default) _ c.fill.ensures.1 (first_circle c)

acyclic : (c : In_default-find) → PassesNowhere c.args.n (λ i. bit c.fill.new.past i i)
acyclic c = place_from_find c.args.n (λ i. bit c.fill.new.past i i) _ None c.in_default-find.ensures.ran refl (λ x b q k. search (rules, tests))

first_low : (c : In-Some-find-2) → PassesFirst c.args.n (low c.args.h.now (bit c.fill.new.past)) c.in-Some-find-2.low
first_low c =
    place_from_find c.args.n (low c.args.h.now (bit c.fill.new.past)) _ (Some c.in-Some-find-2.low) c.in-Some-find-2.ensures.ran refl (λ x b q k. search (rules, tests))

pub overflow_cast-result-in-Some-find-2 : goal.overflow_cast-result-in-Some-find-2
overflow_cast-result-in-Some-find-2 c = let found = first_low c in omega (arith, c.requires.0.few, found.0)

pub returns-in-Some-find-2 : goal.returns-in-Some-find-2
returns-in-Some-find-2 c =
    let at = goal.at.returns-in-Some-find-2 c in
    judged_low _ c.requires.0.count (good at.In_default) _ c.fill.ensures.1 (acyclic at.In_default-find) (first_low c)

pub returns : goal.returns
returns c =
    let high = place_from_find c.args.n (low c.args.h.now (bit c.fill.new.past)) _ None c.in_default-find-2.ensures.ran refl (λ x b q k. search (rules, tests)) in
    let at = goal.at.returns c in
    judged_causal _ c.requires.0.count (good at.In_default) _ c.fill.ensures.1 (acyclic at.In_default-find) high
