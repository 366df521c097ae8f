-- From the first entry that a search finds, over the table of pasts, to what is found.
-- Assumes nothing.
use Prim.Native.Nat.{ℕ, ◌<◌}
use native.Mathlib.Nat.{lt_irrefl}
use native.Mathlib.Omega.{arith}
use mathlib.Core.Path.{◌≡◌, refl}
use mathlib.Core.Bool.{Bool, true}
use mathlib.Core.List.{List}
use Rattle.loops.proofs.ChainLaws.{PassesFirst, PassesNowhere}
use Rattle.loops.proofs.BoolLaws.{both_ways, and_left, and_right, and_intro}
use Rattle.chains.specs.Chain.{Grid, Closed}
use Rattle.chains.proofs.SomeLaws.{some_here, some_where}
use Rattle.chains.proofs.Closing.{chain_to, chain_down}
use Rattle.entries.specs.Entries.{entries}
use Rattle.entries.specs.Rests.{rests_on, Past, LowRead, lower_than}
use Rattle.auditor.specs.Verdict.{bad, Bad, Names, first, none, Judged}
use Rattle.auditor.specs.Judging.{under, low}
use Rattle.auditor.specs.declared.finding.Finding.{Finding}
use Rattle.auditor.specs.declared.finding.Finding.TheVariants.{Refused, Circle, Low, Causal}

-- what the first place that passes p says of Q, if p is the test of Q, and what it says that no place passes
module _ {n m : ℕ} (count : n ≡ m) {p : ℕ → Bool} {Q : ℕ → Type 0} (to : (j : ℕ) → j < m → p j ≡ true → Q j) (from : (j : ℕ) → j < m → Q j → p j ≡ true) where
  pub named_first : {A : Type 0} {f : ℕ → A} {Rest : A → Type 0} {r : ℕ} → PassesFirst n p r → Names m Q f Rest (f r)
  named_first (l, so, before) =
      first (record { below = omega arith; here = to _ (omega arith) so; before = λ j k q. both_ways (from j (omega arith) q) (before j k) })

  pub named_nowhere : {A : Type 0} {f : ℕ → A} {Rest : A → Type 0} {g : A} → PassesNowhere n p → Rest g → Names m Q f Rest g
  named_nowhere nowhere rest = none (λ j l q. both_ways (from j l q) (nowhere j (omega arith))) rest

module _ (h : List ℕ) {n : ℕ} (count : n ≡ entries h) where
  pub judged_bad : {b : ℕ} → PassesFirst n (bad h) b → Judged h (Refused b)
  judged_bad = named_first count (λ j m p. p) (λ j m p. p)

  module _ (good : PassesNowhere n (bad h)) (G : Grid) (closed : Closed (entries h) (rests_on h) G) where
    fair : {R : Finding → Type 0} {g : Finding} → R g → Names (entries h) (Bad h) Refused R g
    fair = named_nowhere count (λ j m p. p) (λ j m p. p) good

    pub judged_circle : {c : ℕ} → PassesFirst n (λ i. G i i) c → Judged h (Circle c)
    judged_circle found = fair (named_first count (λ j m g. closed.sound j j m m g) (λ j m p. closed.complete p) found)

    module _ (open_chains : PassesNowhere n (λ i. G i i)) where
      acyclic : {R : Finding → Type 0} {g : Finding} → R g → Names (entries h) (λ i. Past h i i) Circle R g
      acyclic = named_nowhere count (λ j m g. closed.sound j j m m g) (λ j m p. closed.complete p) open_chains

      low_to : (i : ℕ) → i < entries h → low h G i ≡ true → LowRead h i
      unfolding low under
      low_to i l s =
          let w = some_where (entries h) _ s in
          record {
            write = w.0;
            past = closed.sound i w.0 l w.1 (and_left (G i w.0) _ w.2);
            lower = and_right (G i w.0) (lower_than h i w.0) w.2;
          }

      low_from : (i : ℕ) → i < entries h → LowRead h i → low h G i ≡ true
      unfolding low under
      low_from i l r = some_here (entries h) _ r.write (chain_to r.past) (and_intro (closed.complete r.past) r.lower)

      pub judged_low : {d : ℕ} → PassesFirst n (low h G) d → Judged h (Low d)
      judged_low found = fair (acyclic (named_first count low_to low_from found))

      pub judged_causal : PassesNowhere n (low h G) → Judged h Causal
      judged_causal high = fair (acyclic (named_nowhere count low_to low_from high refl))

-- A WAY TO PASS: no entry is bad, every step goes back in the history, and no read is lower than a write in its past
pub judged_if : {h : List ℕ} → ((i : ℕ) → i < entries h → Bad h i → ⊥) → ((a b : ℕ) → a < entries h → b < entries h → rests_on h a b ≡ true → b < a)
    → ((i j : ℕ) → Past h i j → lower_than h i j ≡ true → ⊥) → Judged h Causal
judged_if fair back high =
    none fair (none (λ i l c. lt_irrefl i (chain_down back c)) (none (λ i l r. high i r.write r.past r.lower) refl))
