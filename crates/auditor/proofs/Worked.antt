-- A history for each answer, worked out. Each constructor of a verdict and of a chain has its case.
-- Assumes nothing.
use Prim.Native.Nat.{ℕ, zero, suc, ◌<◌}
use native.Mathlib.Omega.{arith}
use mathlib.Core.Path.{◌≡◌, refl, sym, ◌∙◌, ap}
use mathlib.Core.Bool.{true, ◌||◌, not}
use mathlib.Core.List.{List, [], ◌∷◌, ◌++◌}
use lib.Dec.{ltb, lit<}
use lib.ListN.{replicate, length-replicate}
use borrow.Author.Tests.{ltb-true}
use Rattle.loops.specs.Loops.{every, pick}
use Rattle.loops.proofs.BoolLaws.{both_ways, not_passed, or_next, and_left}
use Rattle.loops.proofs.LoopLaws.{every_at}
use Rattle.order.specs.Vector.{agree, zeros}
use Rattle.order.proofs.VectorLaws.{agree_at}
use Rattle.order.proofs.OrderLaws.{above_cong, above_irrefl, above_written}
use Rattle.chains.specs.Chain.{some, step, steps}
use Rattle.chains.proofs.Closing.{chain_from, chain_to, chain_down}
use Rattle.entries.specs.Entries.{entries, is_read, rank, vector, wrote, source, twin, earlier}
use Rattle.entries.specs.Rests.{rests_on, Past, OnCircle, lower_than}
use Rattle.auditor.specs.Verdict.{bad_write, bad_read, bad, Bad, so, not_so, first, none, Verdict}
use Rattle.auditor.specs.declared.finding.Finding.TheVariants.{TooMany, BadLength, Refused, Circle, Low, Causal}
use Rattle.auditor.proofs.JudgeLaws.{judged_if}

-- a write and a read: of crew c, of bearing 0, with the value, a card of ones, origin 0, and 1 or 0 as its stamp
abbrev pub written : ℕ → ℕ → ℕ → List ℕ
written c value t = 0 ∷ c ∷ 0 ∷ value ∷ 1 ∷ 1 ∷ 0 ∷ t ∷ 0 ∷ 0 ∷ 0 ∷ []

abbrev pub got : ℕ → ℕ → ℕ → List ℕ
got c value t = 1 ∷ c ∷ 0 ∷ value ∷ 1 ∷ 1 ∷ 0 ∷ t ∷ 0 ∷ 0 ∷ 0 ∷ []

-- ---- what is computed of a whole history

abbrev Fair : List ℕ → Type 0
Fair h = every (entries h) (λ i. not (bad h i)) ≡ true

abbrev Back : List ℕ → Type 0
Back h = every (entries h) (λ a. every (entries h) (λ b. not (rests_on h a b) || ltb b a)) ≡ true

fair : (h : List ℕ) → Fair h → (i : ℕ) → i < entries h → Bad h i → ⊥
fair h e i l b = both_ways b (not_passed (every_at (entries h) _ e i l))

back : (h : List ℕ) → Back h → (a b : ℕ) → a < entries h → b < entries h → rests_on h a b ≡ true → b < a
back h e a b la lb r = ltb-true b a (sym (or_next (ltb b a) (ap not r)) ∙ every_at (entries h) _ (every_at (entries h) _ e a la) b lb)

acyclic : (h : List ℕ) → Back h → (i : ℕ) → i < entries h → OnCircle h i → ⊥
acyclic h e i l c = let down = chain_down (back h e) c in omega arith

-- ---- too many, and no whole number of entries

pub too_many : Verdict (replicate 2817 0) TooMany
too_many = so (rw length-replicate (lit< tt))

pub bad_length : Verdict (0 ∷ []) BadLength
bad_length = not_so (λ l. omega arith) (so (λ e. omega arith))

-- ---- a write whose stamp is 0

pub refused : Verdict (written 0 20 0) (Refused 0)
unfolding bad bad_write pick
refused = not_so (λ l. omega arith) (not_so (λ n. n refl) (first {i = 0} (record { below = lit< tt; here = refl; before = λ j l p. omega arith })))

-- ---- a crew reads what it writes later: each entry rests on the other

unfoldable pub foreseen : List ℕ
foreseen = got 0 20 1 ++ written 0 20 1

foreseen_fair : Fair foreseen
unfolding foreseen every bad bad_write bad_read pick some twin source wrote agree zeros
foreseen_fair = refl

pub circle : Verdict foreseen (Circle 0)
unfolding foreseen rests_on earlier wrote agree every
circle =
    not_so (λ l. omega arith)
    (not_so (λ n. n refl)
    (none (fair foreseen foreseen_fair)
    (first {i = 0} (record { below = lit< tt; here = steps {j = 1} (step (lit< tt) (lit< tt) refl) (step (lit< tt) (lit< tt) refl); before = λ j l p. omega arith }))))

-- ---- a crew writes and then finds the bearing unwritten

unfoldable pub lost : List ℕ
lost = written 0 20 1 ++ got 0 0 0

lost_fair : Fair lost
unfolding lost every bad bad_write bad_read pick some twin source wrote agree zeros
lost_fair = refl

lost_back : Back lost
unfolding lost every rests_on earlier wrote agree
lost_back = refl

lost_lower : lower_than lost 1 0 ≡ true
unfolding lost lower_than zeros every
lost_lower = above_written 4 (rank lost 0) (rank lost 1) refl refl

pub low : Verdict lost (Low 1)
unfolding lost rests_on earlier lower_than
low =
    not_so (λ l. omega arith)
    (not_so (λ n. n refl)
    (none (fair lost lost_fair)
    (none (acyclic lost lost_back)
    (first {i = 1}
    (record {
      below = lit< tt;
      here = record { write = 0; past = step (lit< tt) (lit< tt) refl; lower = lost_lower };
      before = λ j l r. let e : j ≡ 0 = omega arith in both_ways (and_left (is_read lost j) _ r.lower) (ap (is_read lost) e);
    })))))

-- ---- a crew reads what another wrote

unfoldable pub seen : List ℕ
seen = written 0 20 1 ++ got 1 20 1

seen_fair : Fair seen
unfolding seen every bad bad_write bad_read pick some twin source wrote agree zeros
seen_fair = refl

seen_back : Back seen
unfolding seen every rests_on earlier wrote agree
seen_back = refl

-- the read is no lower than the write: it is the same version
seen_same : (x : ℕ) → x < 4 → vector seen 0 x ≡ vector seen 1 x
unfolding seen agree every
seen_same = agree_at 4 (vector seen 0) (vector seen 1) refl

seen_high : (i j : ℕ) → Past seen i j → lower_than seen i j ≡ true → ⊥
unfolding seen lower_than
seen_high zero j p l = both_ways l refl
seen_high (suc zero) zero p l =
    both_ways l (above_cong 4 (rank seen 0) (rank seen 1) (rank seen 1) (rank seen 1) seen_same refl (λ x m. refl) refl ∙ above_irrefl 4 (rank seen 1))
seen_high (suc zero) (suc zero) p l = both_ways l refl
seen_high (suc zero) (suc (suc j)) p l = let m = chain_to p in omega arith
seen_high (suc (suc i)) j p l = let m = chain_from p in omega arith

pub causal : Verdict seen Causal
unfolding seen
causal = not_so (λ l. omega arith) (not_so (λ n. n refl) (judged_if {h = seen} (fair seen seen_fair) (back seen seen_back) seen_high))
