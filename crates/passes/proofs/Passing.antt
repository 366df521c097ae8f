-- The log of a system that meets demand 2 passes: no entry is bad, every step goes back, and no read is lower than a write that it rests on.
-- Assumes nothing.
use Prim.Native.Nat.{ℕ, ◌≤◌, ◌<◌}
use native.Mathlib.Omega.{arith}
use native.Mathlib.Nat.{le_refl}
use mathlib.Core.Path.{◌≡◌, refl, sym, ◌∙◌, ap, subst}
use mathlib.Core.Logic.{⊎_elim}
use mathlib.Core.List.{List}
use mathlib.Core.Bool.{true, not}
use lib.Dec.{leb, eqb}
use lib.ListN.{length, take}
use lib.Seq.{take-length}
use borrow.Author.Tests.{eqb-true, eq-eqb, ne_eqb, leb-true}
use Rattle.loops.proofs.BoolLaws.{both_ways, and_left, and_right, or_cases, not_passed, pick_true, pick_false, eq_or_ne}
use Rattle.order.specs.Vector.{zeros}
use Rattle.paper.specs.Calls.{Call}
use Rattle.model.specs.Parts.{Counts, Write, unwritten}
use Rattle.model.specs.System.{System}
use Rattle.model.specs.Demands.{Demand2}
use Rattle.chains.specs.Chain.{Chain, some}
use Rattle.chains.proofs.SomeLaws.{some_here, some_where}
use Rattle.chains.proofs.Closing.{chain_from, chain_to}
use Rattle.entries.specs.Entries.{entries, kind, origin, stamp, vector, is_write, is_read, twin, source}
use Rattle.entries.specs.Rests.{rests_on, lower_than}
use Rattle.auditor.specs.Verdict.{bad_write, bad_read, bad, Bad, so, not_so, Judged, Verdict}
use Rattle.auditor.specs.declared.finding.Finding.TheVariants.{Causal}
use Rattle.auditor.proofs.JudgeLaws.{judged_if}
use Rattle.passes.specs.Log.{Entry, nth, words_of, Logged}
use Rattle.passes.proofs.LogLaws.{At, at_of, tells, tells_kind}
use Rattle.passes.proofs.WordLaws.{words_length, kind_at, origin_at, stamp_at, unwritten_at, twin_is, source_by, rests_is, SameVersion, lower_is}
use Rattle.passes.proofs.Resting.{Orderly, from_depot, stamp_above_0, twins, read_made, source_is, no_lower}

module _ (π : Counts) (S : System) (few : π.depots ≤ 4) (demand : Demand2 π S) (orderly : Orderly π S) {h : List Call} (es : List Entry) (given : Logged S h es) where
  abbrev w : List ℕ
  w = words_of π es

  log : Logged S h (take (length es) es)
  log = subst (Logged S h) (sym (take-length es)) given

  there : (i : ℕ) → i < length es → At S h es i
  there i l = at_of S es (length es) log (le_refl _) i l

  good_write : (i : ℕ) → i < length es → (nth es i).kind ≡ 0 → bad_write w i ≡ true → ⊥
  unfolding bad_write
  good_write i l k t =
      let o = from_depot π S few demand orderly es (there i l) k in
      ⊎_elim
      (λ (b : leb 4 (origin w i) ≡ true). omega (arith, leb-true 4 (origin w i) b, origin_at π es i l, o))
      (λ b.
      ⊎_elim
      (λ (z : eqb (stamp w i) 0 ≡ true).
      omega (arith, eqb-true (stamp w i) 0 z, stamp_at π es few i l o, stamp_above_0 π S few demand orderly es (there i l) k))
      (λ (z : some (entries w) (twin w i) ≡ true).
      let j = some_where (entries w) (twin w i) z in
      let m : j.0 < length es = omega (arith, words_length π es, j.1) in
      let s = twin_is π es i j.0 l m j.2 in
      s.0 (twins π S few demand orderly es log i j.0 l m k s.1))
      (or_cases (eqb (stamp w i) 0) _ b))
      (or_cases (leb 4 (origin w i)) _ t)

  good_read : (i : ℕ) → i < length es → (nth es i).kind ≡ 1 → bad_read w i ≡ true → ⊥
  unfolding bad_read
  good_read i l k t =
      ⊎_elim
      (λ (z : (nth es i).write.version ≡ unwritten).
      both_ways (unwritten_at π es i l z) (not_passed (and_left (not (zeros 4 (vector w i))) _ t)))
      (λ (m : (m : ℕ) × (m < i) × ((nth es m).kind ≡ 0) × ((nth es m).write ≡ (nth es i).write)).
      let n : m.0 < length es = omega (arith, m.1) in
      both_ways
      (some_here (entries w) (source w i) m.0 (omega (arith, words_length π es, n)) (source_by π es i m.0 l n m.2 (sym m.3)))
      (not_passed (and_right (not (zeros 4 (vector w i))) _ t)))
      (read_made π S few demand orderly es log (there i l) l k)

  fair : (i : ℕ) → i < length es → Bad w i → ⊥
  unfolding bad
  fair i l t =
      ⊎_elim
      (λ (k : (nth es i).kind ≡ 0). good_write i l k (sym (pick_true _ _ (eq-eqb (kind w i) 0 (kind_at π es i l ∙ k))) ∙ t))
      (λ (n : (nth es i).kind ≡ 0 → ⊥).
      let k : (nth es i).kind ≡ 1 = let m = tells_kind S (tells S (there i l)) in omega (arith, n) in
      good_read i l k
      (sym
      (pick_false _ _ (ne_eqb (kind w i) 0 (λ z. omega (arith, z, kind_at π es i l, k))) ∙ pick_true _ _ (eq-eqb (kind w i) 1 (kind_at π es i l ∙ k)))
      ∙ t))
      (eq_or_ne (nth es i).kind 0)

  back : (a b : ℕ) → a < length es → b < length es → rests_on w a b ≡ true → b < a
  back a b l m r =
      ⊎_elim
      (λ (c : (b < a) × ((nth es a).crew ≡ (nth es b).crew)). c.0)
      (λ (c : ((nth es a).kind ≡ 1) × SameVersion π es a b). (source_is π S few demand orderly es log (there a l) l c.0 b m c.1).lower)
      (rests_is π es a b l m r)

  count : entries w ≡ length es
  count = let e = words_length π es in omega arith

  pub passing : length es ≤ 256 → Verdict w Causal
  passing short =
      not_so (λ l. omega (arith, l, words_length π es))
      (not_so (λ n. n (let e = words_length π es in omega arith))
      (judged_if {h = w} (λ i l. fair i (omega (arith, count, l))) (λ a b l m. back a b (omega (arith, count, l)) (omega (arith, count, m)))
      (λ i j p t.
      let q : Chain (length es) (rests_on w) i j = subst (λ (n : ℕ). Chain n (rests_on w) i j) count p in
      no_lower π S few demand orderly es log i j q (lower_is π es few i j (chain_from q) (chain_to q) t))))
