-- The laws of the test that one place is enough for: how a loop goes on, and what a passed and a failed one say.
-- Assumes nothing.
use Prim.Native.Nat.{ℕ, zero, suc, ◌+◌, ◌<◌}
use native.Mathlib.Numerals.{add-one}
use native.Mathlib.Nat.{le_refl, le_step}
use native.Mathlib.Omega.{arith}
use mathlib.Core.Path.{◌≡◌, refl, sym, ◌∙◌}
use mathlib.Core.Logic.{⊎_elim}
use mathlib.Core.Bool.{Bool, true, false, ◌||◌, false≢true}
use denote.Param.Members.{Mut}
use mathlib.Core.List.{List}
use Rattle.std.specs.Prelude.{Option}
use Rattle.std.specs.declared.ops.Range.{Range}
use Rattle.std.specs.Bool.{MatchBool}
use Rattle.std.specs.Fn.{Called}
use Rattle.std.specs.Iterator.{YieldsThen}
use Rattle.std.specs.List.{FoldsTo}
use Rattle.std.specs.Option.{MatchOption}
use Rattle.std.proofs.iter.Yields.{nat_range_steps}
use Rattle.loops.proofs.ChainLaws.{PassesAt, PassesNowhere, place_from_any}
use Rattle.loops.proofs.BoolLaws.{or_cases, or_left, or_right, or_next, eq_or_ne}
use Rattle.chains.specs.Chain.{some}

pub some_more : (i : ℕ) (p : ℕ → Bool) → some (i + 1) p ≡ some i p || p i
unfolding some
some_more i p = rw add-one

pub some_here : (n : ℕ) (p : ℕ → Bool) (i : ℕ) → i < n → p i ≡ true → some n p ≡ true
unfolding some
some_here zero p i l h = absurd (omega arith)
some_here (suc n) p i l h =
    ⊎_elim
    (λ (e : i ≡ n). or_right (some n p) _ (rw (← e) h))
    (λ (e : i ≡ n → ⊥). or_left (some n p) _ (some_here n p i (omega arith) h))
    (eq_or_ne i n)

pub some_where : (n : ℕ) (p : ℕ → Bool) → some n p ≡ true → (i : ℕ) × (i < n) × (p i ≡ true)
unfolding some
some_where zero p h = absurd (false≢true h)
some_where (suc n) p h =
    ⊎_elim
    (λ (e : some n p ≡ true). let w = some_where n p e in (w.0, le_step w.1, w.2))
    (λ (e : p n ≡ true). (n, le_refl _, e))
    (or_cases (some n p) (p n) h)

pub some_never : (n : ℕ) (p : ℕ → Bool) → ((i : ℕ) → i < n → p i ≡ false) → some n p ≡ false
unfolding some
some_never zero p h = refl
some_never (suc n) p h = or_next (p n) (some_never n p (λ i l. h i (le_step l))) ∙ h n (le_refl _)

-- what `(0..n).any(test)` answers, for a test that the closure computes at each number
pub some_from_any : {F : Type 0} {g : Mut F (ℕ × Unit {0}) Bool} {s u : Range ℕ} {f : F} (n : ℕ) (p : ℕ → Bool) (r : Bool)
    → (xs : List ℕ) × (o : Option ℕ) × (j : F) × YieldsThen nat_range_steps s xs o u × FoldsTo (λ p x q. Called g p (x, tt) false q) f xs j
    × MatchOption o (r ≡ false) (λ x. (r ≡ true) × ((h : F) × Called g j (x, tt) true h))
    → s ≡ record { start = 0; end = n }
    → ((x : ℕ) (b : Bool) (q : F) → Called g f (x, tt) b q → (q ≡ f) × (b ≡ p x))
    → r ≡ some n p
some_from_any n p r ran e k = told r (place_from_any n p r ran e k)
  where
    told : (r : Bool) → MatchBool r ((k : ℕ) × PassesAt n p k) (PassesNowhere n p) → r ≡ some n p
    told true h = sym (some_here n p h.0 h.1.0 h.1.1)
    told false h = sym (some_never n p h)
