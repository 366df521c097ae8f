-- What a chain over a range answers, in the words of the two loops: `(0..n).all(test)` is `every n`, `(0..n).any(test)` is no `every n` of the test's opposite,
-- and `(0..n).find(test)` is the first number that passes.
-- Assumes nothing.
use Prim.Native.Nat.{ℕ, ◌≤◌, ◌<◌}
use native.Mathlib.Omega.{arith}
use lib.ListN.{length, get_or}
use denote.Ref.{Bor}
use denote.Param.Members.{Mut}
use mathlib.Core.Bool.{Bool, true, false, not}
use mathlib.Core.List.{List}
use mathlib.Core.Path.{◌≡◌, sym, ◌∙◌, ap, subst}
use Rattle.std.specs.Prelude.{Option, None, Some}
use Rattle.std.specs.declared.ops.Range.{Range}
use Rattle.std.specs.Bool.{MatchBool, ⊤}
use Rattle.std.specs.Fn.{Called, CalledAt}
use Rattle.std.specs.Iterator.{YieldsThen}
use Rattle.std.specs.List.{FoldsTo, range_with_len, AllWithin, HoldsAt}
use Rattle.std.specs.Option.{MatchOption}
use Rattle.std.proofs.iter.Yields.{nat_range_steps}
use Rattle.std.proofs.lemmas.Iterator.{YieldsList-from_range, cases_from_all, cases_from_any, IsFirst-from_position, first_from_find}
use Rattle.std.proofs.lemmas.List.FromFn.{length-range_with_len, get_or-range_with_len}
use Rattle.loops.specs.Loops.{every}
use Rattle.loops.proofs.LoopLaws.{every_intro, every_stop}

-- the number at a place of the range
placed : (n k : ℕ) → k < n → get_or (range_with_len 0 n) k 0 ≡ k
placed n k l = get_or-range_with_len 0 n k 0 l ∙ omega arith

passed : (n : ℕ) (p : ℕ → Bool) (r : Bool)
    → MatchBool r (AllWithin (λ (i : ℕ). true ≡ p i) (range_with_len 0 n) 0 (length (range_with_len 0 n)))
    ((k : ℕ) × (k < length (range_with_len 0 n)) × HoldsAt (λ (i : ℕ). false ≡ p i) (range_with_len 0 n) k)
    → r ≡ every n p
passed n p true h = sym (every_intro n p (λ k l.
    let there : k < length (range_with_len 0 n) = rw (length-range_with_len 0 n) l in
    sym (subst (λ (i : ℕ). true ≡ p i) (placed n k l) (h k 0 (omega arith) there))))
passed n p false h =
    let k = h.0 in
    let l : k < n = rw (length-range_with_len 0 n) at h.1 in
    sym (every_stop n k p l (sym (subst (λ (i : ℕ). false ≡ p i) (placed n k l) (h.2 0))))

-- a test that the closure computes at each number
pub every_from_all : {F : Type 0} {g : Mut F (ℕ × Unit {0}) Bool} {s u : Range ℕ} {f : F} (n : ℕ) (p : ℕ → Bool) (r : Bool)
    → (xs : List ℕ) × (o : Option ℕ) × (j : F) × YieldsThen nat_range_steps s xs o u × FoldsTo (λ p x q. Called g p (x, tt) true q) f xs j
    × MatchOption o (r ≡ true) (λ x. (r ≡ false) × ((h : F) × Called g j (x, tt) false h))
    → s ≡ record { start = 0; end = n }
    → ((x : ℕ) (b : Bool) (q : F) → Called g f (x, tt) b q → (q ≡ f) × (b ≡ p x))
    → r ≡ every n p
every_from_all {F} {g} {s} {u} {f} n p r ran e k =
    passed n p r (cases_from_all u f r (λ y. true ≡ p y) (λ y. false ≡ p y) ran (YieldsList-from_range 0 n n e (omega arith)) (λ x q. k x true q) (λ x q c. (k x false q c).1))

-- ---- a test that one place is enough for

passes_at : (n : ℕ) (p : ℕ → Bool) (k : ℕ) → k < n → HoldsAt (λ (i : ℕ). true ≡ p i) (range_with_len 0 n) k → p k ≡ true
passes_at n p k l h = sym (subst (λ (i : ℕ). true ≡ p i) (placed n k l) (h 0))

passes_nowhere : (n m : ℕ) (p : ℕ → Bool) → m ≤ n → AllWithin (λ (i : ℕ). false ≡ p i) (range_with_len 0 n) 0 m → (k : ℕ) → k < m → p k ≡ false
passes_nowhere n m p b h k l = sym (subst (λ (i : ℕ). false ≡ p i) (placed n k (omega arith)) (h k 0 (omega arith) l))

-- the test passes at k, a place below n, or nowhere below n
abbrev pub PassesAt : ℕ → (ℕ → Bool) → ℕ → Type 0
PassesAt n p k = (k < n) × (p k ≡ true)

abbrev pub PassesNowhere : ℕ → (ℕ → Bool) → Type 0
PassesNowhere n p = (k : ℕ) → k < n → p k ≡ false

-- the first place below n at which the test passes
abbrev pub PassesFirst : ℕ → (ℕ → Bool) → ℕ → Type 0
PassesFirst n p k = (k < n) × (p k ≡ true) × PassesNowhere k p

-- what `any` answers, for a test that the closure computes at each number
pub place_from_any : {F : Type 0} {g : Mut F (ℕ × Unit {0}) Bool} {s u : Range ℕ} {f : F} (n : ℕ) (p : ℕ → Bool) (r : Bool)
    → (xs : List ℕ) × (o : Option ℕ) × (j : F) × YieldsThen nat_range_steps s xs o u × FoldsTo (λ p x q. Called g p (x, tt) false q) f xs j
    × MatchOption o (r ≡ false) (λ x. (r ≡ true) × ((h : F) × Called g j (x, tt) true h))
    → s ≡ record { start = 0; end = n }
    → ((x : ℕ) (b : Bool) (q : F) → Called g f (x, tt) b q → (q ≡ f) × (b ≡ p x))
    → MatchBool r ((k : ℕ) × PassesAt n p k) (PassesNowhere n p)
place_from_any {F} {g} {s} {u} {f} n p r ran e k =
    told r
    (cases_from_any u f r (λ y. true ≡ p y) (λ y. false ≡ p y) ran (YieldsList-from_range 0 n n e (omega arith)) (λ x q c. (k x true q c).1) (λ x q. k x false q))
  where
    told : (r : Bool)
        → MatchBool r ((k : ℕ) × (k < length (range_with_len 0 n)) × HoldsAt (λ (i : ℕ). true ≡ p i) (range_with_len 0 n) k)
        (AllWithin (λ (i : ℕ). false ≡ p i) (range_with_len 0 n) 0 (length (range_with_len 0 n)))
        → MatchBool r ((k : ℕ) × PassesAt n p k) (PassesNowhere n p)
    told true h = let l : h.0 < n = rw (length-range_with_len 0 n) at h.1 in (h.0, (l, passes_at n p h.0 l h.2))
    told false h = passes_nowhere n n p (omega arith) (rw (length-range_with_len 0 n) at h)

pub every_from_any : {F : Type 0} {g : Mut F (ℕ × Unit {0}) Bool} {s u : Range ℕ} {f : F} (n : ℕ) (p : ℕ → Bool) (r : Bool)
    → (xs : List ℕ) × (o : Option ℕ) × (j : F) × YieldsThen nat_range_steps s xs o u × FoldsTo (λ p x q. Called g p (x, tt) false q) f xs j
    × MatchOption o (r ≡ false) (λ x. (r ≡ true) × ((h : F) × Called g j (x, tt) true h))
    → s ≡ record { start = 0; end = n }
    → ((x : ℕ) (b : Bool) (q : F) → Called g f (x, tt) b q → (q ≡ f) × (b ≡ p x))
    → r ≡ not (every n (λ i. not (p i)))
every_from_any n p r ran e k = told r (place_from_any n p r ran e k)
  where
    told : (r : Bool) → MatchBool r ((k : ℕ) × PassesAt n p k) (PassesNowhere n p) → r ≡ not (every n (λ i. not (p i)))
    told true h = ap not (sym (every_stop n h.0 (λ i. not (p i)) h.1.0 (ap not h.1.1)))
    told false h = ap not (sym (every_intro n (λ i. not (p i)) (λ k l. ap not (h k l))))

-- what `find` answers
pub place_from_find : {F : Type 0} {g : Mut F (Bor ℕ × Unit {0}) Bool} {s : Range ℕ} {f : F} (n : ℕ) (p : ℕ → Bool) (u : Range ℕ) (r : Option ℕ)
    → (xs : List ℕ) × (j : F) × YieldsThen nat_range_steps s xs r u × FoldsTo (λ p x q. CalledAt g p x false q) f xs j
    × MatchOption r ⊤ (λ x. (h : F) × CalledAt g j x true h)
    → s ≡ record { start = 0; end = n }
    → ((x : ℕ) (b : Bool) (q : F) → CalledAt g f x b q → (q ≡ f) × (b ≡ p x))
    → MatchOption r (PassesNowhere n p) (PassesFirst n p)
place_from_find {F} {g} {s} {f} n p u r ran e k =
    told r
    (first_from_find u f r (λ y. true ≡ p y) (λ y. false ≡ p y) ran (YieldsList-from_range 0 n n e (omega arith)) (λ x q c. (k x true q c).1) (λ x q. k x false q))
  where
    all : List ℕ
    all = range_with_len 0 n

    told : (r : Option ℕ)
        → MatchOption r (AllWithin (λ (i : ℕ). false ≡ p i) all 0 (length all))
        (λ x. (true ≡ p x) × (i : ℕ) × (i < length all) × HoldsAt (λ (y : ℕ). y ≡ x) all i × AllWithin (λ (i : ℕ). false ≡ p i) all 0 i)
        → MatchOption r (PassesNowhere n p) (PassesFirst n p)
    told None h = passes_nowhere n n p (omega arith) (rw (length-range_with_len 0 n) at h)
    told (Some x) h =
        let l : h.1 < n = rw (length-range_with_len 0 n) at h.2 in
        let here : h.1 ≡ x = sym (placed n h.1 l) ∙ h.3 0 in
        (rw (← here) l, sym h.0, rw (← here) (passes_nowhere n h.1 p (omega arith) h.4))

-- what `position` answers: in a range from 0 the place is the number
pub place_from_position : {F : Type 0} {g : Mut F (ℕ × Unit {0}) Bool} {s u : Range ℕ} {f : F} (n : ℕ) (p : ℕ → Bool) (r : Option ℕ)
    → (xs : List ℕ) × (o : Option ℕ) × (j : F) × YieldsThen nat_range_steps s xs o u × FoldsTo (λ p x q. Called g p (x, tt) false q) f xs j
    × MatchOption o (r ≡ None) (λ x. (r ≡ Some (length xs)) × ((h : F) × Called g j (x, tt) true h))
    → s ≡ record { start = 0; end = n }
    → ((x : ℕ) (b : Bool) (q : F) → Called g f (x, tt) b q → (q ≡ f) × (b ≡ p x))
    → MatchOption r (PassesNowhere n p) (PassesFirst n p)
place_from_position {F} {g} {s} {u} {f} n p r ran e k =
    told r
    (IsFirst-from_position u f r (λ y. true ≡ p y) (λ y. false ≡ p y) ran (YieldsList-from_range 0 n n e (omega arith)) (λ x q c. (k x true q c).1) (λ x q. k x false q))
  where
    all : List ℕ
    all = range_with_len 0 n

    told : (r : Option ℕ)
        → MatchOption r (AllWithin (λ (i : ℕ). false ≡ p i) all 0 (length all))
        (λ i. (i < length all) × HoldsAt (λ (i : ℕ). true ≡ p i) all i × AllWithin (λ (i : ℕ). false ≡ p i) all 0 i)
        → MatchOption r (PassesNowhere n p) (PassesFirst n p)
    told None h = passes_nowhere n n p (omega arith) (rw (length-range_with_len 0 n) at h)
    told (Some i) h =
        let l : i < n = rw (length-range_with_len 0 n) at h.0 in
        (l, passes_at n p i l h.1, passes_nowhere n i p (omega arith) h.2)
