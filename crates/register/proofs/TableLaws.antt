-- The refusal table: a number is answered exactly when its check holds and none before it does. Then each table, row by row.
-- Assumes nothing.
use Prim.Native.Nat.{ℕ, ◌≤◌, ◌<◌}
use mathlib.Core.Path.{◌≡◌, refl, sym, ◌∙◌, ap, subst}
use mathlib.Core.Logic.{⊎_elim}
use mathlib.Core.List.{List, [], ◌∷◌}
use mathlib.Core.Bool.{Bool, true, false, not, ◌&&◌, ◌||◌, true≢false}
use lib.Dec.{eqb}
use borrow.Author.Tests.{le-leb, lt-leb}
use Rattle.loops.specs.Loops.{pick}
use Rattle.loops.proofs.BoolLaws.{decided, pick_true, pick_false, not_failed}
use Rattle.book.specs.Layout.{counts_of}
use Rattle.named.specs.Named.{base_fit}
use Rattle.paper.specs.Calls.{first, Says, here, later, otherwise}
use Rattle.register.specs.Checks.{place_number, asked_number}

-- ---- exactly when

pub first_stop : (t : Bool) (n : ℕ) (rest : List (Bool × ℕ)) → t ≡ true → first ((t, n) ∷ rest) ≡ n
unfolding first
first_stop t n rest e = pick_true n (first rest) e

pub first_next : (t : Bool) (n : ℕ) (rest : List (Bool × ℕ)) → t ≡ false → first ((t, n) ∷ rest) ≡ first rest
unfolding first
first_next t n rest e = pick_false n (first rest) e

pub first_none : first [] ≡ 0
unfolding first
first_none = refl

pub says_first : {rows : List (Bool × ℕ)} {n : ℕ} → Says rows n → first rows ≡ n
unfolding first
says_first (here e) = pick_true _ _ e
says_first (later e r) = pick_false _ _ e ∙ says_first r
says_first otherwise = refl

pub first_says : (rows : List (Bool × ℕ)) (n : ℕ) → first rows ≡ n → Says rows n
unfolding first
first_says [] n h = subst (Says []) h otherwise
first_says (t ∷ rest) n h =
    ⊎_elim
    (λ (e : t.0 ≡ true). subst (Says (t ∷ rest)) (sym (pick_true _ _ e) ∙ h) (here e))
    (λ (e : t.0 ≡ false). later e (first_says rest n (sym (pick_false _ _ e) ∙ h)))
    (decided t.0)

-- ---- a depot and a shelf

module _ (l : List ℕ) (d s : ℕ) where
  pub place_book : base_fit l ≡ false → place_number l d s ≡ 1
  unfolding place_number
  place_book f = first_stop _ _ _ (not_failed f)

  pub place_depot : base_fit l ≡ true → (counts_of l).depots ≤ d → place_number l d s ≡ 2
  unfolding place_number
  place_depot f h = first_next _ _ _ (ap not f) ∙ first_stop _ _ _ (le-leb _ _ h)

  pub place_shelf : base_fit l ≡ true → d < (counts_of l).depots → (counts_of l).shelves ≤ s → place_number l d s ≡ 3
  unfolding place_number
  place_shelf f h k = first_next _ _ _ (ap not f) ∙ first_next _ _ _ (lt-leb _ _ h) ∙ first_stop _ _ _ (le-leb _ _ k)

  pub place_good : base_fit l ≡ true → d < (counts_of l).depots → s < (counts_of l).shelves → place_number l d s ≡ 0
  unfolding place_number
  place_good f h k = first_next _ _ _ (ap not f) ∙ first_next _ _ _ (lt-leb _ _ h) ∙ first_next _ _ _ (lt-leb _ _ k) ∙ first_none

-- ---- a crew and a bearing

module _ (l : List ℕ) (c k : ℕ) where
  pub asked_book : base_fit l ≡ false → asked_number l c k ≡ 1
  unfolding asked_number
  asked_book f = first_stop _ _ _ (not_failed f)

  pub asked_crew : base_fit l ≡ true → (counts_of l).crews ≤ c → asked_number l c k ≡ 5
  unfolding asked_number
  asked_crew f h = first_next _ _ _ (ap not f) ∙ first_stop _ _ _ (le-leb _ _ h)

  pub asked_key : base_fit l ≡ true → c < (counts_of l).crews → (counts_of l).bearings ≤ k → asked_number l c k ≡ 4
  unfolding asked_number
  asked_key f h j = first_next _ _ _ (ap not f) ∙ first_next _ _ _ (lt-leb _ _ h) ∙ first_stop _ _ _ (le-leb _ _ j)

  pub asked_good : base_fit l ≡ true → c < (counts_of l).crews → k < (counts_of l).bearings → asked_number l c k ≡ 0
  unfolding asked_number
  asked_good f h j = first_next _ _ _ (ap not f) ∙ first_next _ _ _ (lt-leb _ _ h) ∙ first_next _ _ _ (lt-leb _ _ j) ∙ first_none

-- ---- a refusal by the shared checks is the refusal of the whole table: a number out of range names no part

pub two_bad :
    (f a b parts : Bool) (m k : ℕ) (rest : List (Bool × ℕ)) → eqb (first ((not f, 1) ∷ (a, m) ∷ (b, k) ∷ [])) 0 ≡ false →
    first ((not (f && (a || (b || parts))), 1) ∷ (a, m) ∷ (b, k) ∷ rest) ≡ first ((not f, 1) ∷ (a, m) ∷ (b, k) ∷ [])
unfolding first pick
two_bad false a b parts m k rest h = refl
two_bad true true b parts m k rest h = refl
two_bad true false true parts m k rest h = refl
two_bad true false false parts m k rest h = absurd (true≢false h)

pub three_bad :
    (f a b c parts : Bool) (m k : ℕ) (rest : List (Bool × ℕ)) → eqb (first ((not f, 1) ∷ (a || b, m) ∷ (c, k) ∷ [])) 0 ≡ false →
    first ((not (f && (a || (b || (c || parts)))), 1) ∷ (a || b, m) ∷ (c, k) ∷ rest) ≡ first ((not f, 1) ∷ (a || b, m) ∷ (c, k) ∷ [])
unfolding first pick
three_bad false a b c parts m k rest h = refl
three_bad true true b c parts m k rest h = refl
three_bad true false true c parts m k rest h = refl
three_bad true false false true parts m k rest h = refl
three_bad true false false false parts m k rest h = absurd (true≢false h)

-- ---- what a check that chooses between two answers chose

pub chose_first {ℓ} : {A : Type ℓ} {b : Bool} (g x y : A) → (x ≡ y → ⊥) → pick b g x ≡ y → (b ≡ true) × (g ≡ y)
unfolding pick
chose_first {b = true} g x y n e = (refl, e)
chose_first {b = false} g x y n e = absurd (n e)

pub chose_second {ℓ} : {A : Type ℓ} {b : Bool} (g x y : A) → (g ≡ y → ⊥) → pick b g x ≡ y → (b ≡ false) × (x ≡ y)
unfolding pick
chose_second {b = true} g x y n e = absurd (n e)
chose_second {b = false} g x y n e = (refl, e)
