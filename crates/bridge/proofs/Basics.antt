-- Small laws that the whole crate stands on: choices under a test, lists by place, words that stay, and records put together.
-- Assumes nothing.
use Prim.Native.Nat.{ℕ, zero, suc, ◌+◌, ◌≤◌, ◌<◌}
use native.Mathlib.Nat.{le_step, le_refl}
use native.Mathlib.Numerals.{add-one}
use native.Mathlib.Omega.{arith}
use mathlib.Core.Path.{◌≡◌, refl, ◌∙◌, ap, ap₂}
use mathlib.Core.Bool.{Bool, true, false, ◌||◌, true≢false}
use mathlib.Core.List.{List, [], ◌∷◌, ◌++◌}
use lib.Dec.{ltb}
use lib.ListN.{length, get_or, length-append}
use Rattle.loops.specs.Loops.{pick}
use Rattle.order.specs.Vector.{Vec}
use Rattle.model.specs.Parts.{Version, Write, Message, Shelf, State}
use Rattle.bridge.specs.View.{entries_at, listed}

-- ---- choices

pub pick_then {ℓ} : {A : Type ℓ} (t : Bool) {a b : A} (c : A) → (t ≡ true → a ≡ b) → pick t a c ≡ pick t b c
unfolding pick
pick_then true c h = h refl
pick_then false c h = refl

pub pick_else {ℓ} : {A : Type ℓ} (t : Bool) (c : A) {a b : A} → (t ≡ false → a ≡ b) → pick t c a ≡ pick t c b
unfolding pick
pick_else true c h = refl
pick_else false c h = h refl

pub pick_same {ℓ} : {A : Type ℓ} (t : Bool) (a : A) → pick t a a ≡ a
unfolding pick
pick_same true a = refl
pick_same false a = refl

pub pick_ap {ℓ ℓ'} : {A : Type ℓ} {B : Type ℓ'} (f : A → B) (t : Bool) (a b : A) → f (pick t a b) ≡ pick t (f a) (f b)
unfolding pick
pick_ap f true a b = refl
pick_ap f false a b = refl

-- what a chain of tests says whose number is 0
pub first_zero : (t : Bool) (k x : ℕ) → pick t (suc k) x ≡ 0 → (t ≡ false) × (x ≡ 0)
unfolding pick
first_zero true k x e = let z : suc k ≡ 0 = e in absurd (omega arith)
first_zero false k x e = (refl, e)

pub or_none : (a b : Bool) → a || b ≡ false → (a ≡ false) × (b ≡ false)
or_none true b e = absurd (true≢false e)
or_none false b e = (refl, e)

-- ---- lists by place

module _ {A : Type 0} where
  pub listed_same : (n : ℕ) (f g : ℕ → A) → ((i : ℕ) → i < n → f i ≡ g i) → listed n f ≡ listed n g
  unfolding listed
  listed_same zero f g h = refl
  listed_same (suc n) f g h = ap₂ (λ (a : List A) (b : A). a ++ (b ∷ [])) (listed_same n f g (λ i l. h i (le_step l))) (h n (le_refl _))

  pub listed_none : (n : ℕ) (f : ℕ → A) → n ≡ 0 → listed n f ≡ []
  unfolding listed
  listed_none n f e = ap (λ (k : ℕ). listed k f) e

  pub listed_snoc : (n : ℕ) (f : ℕ → A) → listed (n + 1) f ≡ listed n f ++ (f n ∷ [])
  unfolding listed
  listed_snoc n f = rw add-one

  pub listed_cons : (n : ℕ) (f : ℕ → A) → listed (suc n) f ≡ f 0 ∷ listed n (λ i. f (suc i))
  unfolding listed
  listed_cons zero f = refl
  listed_cons (suc n) f = ap (λ (a : List A). a ++ (f (suc n) ∷ [])) (listed_cons n f)

  pub length_listed : (n : ℕ) (f : ℕ → A) → length (listed n f) ≡ n
  unfolding listed
  length_listed zero f = refl
  length_listed (suc n) f = length-append (listed n f) (f n ∷ []) ∙ ap (λ (k : ℕ). k + 1) (length_listed n f) ∙ add-one n

-- ---- words that stay

-- the n words from a on stand in m as in l
abbrev pub Same : List ℕ → List ℕ → ℕ → ℕ → Type 0
Same l m a n = (j : ℕ) → a ≤ j → j < a + n → get_or m j 0 ≡ get_or l j 0

pub same_entries : (n : ℕ) (l m : List ℕ) (a : ℕ) → Same l m a n → entries_at n m a ≡ entries_at n l a
unfolding entries_at
same_entries n l m a h = λ i x. pick_then (ltb x n) 0 (λ t. let k = borrow.Author.Tests.ltb-true x n t in h (a + x) (omega arith) (omega arith)) i

-- ---- records put together

pub shelf_path : {c c' : ℕ} {u u' v v' : Vec} {f f' : ℕ → Version} {t t' : ℕ → List Write} {w w' : ℕ → List Message}
    → c ≡ c' → u ≡ u' → v ≡ v' → f ≡ f' → t ≡ t' → w ≡ w'
    → ◌≡◌ {A = Shelf} (record { clock = c; stable = u; seen = v; store = f; taken = t; untaken = w }) (record { clock = c'; stable = u'; seen = v'; store = f'; taken = t'; untaken = w' })
shelf_path p q r s t u = λ i. record { clock = p i; stable = q i; seen = r i; store = s i; taken = t i; untaken = u i }

pub state_path : {σ τ : State} → ((d s : ℕ) → σ.shelf d s ≡ τ.shelf d s) → σ.crew ≡ τ.crew → σ.home ≡ τ.home → σ ≡ τ
state_path p q r = λ i. record { shelf = λ d s. p d s i; crew = q i; home = r i }
