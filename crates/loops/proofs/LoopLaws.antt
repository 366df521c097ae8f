-- The laws of the two loops: how each begins, goes on and ends, what it keeps, and what a test of many places says of each.
-- Assumes nothing.
use Prim.Native.Nat.{ℕ, zero, suc, ◌+◌, ◌≤◌, ◌<◌}
use native.Mathlib.Numerals.{add-one}
use native.Mathlib.Nat.{le_antisymm, le_step, le_refl}
use native.Mathlib.Omega.{arith}
use mathlib.Core.Path.{◌≡◌, refl, ◌∙◌, ap, ap₂, subst}
use mathlib.Core.Logic.{⊎_elim}
use mathlib.Core.Bool.{Bool, true, false, ◌&&◌, and-false}
use Rattle.loops.specs.Loops.{times, every}
use Rattle.loops.proofs.BoolLaws.{decided, and_left, and_right, and_intro, eq_or_ne}

module _ {ℓ} {A : Type ℓ} where
  pub times_none : (f : ℕ → A → A) (a : A) → a ≡ times 0 f a
  unfolding times
  times_none f a = refl

  pub times_suc : (i : ℕ) (f : ℕ → A → A) (a : A) → times (suc i) f a ≡ f i (times i f a)
  unfolding times
  times_suc i f a = refl

  pub times_more : (i : ℕ) (f : ℕ → A → A) (a : A) {b c : A} → b ≡ times i f a → c ≡ f i b → c ≡ times (i + 1) f a
  unfolding times
  times_more i f a p q = q ∙ ap (f i) p ∙ rw add-one

  pub times_done : {i n : ℕ} (f : ℕ → A → A) (a : A) {b : A} → i ≤ n → n ≤ i → b ≡ times i f a → b ≡ times n f a
  times_done f a p q e = rw (← le_antisymm p q) e

  -- what each turn keeps, the loop keeps
  pub times_keeps {κ} : (P : A → Type κ) (n : ℕ) (f : ℕ → A → A) (a : A) → ((i : ℕ) (x : A) → i < n → P x → P (f i x)) → P a → P (times n f a)
  unfolding times
  times_keeps P zero f a step h = h
  times_keeps P (suc n) f a step h = step n (times n f a) (le_refl _) (times_keeps P n f a (λ i x l k. step i x (le_step l) k) h)

  -- turns that do the same make loops that do the same
  pub times_same : (n : ℕ) (f g : ℕ → A → A) (a : A) → ((i : ℕ) (x : A) → i < n → f i x ≡ g i x) → times n f a ≡ times n g a
  unfolding times
  times_same zero f g a h = refl
  times_same (suc n) f g a h = h n (times n f a) (le_refl _) ∙ ap (g n) (times_same n f g a (λ i x l. h i x (le_step l)))

pub every_none : (p : ℕ → Bool) → every 0 p ≡ true
unfolding every
every_none p = refl

pub every_suc : (i : ℕ) (p : ℕ → Bool) → every (suc i) p ≡ every i p && p i
unfolding every
every_suc i p = refl

pub every_more : (i : ℕ) (p : ℕ → Bool) → every i p ≡ true → p i ≡ true → every (i + 1) p ≡ true
unfolding every
every_more i p h q = rw add-one (and_intro h q)

pub every_at : (n : ℕ) (p : ℕ → Bool) → every n p ≡ true → (i : ℕ) → i < n → p i ≡ true
unfolding every
every_at zero p h i l = absurd (omega arith)
every_at (suc n) p h i l =
    ⊎_elim
    (λ (e : i ≡ n). rw e (and_right (every n p) (p n) h))
    (λ (e : i ≡ n → ⊥). every_at n p (and_left (every n p) (p n) h) i (omega arith))
    (eq_or_ne i n)

pub every_intro : (n : ℕ) (p : ℕ → Bool) → ((i : ℕ) → i < n → p i ≡ true) → every n p ≡ true
unfolding every
every_intro zero p h = refl
every_intro (suc n) p h = and_intro (every_intro n p (λ i l. h i (le_step l))) (h n (le_refl _))

pub every_stop : (n i : ℕ) (p : ℕ → Bool) → i < n → p i ≡ false → every n p ≡ false
unfolding every
every_stop zero i p l h = absurd (omega arith)
every_stop (suc n) i p l h =
    ⊎_elim
    (λ (e : i ≡ n). ap (λ (b : Bool). every n p && b) (rw (← e) h) ∙ and-false (every n p))
    (λ (e : i ≡ n → ⊥). ap (λ (b : Bool). b && p n) (every_stop n i p (omega arith) h))
    (eq_or_ne i n)

pub every_done : {i n : ℕ} (p : ℕ → Bool) → i ≤ n → n ≤ i → every i p ≡ true → every n p ≡ true
every_done p a b h = rw (← le_antisymm a b) h

pub every_same : (n : ℕ) (p q : ℕ → Bool) → ((i : ℕ) → i < n → p i ≡ q i) → every n p ≡ every n q
unfolding every
every_same zero p q h = refl
every_same (suc n) p q h = ap₂ (λ (a b : Bool). a && b) (every_same n p q (λ i l. h i (le_step l))) (h n (le_refl _))

-- a test of many places that fails, fails somewhere
pub every_fails : (n : ℕ) (p : ℕ → Bool) → every n p ≡ false → (i : ℕ) × (i < n) × (p i ≡ false)
unfolding every
every_fails zero p h = absurd (mathlib.Core.Bool.true≢false h)
every_fails (suc n) p h =
    ⊎_elim
    (λ (e : every n p ≡ true). (n, le_refl _, subst (λ (b : Bool). b && p n ≡ false) e h))
    (λ (e : every n p ≡ false). let w = every_fails n p e in (w.0, le_step w.1, w.2))
    (decided (every n p))
