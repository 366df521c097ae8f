-- What holds of a function or a state after one place of it is put anew: of the new thing in that place, of the old one in every other.
-- Assumes nothing.
use Prim.Native.Nat.{ℕ, zero, suc, ◌≤◌, ◌<◌}
use native.Mathlib.Omega.{arith}
use native.Mathlib.Nat.{le_refl}
use mathlib.Core.Path.{◌≡◌, refl, sym, subst, ◌∙◌, ap}
use mathlib.Core.Logic.{◌⊎◌, inl, inr, ⊎_elim}
use mathlib.Core.Bool.{Bool, true, false, not, ◌&&◌}
use lib.Dec.{eqb, ltb}
use borrow.Author.Tests.{eqb-true, eqb-false, eq-eqb, ne_eqb, ltb-true, lt-ltb}
use Rattle.loops.specs.Loops.{times, pick}
use Rattle.loops.proofs.BoolLaws.{and_left, and_right, and_intro, not_passed, not_failed, both_ways, eq_or_ne}
use Rattle.model.specs.Parts.{Counts, Message, Shelf, State, put, lowest, other, set_shelf, end}
use Rattle.model.specs.Rules.{emit, receiving}

pub pick_all : {A : Type 0} (P : A → Type 0) (t : Bool) {a b : A} → (t ≡ true → P a) → (t ≡ false → P b) → P (pick t a b)
unfolding pick
pick_all P true f g = f refl
pick_all P false f g = g refl

pub put_all : {A : Type 0} (P : ℕ → A → Type 0) (i : ℕ) {a : A} {f : ℕ → A} → P i a → ((x : ℕ) → (x ≡ i → ⊥) → P x (f x)) → (x : ℕ) → P x (put i a f x)
unfolding put
put_all P i {a} here there x = pick_all (P x) (eqb x i) (λ e. subst (λ y. P y a) (sym (eqb-true x i e)) here) (λ e. there x (eqb-false x i e))

-- the same of two functions at once
pub put_both : {A B : Type 0} (P : ℕ → A → B → Type 0) (i : ℕ) {a : A} {f : ℕ → A} {b : B} {g : ℕ → B} → P i a b → ((x : ℕ) → (x ≡ i → ⊥) → P x (f x) (g x))
    → (x : ℕ) → P x (put i a f x) (put i b g x)
unfolding put
put_both {A} {B} P i {a} {f} {b} {g} here there x = go (eqb x i) refl
  where
    go : (t : Bool) → eqb x i ≡ t → P x (pick t a (f x)) (pick t b (g x))
    go true e = unfold pick in subst (λ y. P y a b) (sym (eqb-true x i e)) here
    go false e = unfold pick in there x (eqb-false x i e)

pub put_same : {A : Type 0} (i : ℕ) (a : A) (f : ℕ → A) → put i a f i ≡ a
unfolding put pick
put_same i a f = rw (eq-eqb i i refl)

pub put_other : {A : Type 0} (i : ℕ) (a : A) (f : ℕ → A) (x : ℕ) → (x ≡ i → ⊥) → put i a f x ≡ f x
unfolding put pick
put_other i a f x e = rw (ne_eqb x i e)

-- x is a depot other than d, of n
pub record Other (n d x : ℕ) : Type 0 where
  pub below : x < n
  pub apart : x ≡ d → ⊥

pub other_true : (n d x : ℕ) → other n d x ≡ true → Other n d x
unfolding other
other_true n d x e = record { below = ltb-true x n (and_left (ltb x n) (not (eqb x d)) e); apart = eqb-false x d (not_passed (and_right (ltb x n) (not (eqb x d)) e)) }

pub other_intro : {n d x : ℕ} → Other n d x → other n d x ≡ true
unfolding other
other_intro {n} {d} {x} o = and_intro (lt-ltb x n o.below) (not_failed (ne_eqb x d o.apart))

pub set_shelf_all : (P : ℕ → ℕ → Shelf → Type 0) (d s : ℕ) (h : Shelf) (σ : State) → P d s h → ((e r : ℕ) → ((e ≡ d) × (r ≡ s) → ⊥) → P e r (σ.shelf e r))
    → (e r : ℕ) → P e r ((set_shelf d s h σ).shelf e r)
unfolding set_shelf
set_shelf_all P d s h σ here there e r =
    put_all (λ e (f : ℕ → Shelf). (r : ℕ) → P e r (f r)) d
    (put_all (λ r g. P d r g) s here (λ r apart. there d r (λ b. apart b.1)))
    (λ e apart r. there e r (λ b. apart b.0))
    e r

-- what the new shelf has as the old one had it, every shelf has as before
pub set_shelf_same : {A : Type 0} (f : Shelf → A) (d s : ℕ) (h : Shelf) (σ : State) → f h ≡ f (σ.shelf d s) → (e r : ℕ) → f ((set_shelf d s h σ).shelf e r) ≡ f (σ.shelf e r)
set_shelf_same f d s h σ same = set_shelf_all (λ e r g. f g ≡ f (σ.shelf e r)) d s h σ same (λ e r apart. refl)

pub set_shelf_here : (d s : ℕ) (h : Shelf) (σ : State) → (set_shelf d s h σ).shelf d s ≡ h
unfolding set_shelf
set_shelf_here d s h σ = ap (λ (f : ℕ → Shelf). f s) (put_same d _ _) ∙ put_same s h _

pub emit_all : (π : Counts) (P : ℕ → ℕ → Shelf → Type 0) (d s : ℕ) (m : Message) (σ : State)
    → ((e : ℕ) → Other π.depots d e → P e s (receiving d m (σ.shelf e s)))
    → ((e r : ℕ) → (Other π.depots d e → r ≡ s → ⊥) → P e r (σ.shelf e r))
    → (e r : ℕ) → P e r ((emit π d s m σ).shelf e r)
unfolding emit
emit_all π P d s m σ here there e r =
    pick_all (P e r) (other π.depots d e && eqb r s)
    (λ t. subst (λ x. P e x (receiving d m (σ.shelf e x))) (sym (eqb-true r s (and_right (other π.depots d e) (eqb r s) t)))
    (here e (other_true _ d e (and_left (other π.depots d e) (eqb r s) t))))
    (λ t. there e r (λ o same. both_ways (and_intro (other_intro o) (eq-eqb r s same)) t))

pub emit_same : (π : Counts) {A : Type 0} (f : Shelf → A) (d s : ℕ) (m : Message) (σ : State) → ((h : Shelf) → f (receiving d m h) ≡ f h)
    → (e r : ℕ) → f ((emit π d s m σ).shelf e r) ≡ f (σ.shelf e r)
emit_same π f d s m σ same = emit_all π (λ e r g. f g ≡ f (σ.shelf e r)) d s m σ (λ e o. same _) (λ e r apart. refl)

-- a number below suc n is n or below n
pub last_or_below : (i n : ℕ) → i < suc n → (i ≡ n) ⊎ (i < n)
last_or_below i n h = ⊎_elim (λ (e : i ≡ n). inl e) (λ (a : i ≡ n → ⊥). inr (omega arith)) (eq_or_ne i n)

-- the lowest is at most each, and at least what all are at least
pub lowest_below : (n : ℕ) (f : ℕ → ℕ) (i : ℕ) → i < n → lowest n f ≤ f i
unfolding lowest times
lowest_below zero f i h = absurd (omega arith)
lowest_below (suc n) f i h = ⊎_elim (λ (e : i ≡ n). rw e (omega arith)) (λ (l : i < n). let t : lowest n f ≤ f i = lowest_below n f i l in omega arith) (last_or_below i n h)

pub lowest_above : (n : ℕ) (f : ℕ → ℕ) (b : ℕ) → b ≤ end → ((i : ℕ) → i < n → b ≤ f i) → b ≤ lowest n f
unfolding lowest times
lowest_above zero f b top h = top
lowest_above (suc n) f b top h = let t : b ≤ lowest n f = lowest_above n f b top (λ i l. h i (omega arith)) in let u : b ≤ f n = h n (omega arith) in omega arith

pub lowest_end : (n : ℕ) (f : ℕ → ℕ) → lowest n f ≤ end
unfolding lowest times
lowest_end zero f = le_refl _
lowest_end (suc n) f = let t : lowest n f ≤ end = lowest_end n f in omega arith
