-- What showing does to a store and to the links: the store only rises, holds nothing but old versions and shown copies, and has each shown
-- copy or a greater one; a copy leaves its link exactly where it is shown.
-- Assumes nothing.
use Prim.Native.Nat.{ℕ, zero, suc, ◌<◌}
use native.Mathlib.Omega.{arith}
use mathlib.Core.Path.{◌≡◌, refl, sym, subst}
use mathlib.Core.Logic.{⊎_elim}
use mathlib.Core.Bool.{Bool, true, false}
use mathlib.Core.List.{List, [], ◌∷◌, Memᴰ}
use Rattle.loops.specs.Loops.{times, pick}
use Rattle.order.specs.Order.{above}
use Rattle.loops.proofs.BoolLaws.{failed, both_ways}
use Rattle.order.proofs.OrderLaws.{above_irrefl, above_trans, above_split}
use Rattle.model.specs.Parts.{Version, Write, rank, greater}
use Rattle.model.specs.Rules.{keeping, shown_of, left}
use Rattle.model.proofs.Places.{pick_all, put_all, put_same, last_or_below}

-- a is not above b, with n depots
pub record AtMost (n : ℕ) (a b : Version) : Type 0 where
  pub holds : above n (rank a) (rank b) ≡ false

pub at_most_refl : {n : ℕ} {a : Version} → AtMost n a a
at_most_refl {n} {a} = record { holds = above_irrefl n (rank a) }

pub at_most_trans : {n : ℕ} {a b c : Version} → AtMost n a b → AtMost n b c → AtMost n a c
at_most_trans {n} {a} {b} {c} p q = record { holds = failed _ (λ t. ⊎_elim (λ e. both_ways e p.holds) (λ e. both_ways e q.holds) (above_split n (rank a) (rank b) (rank c) t)) }

pub at_most_same : {n : ℕ} {a b : Version} → a ≡ b → AtMost n a b
at_most_same {n} {a} {b} e = subst (AtMost n a) e at_most_refl

module _ (n : ℕ) where
  pub greater_left : (a b : Version) → AtMost n a (greater n a b)
  unfolding greater
  greater_left a b = pick_all (AtMost n a) (above n (rank b) (rank a))
      (λ t. record { holds = failed _ (λ u. both_ways (above_trans n (rank a) (rank b) (rank a) u t) (above_irrefl n (rank a))) })
      (λ t. at_most_refl)

  pub greater_right : (a b : Version) → AtMost n b (greater n a b)
  unfolding greater
  greater_right a b = pick_all (AtMost n b) (above n (rank b) (rank a)) (λ t. at_most_refl) (λ t. record { holds = t })

  pub greater_all : (P : Version → Type 0) {a b : Version} → P a → P b → P (greater n a b)
  unfolding greater
  greater_all P p q = pick_all P _ (λ t. q) (λ t. p)

  pub keeping_rises : (w : Write) (store : ℕ → Version) (k : ℕ) → AtMost n (store k) (keeping n w store k)
  unfolding keeping
  keeping_rises w store = put_all (λ k v. AtMost n (store k) v) w.bearing (greater_left _ _) (λ k apart. at_most_refl)

  pub keeping_has : (w : Write) (store : ℕ → Version) → AtMost n w.version (keeping n w store w.bearing)
  unfolding keeping
  keeping_has w store = rw put_same (greater_right _ _)

  pub keeping_all : (Q : ℕ → Version → Type 0) (w : Write) (store : ℕ → Version) → ((k : ℕ) → Q k (store k)) → Q w.bearing w.version → (k : ℕ) → Q k (keeping n w store k)
  unfolding keeping
  keeping_all Q w store old new = put_all Q w.bearing (greater_all (Q w.bearing) (old _) new) (λ k apart. old k)

  module _ (test : Write → Bool) where
    -- the store after the first copy of a list
    abbrev next : Write → (ℕ → Version) → ℕ → Version
    next w store = pick (test w) (keeping n w store) store

    next_rises : (w : Write) (store : ℕ → Version) (k : ℕ) → AtMost n (store k) (next w store k)
    next_rises w store k = pick_all (λ (f : ℕ → Version). AtMost n (store k) (f k)) (test w) (λ t. keeping_rises w store k) (λ t. at_most_refl)

    pub shown_of_rises : (l : List Write) (store : ℕ → Version) (k : ℕ) → AtMost n (store k) (shown_of n test l store k)
    unfolding shown_of
    shown_of_rises [] store k = at_most_refl
    shown_of_rises (w ∷ l) store k = at_most_trans (next_rises w store k) (shown_of_rises l (next w store) k)

    pub shown_of_has : {w : Write} (l : List Write) (store : ℕ → Version) → Memᴰ w l → test w ≡ true → AtMost n w.version (shown_of n test l store w.bearing)
    unfolding shown_of
    shown_of_has {w} [] store m t = absurd (mathlib.Core.List.Memᴰ.not-nil m)
    shown_of_has {w} (v ∷ l) store m t = ⊎_elim
        (λ (e : w ≡ v). at_most_trans (pick_all (λ (f : ℕ → Version). AtMost n w.version (f w.bearing)) (test v)
        (λ u. subst (λ y. AtMost n w.version (keeping n y store w.bearing)) e (keeping_has w store))
        (λ u. absurd (both_ways t (subst (λ y. test y ≡ false) (sym e) u))))
        (shown_of_rises l (next v store) w.bearing))
        (λ (m : Memᴰ w l). shown_of_has l (next v store) m t)
        (mathlib.Core.List.Memᴰ.cases_cons m)

    pub shown_of_all : (Q : ℕ → Version → Type 0) (l : List Write) (store : ℕ → Version) → ((k : ℕ) → Q k (store k)) → ((w : Write) → Memᴰ w l → test w ≡ true → Q w.bearing w.version)
        → (k : ℕ) → Q k (shown_of n test l store k)
    unfolding shown_of
    shown_of_all Q [] store old new k = old k
    shown_of_all Q (w ∷ l) store old new k = shown_of_all Q l (next w store)
        (λ j. pick_all (λ (f : ℕ → Version). Q j (f j)) (test w) (λ t. keeping_all Q w store old (new w (mathlib.Core.List.Memᴰ.head refl) t) j) (λ t. old j))
        (λ v m t. new v (mathlib.Core.List.Memᴰ.tail m) t) k

    -- the same over the links of i depots
    abbrev links : (ℕ → List Write) → ℕ → (ℕ → Version) → ℕ → Version
    links taken i store = times i (λ o. shown_of n test (taken o)) store

    pub links_rises : (taken : ℕ → List Write) (i : ℕ) (store : ℕ → Version) (k : ℕ) → AtMost n (store k) (links taken i store k)
    unfolding times
    links_rises taken zero store k = at_most_refl
    links_rises taken (suc i) store k = at_most_trans (links_rises taken i store k) (shown_of_rises (taken i) (links taken i store) k)

    pub links_has : {w : Write} (taken : ℕ → List Write) (i : ℕ) (store : ℕ → Version) (o : ℕ) → o < i → Memᴰ w (taken o) → test w ≡ true → AtMost n w.version
        (links taken i store w.bearing)
    unfolding times
    links_has taken zero store o h m t = absurd (omega arith)
    links_has {w} taken (suc i) store o h m t = ⊎_elim
        (λ (e : o ≡ i). shown_of_has (taken i) _ (subst (λ y. Memᴰ w (taken y)) e m) t)
        (λ (l : o < i). at_most_trans (links_has taken i store o l m t) (shown_of_rises (taken i) _ w.bearing))
        (last_or_below o i h)

    pub links_all : (Q : ℕ → Version → Type 0) (taken : ℕ → List Write) (i : ℕ) (store : ℕ → Version) → ((k : ℕ) → Q k (store k))
        → ((o : ℕ) → o < i → (w : Write) → Memᴰ w (taken o) → test w ≡ true → Q w.bearing w.version) → (k : ℕ) → Q k (links taken i store k)
    unfolding times
    links_all Q taken zero store old new k = old k
    links_all Q taken (suc i) store old new k = shown_of_all Q (taken i) _ (links_all Q taken i store old (λ o l. new o (omega arith))) (new i (omega arith)) k

pub left_from : {w : Write} (test : Write → Bool) (l : List Write) → Memᴰ w (left test l) → Memᴰ w l × (test w ≡ false)
unfolding left
left_from test [] m = absurd (mathlib.Core.List.Memᴰ.not-nil m)
left_from {w} test (v ∷ l) m = pick_all (λ (f : List Write). Memᴰ w f → Memᴰ w (v ∷ l) × (test w ≡ false)) (test v)
    (λ t m. let r = left_from test l m in (mathlib.Core.List.Memᴰ.tail r.0, r.1))
    (λ t m. ⊎_elim (λ (e : w ≡ v). (mathlib.Core.List.Memᴰ.head e, subst (λ y. test y ≡ false) (sym e) t))
    (λ (m : Memᴰ w (left test l)). let r = left_from test l m in (mathlib.Core.List.Memᴰ.tail r.0, r.1)) (mathlib.Core.List.Memᴰ.cases_cons m))
    m

pub left_has : {w : Write} (test : Write → Bool) (l : List Write) → Memᴰ w l → test w ≡ false → Memᴰ w (left test l)
unfolding left
left_has test [] m t = absurd (mathlib.Core.List.Memᴰ.not-nil m)
left_has {w} test (v ∷ l) m t = pick_all (λ (f : List Write). Memᴰ w f) (test v)
    (λ u. ⊎_elim (λ (e : w ≡ v). absurd (both_ways u (subst (λ y. test y ≡ false) e t))) (λ (m : Memᴰ w l). left_has test l m t) (mathlib.Core.List.Memᴰ.cases_cons m))
    (λ u. ⊎_elim (λ (e : w ≡ v). mathlib.Core.List.Memᴰ.head e) (λ (m : Memᴰ w l). mathlib.Core.List.Memᴰ.tail (left_has test l m t)) (mathlib.Core.List.Memᴰ.cases_cons m))
