-- What holds of every thing in a list: joining, listing, leaving out, and what it gives the showing of records.
-- Assumes nothing.
use Prim.Native.Nat.{ℕ, zero, suc, ◌+◌, ◌<◌}
use native.Mathlib.Nat.{le_refl, le_step}
use native.Mathlib.Omega.{arith}
use mathlib.Core.Path.{◌≡◌, sym, subst}
use mathlib.Core.Logic.{⊎_elim}
use mathlib.Core.List.{List, [], ◌∷◌, ◌++◌}
use mathlib.Core.Bool.{Bool, true, false}
use Rattle.loops.specs.Loops.{pick}
use lib.Dec.{eqb}
use borrow.Author.Tests.{eqb-true}
use Rattle.order.specs.Order.{above}
use Rattle.order.specs.Record.{bearing_of, rank_of}
use Rattle.loops.proofs.BoolLaws.{eq_or_ne}
use Rattle.book.specs.Layout.{slot, record_of}
use Rattle.shelf.proofs.FrameLaws.{pick_cases}
use Rattle.shelf.proofs.SlotLaws.{listed, slots}
use Rattle.shelf.proofs.SweepLaws.{staying, record_kept, records_shown, record_kept_same}

-- P holds of everything in the list
unfoldable pub AllOf : {A : Type 0} → (A → Type 0) → List A → Type 0
AllOf P [] = Unit
AllOf P (x ∷ l) = P x × AllOf P l

module _ {A : Type 0} (P : A → Type 0) where
  pub all_none : AllOf P []
  unfolding AllOf
  all_none = tt

  pub all_one : (x : A) → P x → AllOf P (x ∷ [])
  unfolding AllOf
  all_one x h = (h, tt)

  pub all_first : (x : A) (l : List A) → AllOf P (x ∷ l) → P x
  unfolding AllOf
  all_first x l h = h.0

  pub all_rest : (x : A) (l : List A) → AllOf P (x ∷ l) → AllOf P l
  unfolding AllOf
  all_rest x l h = h.1

  pub all_append : (a b : List A) → AllOf P a → AllOf P b → AllOf P (a ++ b)
  unfolding AllOf
  all_append [] b h k = k
  all_append (x ∷ a) b h k = (h.0, all_append a b h.1 k)

  pub all_left : (a b : List A) → AllOf P (a ++ b) → AllOf P a
  unfolding AllOf
  all_left [] b h = tt
  all_left (x ∷ a) b h = (h.0, all_left a b h.1)

  pub all_right : (a b : List A) → AllOf P (a ++ b) → AllOf P b
  unfolding AllOf
  all_right [] b h = h
  all_right (x ∷ a) b h = all_right a b h.1

  pub all_listed : (n : ℕ) (f : ℕ → A) → ((i : ℕ) → i < n → P (f i)) → AllOf P (listed n f)
  unfolding listed
  all_listed zero f h = all_none
  all_listed (suc n) f h = all_append (listed n f) (f n ∷ []) (all_listed n f (λ i k. h i (le_step k))) (all_one (f n) (h n (le_refl _)))

  pub all_listed_at : (n : ℕ) (f : ℕ → A) → AllOf P (listed n f) → (i : ℕ) → i < n → P (f i)
  unfolding listed
  all_listed_at zero f h i k = absurd (omega arith)
  all_listed_at (suc n) f h i k =
      ⊎_elim
      (λ (e : i ≡ n). rw e (all_first (f n) [] (all_right (listed n f) (f n ∷ []) h)))
      (λ (e : i ≡ n → ⊥). all_listed_at n f (all_left (listed n f) (f n ∷ []) h) i (omega arith))
      (eq_or_ne i n)

  pub all_staying : (test : A → Bool) (l : List A) → AllOf P l → AllOf P (staying test l)
  unfolding staying AllOf
  all_staying test [] h = tt
  all_staying test (x ∷ l) h = pick_cases (AllOf P) (test x) _ _ (λ e. all_staying test l h.1) λ e. (h.0, all_staying test l h.1)

pub all_map : {A : Type 0} (P Q : A → Type 0) → ((x : A) → P x → Q x) → (l : List A) → AllOf P l → AllOf Q l
unfolding AllOf
all_map P Q f [] h = tt
all_map P Q f (x ∷ l) h = (f x h.0, all_map P Q f l h.1)

pub all_slots : (P : List ℕ → Type 0) (l : List ℕ) (q a n : ℕ) → ((i : ℕ) → i < n → P (slot l q (a + i))) → AllOf P (slots l q a n)
unfolding slots
all_slots P l q a n h = all_listed P n _ h

pub all_slots_at : (P : List ℕ → Type 0) (l : List ℕ) (q a n : ℕ) → AllOf P (slots l q a n) → (i : ℕ) → i < n → P (slot l q (a + i))
unfolding slots
all_slots_at P l q a n h = all_listed_at P n _ h

-- every message of the list is of a bearing that has a place
abbrev pub Lows : List (List ℕ) → Type 0
Lows = AllOf (λ m. bearing_of (record_of m) < 160)

-- records that agree in the places that there are, agree after a showing
pub records_shown_same :
    (n : ℕ) (test : List ℕ → Bool) (l : List (List ℕ)) → Lows l → (st su : ℕ → List ℕ) → ((k : ℕ) → k < 160 → st k ≡ su k) → (k : ℕ) → k < 160 →
    records_shown n test l st k ≡ records_shown n test l su k
unfolding records_shown AllOf
records_shown_same n test [] low st su h k z = h k z
records_shown_same n test (m ∷ l) low st su h k z = records_shown_same n test l low.1 _ _ (step (test m)) k z
  where
    step : (b : Bool) (j : ℕ) → j < 160 → pick b (record_kept n (record_of m) st) st j ≡ pick b (record_kept n (record_of m) su) su j
    step true j y = unfold pick in record_kept_same n (record_of m) st su low.0 h j y
    step false j y = unfold pick in h j y

-- what holds of each record there is, and of each record shown at its bearing, holds after the showing
pub record_kept_all :
    (Q : ℕ → List ℕ → Type 0) (n : ℕ) (r : List ℕ) (st : ℕ → List ℕ) → Q (bearing_of r) r → ((k : ℕ) → Q k (st k)) → (k : ℕ) → Q k (record_kept n r st k)
unfolding record_kept
record_kept_all Q n r st own h k =
    pick_cases (Q k) (eqb k (bearing_of r)) _ _
    (λ e. subst (λ (j : ℕ). Q j (pick (above n (rank_of r) (rank_of (st (bearing_of r)))) r (st (bearing_of r)))) (sym (eqb-true k (bearing_of r) e))
    (pick_cases (Q (bearing_of r)) _ r (st (bearing_of r)) (λ f. own) λ f. h (bearing_of r)))
    λ e. h k

pub records_shown_all :
    (Q : ℕ → List ℕ → Type 0) (n : ℕ) (test : List ℕ → Bool) (l : List (List ℕ)) → AllOf (λ m. Q (bearing_of (record_of m)) (record_of m)) l → (st : ℕ → List ℕ) →
    ((k : ℕ) → Q k (st k)) → (k : ℕ) → Q k (records_shown n test l st k)
unfolding records_shown AllOf
records_shown_all Q n test [] all st h k = h k
records_shown_all Q n test (m ∷ l) all st h k =
    records_shown_all Q n test l all.1 _
    (pick_cases (λ (f : ℕ → List ℕ). (j : ℕ) → Q j (f j)) (test m) _ st (λ e. record_kept_all Q n (record_of m) st all.0 h) λ e. h) k
