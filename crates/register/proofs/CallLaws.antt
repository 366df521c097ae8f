-- From the number of a call to its answer on paper and its book: what a refusal and a done call come to, and what the shared checks tell.
-- Assumes nothing.
use Prim.Native.Nat.{ℕ}
use mathlib.Core.Path.{◌≡◌, refl, sym, ◌∙◌, ap, subst}
use mathlib.Core.List.{List}
use mathlib.Core.Bool.{false}
use lib.Dec.{eqb}
use borrow.Author.Tests.{eq-eqb}
use Rattle.std.specs.Prelude.{Result, Ok, Err}
use Rattle.loops.proofs.BoolLaws.{pick_true, pick_false}
use Rattle.paper.specs.Calls.{Answer, refused, answer_by}
use Rattle.paper.specs.declared.answer.Refusal.{Refusal}
use Rattle.paper.specs.declared.answer.Refusal.TheVariants.{BadBook, BadDepot, BadShelf, BadKey, BadCrew, SameDepot, EmptyLink, Wait, LinkFull, ClockAtEnd, BadCounts, NotHereYet, BadDate, BadCard, BadList}
use Rattle.book.specs.Numbers.{Depot, Shelf, Bearing, Crew}
use Rattle.paper.specs.Answers.{number_of}
use Rattle.register.specs.Checks.{PlaceChecked, AskChecked, LinkChecked}
use Rattle.register.specs.Promises.{after}

-- ---- a refusal, and done

-- no refusal has the number of what is done
pub refusal_counts : (r : Refusal) → eqb (number_of r) 0 ≡ false
unfolding number_of
refusal_counts BadBook = refl
refusal_counts BadDepot = refl
refusal_counts BadShelf = refl
refusal_counts BadKey = refl
refusal_counts BadCrew = refl
refusal_counts SameDepot = refl
refusal_counts EmptyLink = refl
refusal_counts Wait = refl
refusal_counts LinkFull = refl
refusal_counts ClockAtEnd = refl
refusal_counts BadCounts = refl
refusal_counts NotHereYet = refl
refusal_counts BadDate = refl
refusal_counts BadCard = refl
refusal_counts BadList = refl

pub not_done : {n : ℕ} (r : Refusal) → n ≡ number_of r → eqb n 0 ≡ false
not_done r e = ap (λ (x : ℕ). eqb x 0) e ∙ refusal_counts r

-- refused, with this number
pub by_refusal : {n : ℕ} (r : Refusal) (a : Answer) → n ≡ number_of r → refused (number_of r) ≡ answer_by n a
unfolding answer_by
by_refusal r a e = ap refused (sym e) ∙ sym (pick_false _ _ (not_done r e))

pub by_done : {n : ℕ} {a : Answer} → n ≡ 0 → a ≡ answer_by n a
unfolding answer_by
by_done {n} e = sym (pick_true _ _ (eq-eqb n 0 e))

pub after_refused : {n : ℕ} (r : Refusal) (changed l : List ℕ) → n ≡ number_of r → l ≡ after n changed l
unfolding after
after_refused r changed l e = sym (pick_false _ _ (not_done r e))

pub after_done : {n : ℕ} (changed l : List ℕ) → n ≡ 0 → changed ≡ after n changed l
unfolding after
after_done {n} changed l e = sym (pick_true _ _ (eq-eqb n 0 e))

-- ---- what the shared checks tell

pub bad_place : (n d s : ℕ) {x : Result (Depot × Shelf) Refusal} (r : Refusal) → PlaceChecked n d s x → x ≡ Err r → n ≡ number_of r
unfolding PlaceChecked
bad_place n d s r p q = subst (PlaceChecked n d s) q p

pub good_place :
    (n d s : ℕ) {x : Result (Depot × Shelf) Refusal} (a : Depot) (b : Shelf) → PlaceChecked n d s x → x ≡ Ok (a, b) → (n ≡ 0) × (record { 0 = d } ≡ a) × (record { 0 = s } ≡ b)
unfolding PlaceChecked
good_place n d s a b p q = subst (PlaceChecked n d s) q p

pub bad_asked : (n c k : ℕ) {x : Result (Crew × Bearing) Refusal} (r : Refusal) → AskChecked n c k x → x ≡ Err r → n ≡ number_of r
unfolding AskChecked
bad_asked n c k r p q = subst (AskChecked n c k) q p

pub good_asked :
    (n c k : ℕ) {x : Result (Crew × Bearing) Refusal} (a : Crew) (b : Bearing) → AskChecked n c k x → x ≡ Ok (a, b) → (n ≡ 0) × (record { 0 = c } ≡ a) × (record { 0 = k } ≡ b)
unfolding AskChecked
good_asked n c k a b p q = subst (AskChecked n c k) q p

pub bad_link : (n d s o : ℕ) {x : Result (Depot × Shelf × Depot) Refusal} (r : Refusal) → LinkChecked n d s o x → x ≡ Err r → n ≡ number_of r
unfolding LinkChecked
bad_link n d s o r p q = subst (LinkChecked n d s o) q p

pub good_link :
    (n d s o : ℕ) {x : Result (Depot × Shelf × Depot) Refusal} (a : Depot) (b : Shelf) (e : Depot) → LinkChecked n d s o x → x ≡ Ok (a, b, e) →
    (n ≡ 0) × (record { 0 = d } ≡ a) × (record { 0 = s } ≡ b) × (record { 0 = o } ≡ e)
unfolding LinkChecked
good_link n d s o a b e p q = subst (LinkChecked n d s o) q p
