-- What is left to show of each request: its number is the same for both books, and where it is done so is its answer, and the changed books agree on the set
-- and on what it writes; and where it is done, what it does not write stays.
-- Assumes nothing.
use Prim.Native.Nat.{ℕ}
use mathlib.Core.Path.{◌≡◌, refl, sym, ◌∙◌, ap}
use mathlib.Core.Logic.{◌⊎◌, inl, inr}
use mathlib.Core.List.{List}
use lib.Dec.{eqb}
use lib.ListN.{length, get_or}
use borrow.Author.Tests.{eqb-true, eq-eqb}
use Rattle.loops.proofs.BoolLaws.{pick_true}
use Rattle.shelf.proofs.FrameLaws.{pick_cases}
use Rattle.paper.specs.Calls.{Answer, refused, answer_by}
use Rattle.register.specs.Promises.{after}
use Rattle.upkeep.specs.Requests.{Request, number_at, done_answer, reply_to, changed_by, book_after}
use Rattle.upkeep.specs.Local.{Agree, Changed, Written, Alike}
use Rattle.upkeep.proofs.LocalBasics.{pick_alike}

done_book : (l : List ℕ) (r : Request) → number_at l r ≡ 0 → book_after l r ≡ changed_by l r
unfolding book_after after
done_book l r z = pick_true _ _ (eq-eqb _ 0 z)

pub alike_by :
    (S : ℕ → Type 0) (l m : List ℕ) (r : Request) → number_at l r ≡ number_at m r → (number_at l r ≡ 0 → done_answer l r ≡ done_answer m r) →
    (number_at l r ≡ 0 → Agree (λ (j : ℕ). S j ⊎ Changed l r j) (changed_by l r) (changed_by m r)) → Agree S l m → Alike S l m r
alike_by S l m r e answers D A = record { number = e; reply = reply; book = book; written = written }
  where
    reply : reply_to l r ≡ reply_to m r
    reply =
        unfold reply_to answer_by in
        pick_alike (λ (a b : Answer). a ≡ b) (ap (λ (k : ℕ). eqb k 0) e) (λ z. answers (eqb-true _ 0 z)) λ z. ap refused e

    book : Agree S (book_after l r) (book_after m r)
    book =
        unfold book_after after in
        pick_alike (Agree S) (ap (λ (k : ℕ). eqb k 0) e)
        (λ z. let B = D (eqb-true _ 0 z) in record { size = B.size; words = λ j k. B.words j (inl k) }) λ z. A

    written : (j : ℕ) → Written l r j → get_or (book_after l r) j 0 ≡ get_or (book_after m r) j 0
    written j w =
        ap (λ (v : List ℕ). get_or v j 0) (done_book l r w.done)
        ∙ (D w.done).words j (inr w.word)
        ∙ sym (ap (λ (v : List ℕ). get_or v j 0) (done_book m r (sym e ∙ w.done)))

pub stays_by :
    (l : List ℕ) (r : Request) (j : ℕ) → (number_at l r ≡ 0 → (Changed l r j → ⊥) → get_or (changed_by l r) j 0 ≡ get_or l j 0) → (Written l r j → ⊥) →
    get_or (book_after l r) j 0 ≡ get_or l j 0
unfolding book_after after
stays_by l r j h out =
    pick_cases (λ (v : List ℕ). get_or v j 0 ≡ get_or l j 0) _ _ l
    (λ z. let d = eqb-true (number_at l r) 0 z in h d (λ w. out (record { done = d; word = w }))) λ z. refl

pub size_by : (l : List ℕ) (r : Request) → (number_at l r ≡ 0 → length (changed_by l r) ≡ length l) → length (book_after l r) ≡ length l
unfolding book_after after
size_by l r h = pick_cases (λ (v : List ℕ). length v ≡ length l) _ _ l (λ z. h (eqb-true (number_at l r) 0 z)) λ z. refl
