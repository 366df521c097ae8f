-- A call put together: the number, the answer on paper and the book after it, from what is done where the number is 0.
-- Assumes nothing.
use Prim.Native.Nat.{ℕ, ◌<◌}
use native.Mathlib.Omega.{arith}
use mathlib.Core.Path.{◌≡◌, sym, ◌∙◌, ap, subst}
use mathlib.Core.Bool.{true}
use mathlib.Core.List.{List}
use lib.Dec.{eqb}
use lib.ListN.{get_or}
use borrow.Author.Tests.{eqb-true}
use Rattle.loops.specs.Loops.{pick}
use Rattle.fit.specs.Fit.{fit}
use Rattle.shelf.proofs.FrameLaws.{pick_cases}
use Rattle.register.specs.Promises.{after}
use Rattle.model.specs.Parts.{Counts}
use Rattle.paper.specs.Calls.{Call, Answer, done, refused, answer_by}
use Rattle.model.specs.Calls.{refusal, acted, step}
use Rattle.bridge.specs.View.{counts_in, view_by, view}
use Rattle.bridge.specs.Bridged.{Bridged}
use Rattle.bridge.proofs.Basics.{pick_then, pick_ap, pick_same}
use Rattle.bridge.proofs.Numbers.{step_answer, step_state}

pub counts_same : (l m : List ℕ) → ((j : ℕ) → j < 4 → get_or m j 0 ≡ get_or l j 0) → counts_in m ≡ counts_in l
counts_same l m h = λ i. record { depots = h 0 (omega arith) i; shelves = h 1 (omega arith) i; bearings = h 2 (omega arith) i; crews = h 3 (omega arith) i }

pub view_by_law : (l m : List ℕ) → counts_in m ≡ counts_in l → view m ≡ view_by (counts_in l) m
unfolding view
view_by_law l m e = ap (λ (π : Counts). view_by π m) e

-- what a call does where it is done
pub record Does (l : List ℕ) (q : Call) (changed : List ℕ) : Type 0 where
  pub leaves : view changed ≡ (acted (counts_in l) (view l) q).state
  pub counts : counts_in changed ≡ counts_in l
  pub fits : fit changed ≡ true

module _ (l : List ℕ) (F : fit l ≡ true) (q : Call) (number : ℕ) (agrees : number ≡ refusal (counts_in l) (view l) q) (changed : List ℕ) (does : number ≡ 0 → Does l q changed) where
  book_after_law : (l' : List ℕ) → l' ≡ after number changed l → (view l' ≡ (step (counts_in l) (view l) q).state) × (counts_in l' ≡ counts_in l) × (fit l' ≡ true)
  unfolding after
  book_after_law l' e = (
    ap view e ∙ pick_ap view (eqb number 0) changed l ∙ pick_then (eqb number 0) (view l) (λ t. (does (eqb-true number 0 t)).leaves)
        ∙ ap (λ (k : ℕ). pick (eqb k 0) (acted (counts_in l) (view l) q).state (view l)) agrees
        ∙ sym (step_state (counts_in l) (view l) q),
    ap counts_in e ∙ pick_ap counts_in (eqb number 0) changed l ∙ pick_then (eqb number 0) (counts_in l) (λ t. (does (eqb-true number 0 t)).counts) ∙ pick_same (eqb number 0) (counts_in l),
    subst (λ (m : List ℕ). fit m ≡ true) (sym e) (pick_cases (λ (m : List ℕ). fit m ≡ true) (eqb number 0) changed l (λ t. (does (eqb-true number 0 t)).fits) λ t. F),
  )

  -- an answer that is a where the call is done, else the refusal with its number
  pub bridged : (r a : Answer) (l' : List ℕ) → r ≡ answer_by number a → (number ≡ 0 → a ≡ (acted (counts_in l) (view l) q).answer) → l' ≡ after number changed l
      → Bridged l q r l'
  unfolding answer_by
  bridged r a l' answer tells book =
      let b = book_after_law l' book in
      record {
        answers = answer ∙ pick_then (eqb number 0) (refused number) (λ t. tells (eqb-true number 0 t))
            ∙ ap (λ (k : ℕ). answer_by k (acted (counts_in l) (view l) q).answer) agrees
            ∙ sym (step_answer (counts_in l) (view l) q);
        leaves = b.0;
        counts = b.1;
        fits = b.2;
      }

  -- the calls that answer done
  pub bridged_done : (acted (counts_in l) (view l) q).answer ≡ done → (r : Answer) (l' : List ℕ) → r ≡ answer_by number done → l' ≡ after number changed l → Bridged l q r l'
  bridged_done e r l' answer book = bridged r done l' answer (λ z. sym e) book
