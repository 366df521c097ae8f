-- The same of the answers: whatever satisfies the promises, request after request from a setup that was done, none of it is the answer BAD BOOK.
-- Assumes nothing.
use Prim.Native.Nat.{ℕ}
use mathlib.Core.Path.{◌≡◌, refl, sym, ◌∙◌, ap, subst}
use mathlib.Core.Logic.{⊎_elim}
use mathlib.Core.List.{List}
use mathlib.Core.Bool.{Bool, true, false}
use lib.Dec.{eqb}
use borrow.Author.Tests.{eqb-true, ne_eqb}
use Rattle.loops.specs.Loops.{pick}
use Rattle.loops.proofs.BoolLaws.{decided, pick_true, pick_false}
use Rattle.paper.specs.Calls.{read, write, tick, take, refresh, move, list, Answer, done, number_in, answer_by}
use Rattle.book.specs.declared.parts.Counts.{Counts}
use Rattle.fit.specs.Fit.{fit}
use Rattle.register.specs.Answers.{written}
use Rattle.register.specs.Promises.{after}
use Rattle.upkeep.specs.Requests.{Request, setup, call, number_at, done_answer, reply_to, changed_by}
use Rattle.upkeep.specs.Requests.{book_after, Called, setting_up, did_read, did_write, ticked, took, refreshed, moved, did_list, Lead, none, then}
use Rattle.upkeep.specs.Own.{Part, Fits}
use Rattle.upkeep.proofs.FitSetup.{setup_fit}
use Rattle.upkeep.proofs.FitOwn.{fit_parts, parts_fit_law, no_spread}
use Rattle.upkeep.proofs.NeverBadBook.{fit_number}

-- ---- a promise settles the reply and the book

pub settled : {l l' : List ℕ} {r : Request} {a : Answer} → Called l l' r a → (a ≡ reply_to l r) × (l' ≡ book_after l r)
unfolding reply_to book_after number_at done_answer changed_by
settled (setting_up p) = (p.answer, p.book)
settled (did_read p) = (p.answer, p.book)
settled (did_write p) = (p.answer, p.book)
settled (ticked p) = (p.answer, p.book)
settled (took p) = (p.answer, p.book)
settled (refreshed p) = (p.answer, p.book)
settled (moved p) = (p.answer, p.book)
settled (did_list p) = (p.answer, p.book)

-- a refused request moves not one word
pub refused_stays : (l : List ℕ) (r : Request) → (number_at l r ≡ 0 → ⊥) → book_after l r ≡ l
unfolding book_after after
refused_stays l r e = pick_false _ _ (ne_eqb _ 0 e)

-- ---- the number of an answer is the request's

written_done : (stamp : ℕ) (b : Bool) → number_in (written stamp b) ≡ 0
unfolding written pick number_in
written_done stamp true = refl
written_done stamp false = refl

done_number : (l : List ℕ) (r : Request) → number_in (done_answer l r) ≡ 0
unfolding done_answer number_in
done_number l (setup n homes) = refl
done_number l (call (read c k)) = refl
done_number l (call (write c k payload)) = written_done _ _
done_number l (call (tick d s)) = refl
done_number l (call (take d s from)) = refl
done_number l (call (refresh d s)) = refl
done_number l (call (move c d)) = refl
done_number l (call (list c ks)) = refl

pub reply_number : (l : List ℕ) (r : Request) → number_in (reply_to l r) ≡ number_at l r
unfolding reply_to answer_by number_in
reply_number l r =
    ⊎_elim
    (λ (z : eqb (number_at l r) 0 ≡ true). ap number_in (pick_true _ _ z) ∙ done_number l r ∙ sym (eqb-true _ 0 z))
    (λ (z : eqb (number_at l r) 0 ≡ false). ap number_in (pick_false _ _ z))
    (decided (eqb (number_at l r) 0))

-- ---- so no answer is BAD BOOK

-- a part that is fit stays fit through whatever satisfies the promises, and so does a fit book
pub lead_parts : {l v : List ℕ} → Lead l v → (p : Part) → Fits l p → Fits v p
lead_parts none p F = F
lead_parts (then {l} {m} {v} {r} c cs) p F = lead_parts cs p (subst (λ (w : List ℕ). Fits w p) (sym (settled c).1) (no_spread l r p F))

pub lead_fit : {l v : List ℕ} → Lead l v → fit l ≡ true → fit v ≡ true
lead_fit {l} {v} led F = parts_fit_law v λ p. lead_parts led p (fit_parts l F p)

pub called_good : {l m : List ℕ} {r : Request} {a : Answer} → Called l m r a → fit l ≡ true → number_in a ≡ 1 → ⊥
called_good {l} {m} {r} c F e = fit_number l F r (sym (reply_number l r) ∙ ap number_in (sym (settled c).0) ∙ e)

-- a setup that is answered with done has the number 0, and leaves a fit book
set_up_fit : {l₀ l : List ℕ} (n : Counts) (homes : List ℕ) → Called l₀ l (setup n homes) done → fit l ≡ true
unfolding number_at changed_by book_after after
set_up_fit {l₀} {l} n homes c =
    let zero : number_at l₀ (setup n homes) ≡ 0
    = sym (reply_number l₀ (setup n homes)) ∙ ap number_in (sym (settled c).0) ∙ (unfold number_in in refl) in
    subst (λ (v : List ℕ). fit v ≡ true) (sym ((settled c).1 ∙ pick_true _ _ (borrow.Author.Tests.eq-eqb _ 0 zero))) (setup_fit l₀ n homes zero)

-- from a setup that was done, after any requests, done or refused, later setups among them, no answer is BAD BOOK
pub never_bad_answer :
    {l₀ l : List ℕ} (n : Counts) (homes : List ℕ) → Called l₀ l (setup n homes) done → {m v : List ℕ} → Lead l m →
    {r : Request} {a : Answer} → Called m v r a → number_in a ≡ 1 → ⊥
never_bad_answer n homes p led c = called_good c (lead_fit led (set_up_fit n homes p))
