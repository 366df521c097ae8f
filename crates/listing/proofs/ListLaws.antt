-- The promise of a list settles its number, the book after it, and the words that it tells: by its outcome.
-- Assumes nothing.
use Prim.Native.Nat.{ℕ}
use native.Mathlib.Omega.{arith}
use mathlib.Core.Path.{◌≡◌, sym, ◌∙◌, ap, subst}
use mathlib.Core.List.{List, []}
use lib.ListN.{length}
use Rattle.std.specs.Prelude.{Result, Ok, Err, IfOk}
use borrow.Author.Tests.{le-leb}
use Rattle.loops.proofs.BoolLaws.{pick_true}
use Rattle.paper.specs.Calls.{list, Answer, number_in}
use Rattle.paper.specs.declared.answer.Refusal.{Refusal}
use Rattle.paper.specs.declared.answer.Page.{Page}
use Rattle.paper.specs.Answers.{paper_list, tellings, HoldsAll}
use Rattle.register.specs.Promises.{Listing}
use Rattle.upkeep.specs.Requests.{call, number_at, reply_to, book_after, did_list}
use Rattle.upkeep.proofs.NeverBadAnswer.{settled, reply_number}
use Rattle.room.specs.Room.{filled}
use Rattle.telling.specs.Told.{words_of}

nothing_filled : (out : List ℕ) → out ≡ filled [] out
unfolding filled
nothing_filled out = sym (pick_true _ _ (le-leb 0 (length out) (omega arith)))

module _ {l l' : List ℕ} {c : ℕ} {ks : List ℕ} {r : Result Page Refusal} (p : Listing l c ks r l') where
  replied : paper_list r ≡ reply_to l (call (list c ks))
  replied = (settled (did_list p)).0

  pub list_book_law : l' ≡ book_after l (call (list c ks))
  list_book_law = (settled (did_list p)).1

  module _ {x : Result Page Refusal} (e : r ≡ x) where
    said : paper_list x ≡ reply_to l (call (list c ks))
    said = ap paper_list (sym e) ∙ replied

    pub list_number_law : number_in (paper_list x) ≡ number_at l (call (list c ks))
    list_number_law = ap number_in said ∙ reply_number l (call (list c ks))

  -- what is told where it is done
  pub done_words : {x : Page} → r ≡ Ok x → (out : List ℕ) → filled x.words out ≡ filled (words_of (reply_to l (call (list c ks)))) out
  unfolding paper_list tellings words_of
  done_words e out =
      let holds = subst (λ (y : Result Page Refusal). IfOk y (λ a. HoldsAll (paper_list y) a)) e p.holds in
      ap (λ (w : List ℕ). filled w out) holds.words ∙ ap (λ (a : Answer). filled (words_of a) out) (said e)

  -- and nothing where it is refused
  pub refused_words : {x : Refusal} → r ≡ Err x → (out : List ℕ) → out ≡ filled (words_of (reply_to l (call (list c ks)))) out
  unfolding paper_list words_of
  refused_words e out = nothing_filled out ∙ ap (λ (a : Answer). filled (words_of a) out) (said e)
