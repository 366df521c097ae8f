-- The listing holds of books: the model computes it, and the bridge carries it over.
-- Assumes nothing.
use Prim.Native.Nat.{ℕ}
use mathlib.Core.Path.{◌≡◌, sym, ◌∙◌, ap, ap₂}
use mathlib.Core.Bool.{Bool, not}
use mathlib.Core.List.{List, ◌∷◌, map}
use lib.Dec.{lit≤}
use lib.ListN.{length}
use borrow.Author.Tests.{eq-eqb}
use Rattle.loops.specs.Loops.{pick, every}
use Rattle.loops.proofs.BoolLaws.{pick_true}
use Rattle.book.specs.Layout.{book_words, stable}
use Rattle.fit.specs.Fit.{between, counts_fit}
use Rattle.register.specs.Calls.{set_up}
use Rattle.register.specs.Promises as promises
use Rattle.register.specs.Table as table
use Rattle.model.specs.Parts.{fresh}
use Rattle.paper.specs.Calls.{Call, Answer, done, first, answer_by}
use Rattle.model.specs.Cases as cases
use Rattle.model.proofs.Worked.{listing_holds, case_c_before, case_c_after}
use Rattle.model.specs.MoveCase.{case_move, case_move_answers}
use Rattle.model.proofs.MoveWorked.{there_and_back}
use Rattle.bridge.specs.View.{to_model}
use Rattle.upkeep.specs.Requests.{setup, call, number_at, done_answer, changed_by, reply_to, book_after, replies, last}
use Rattle.bridge.specs.Listing.{counts, homes, lines_to_b, lines, move_lines, Listed}
use Rattle.bridge.proofs.Agrees.{Agrees, stable_by}
use Rattle.bridge.proofs.Followed.{agrees_start, replies_model, last_model}

module _ (l : List ℕ) (full : length l ≡ book_words) where
  pub set : table.setup_number l counts homes ≡ 0
  unfolding table.setup_number first counts homes counts_fit between pick every
  set = ap (λ (b : Bool). pick (not b) 1 0) (eq-eqb (length l) book_words full)

  start : Agrees (to_model counts) (fresh homes) (set_up counts homes)
  start = agrees_start l counts homes set

  pub set_book : book_after l (setup counts homes) ≡ set_up counts homes
  unfolding book_after number_at changed_by promises.after
  set_book = pick_true _ _ (eq-eqb _ 0 set)

  set_reply : reply_to l (setup counts homes) ≡ done
  unfolding reply_to answer_by number_at done_answer pick
  set_reply = ap (λ (k : ℕ). answer_by k done) set

  listed_lines : replies l (setup counts homes ∷ map call cases.listing) ≡ done ∷ cases.listing_answers
  unfolding replies counts homes cases.counts cases.homes
  listed_lines =
      ap₂ (λ (x : Answer) (y : List Answer). x ∷ y) set_reply
      (ap (λ (b : List ℕ). replies b (map call cases.listing)) set_book
      ∙ replies_model (to_model counts) (fresh homes) (set_up counts homes) cases.listing start
      ∙ listing_holds)

  moved_lines : replies l (setup counts homes ∷ map call case_move) ≡ done ∷ case_move_answers
  unfolding replies counts homes cases.counts cases.homes
  moved_lines =
      ap₂ (λ (x : Answer) (y : List Answer). x ∷ y) set_reply
      (ap (λ (b : List ℕ). replies b (map call case_move)) set_book
      ∙ replies_model (to_model counts) (fresh homes) (set_up counts homes) case_move start
      ∙ there_and_back)

  stable_last : (calls : List Call) → stable (last l (setup counts homes ∷ map call calls)) 1 0 0 ≡ cases.stable_after calls
  unfolding last counts homes cases.counts cases.homes cases.stable_after
  stable_last calls =
      ap (λ (b : List ℕ). stable (last b (map call calls)) 1 0 0) set_book
      ∙ sym (stable_by (to_model counts) _ _ (last_model (to_model counts) (fresh homes) (set_up counts homes) calls start) 1 0 0 (lit≤ tt) (lit≤ tt) (lit≤ tt))

  pub listing_of_books : Listed l
  unfolding lines_to_b lines move_lines
  listing_of_books = record {
    answers = listed_lines;
    before = stable_last cases.listing_to_b ∙ case_c_before;
    after = stable_last cases.listing ∙ case_c_after;
    moved = moved_lines;
  }
