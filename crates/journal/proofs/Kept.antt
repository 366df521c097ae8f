-- A call that is done with its record is kept: the journal with the record behind it recovers as the book after the call. A refused one leaves nothing.
-- Assumes nothing.
use Prim.Native.Nat.{ℕ, ◌+◌, ◌≤◌}
use native.Mathlib.Omega.{arith}
use mathlib.Core.Path.{◌≡◌, sym, ◌∙◌, ap, ap₂}
use mathlib.Core.Logic.{⊎_elim}
use mathlib.Core.Bool.{true, false}
use mathlib.Core.List.{List, [], ◌++◌, append-nil}
use lib.Dec.{ltb}
use lib.ListN.{length, take}
use lib.Seq.{sets-eq, take-append_seam}
use borrow.Author.Tests.{eq-eqb, ne_eqb, ltb-false}
use Rattle.loops.proofs.BoolLaws.{decided, pick_true, pick_false}
use Rattle.book.specs.Words.{put}
use Rattle.upkeep.specs.Requests.{Request, number_at, book_after, last}
use Rattle.upkeep.proofs.NeverBadAnswer.{refused_stays}
use Rattle.wire.specs.Wire.{word_limit, Below}
use Rattle.journal.specs.Record.{numbers_of, record_bytes}
use Rattle.journal.specs.Journal.{journal, Done, within, start, replay}
use Rattle.journal.specs.Recording.{recorded_number, recorded_book, recorded_in, recorded_size}
use Rattle.journal.proofs.ByRecord.{by_none}
use Rattle.journal.proofs.Theorems.{recovers_then, record_done}

-- refused, by its own number or for want of room: book and buffer are as they were, and no byte is told
pub refused_nothing :
    (l : List ℕ) (r : Request) (o : List ℕ) → (recorded_number l r (length o) ≡ 0 → ⊥) →
    (recorded_book l r (length o) ≡ l) × (recorded_in l r o ≡ o) × (recorded_size l r (length o) ≡ 0)
unfolding recorded_number recorded_book recorded_in recorded_size
refused_nothing l r o h = (
  ⊎_elim
      (λ (t : ltb (length o) (length (record_bytes r)) ≡ true). pick_true _ _ t)
      (λ (t : ltb (length o) (length (record_bytes r)) ≡ false). pick_false _ _ t ∙ refused_stays l r (λ z. h (pick_false _ _ t ∙ z)))
      (decided (ltb (length o) (length (record_bytes r)))),
  pick_false _ _ (ne_eqb _ _ h),
  pick_false _ _ (ne_eqb _ _ h),
)

-- done: there was room, and the request is done
module _ (l : List ℕ) (r : Request) (room : ℕ) (z : recorded_number l r room ≡ 0) where
  had_room : ltb room (length (record_bytes r)) ≡ false
  unfolding recorded_number
  had_room =
      ⊎_elim
      (λ (t : ltb room (length (record_bytes r)) ≡ true). let e : ◌≡◌ {A = ℕ} 100 0 = sym (pick_true _ _ t) ∙ z in absurd (omega arith))
      (λ (t : ltb room (length (record_bytes r)) ≡ false). t)
      (decided (ltb room (length (record_bytes r))))

  was_done : number_at l r ≡ 0
  unfolding recorded_number
  was_done = sym (pick_false _ _ had_room) ∙ z

  book_done : recorded_book l r room ≡ book_after l r
  unfolding recorded_book
  book_done = pick_false _ _ had_room

-- the bytes told are the record
pub told_record : (l : List ℕ) (r : Request) (o : List ℕ) → recorded_number l r (length o) ≡ 0 → take (recorded_size l r (length o)) (recorded_in l r o) ≡ record_bytes r
unfolding recorded_in recorded_size put
told_record l r o z =
    let fits : length (record_bytes r) ≤ length o = ltb-false _ _ (had_room l r (length o) z) in
    ap₂ (λ (n : ℕ) (f : List ℕ). take n f) (pick_true _ _ (eq-eqb _ _ z)) (pick_true _ _ (eq-eqb _ _ z) ∙ sets-eq (record_bytes r) o 0 (omega arith))
    ∙ take-append_seam (record_bytes r) _

-- a journal of a history, and the record of one call more behind it
pub kept :
    {l : List ℕ} {rs : List Request} → Done l rs → (r : Request) (o : List ℕ) → Below word_limit (numbers_of r) → recorded_number (last l rs) r (length o) ≡ 0 →
    replay (start l) (journal rs ++ take (recorded_size (last l rs) r (length o)) (recorded_in (last l rs) r o))
    ≡ within (recorded_book (last l rs) r (length o)) (length rs + 1) (length (journal rs) + recorded_size (last l rs) r (length o)) []
unfolding recorded_size
kept {l} {rs} d r o b z =
    let m : List ℕ = last l rs in
    ap (λ (f : List ℕ). replay (start l) (journal rs ++ f)) (told_record m r o z ∙ sym (append-nil (record_bytes r)))
    ∙ recovers_then d (record_bytes r ++ [])
    ∙ record_done m (length rs) (length (journal rs)) r b [] (was_done m r (length o) z)
    ∙ by_none _ _ _
    ∙ ap₂ (λ (x : List ℕ) (n : ℕ). within x (length rs + 1) (length (journal rs) + n) []) (sym (book_done m r (length o) z)) (sym (pick_true _ _ (eq-eqb _ _ z)))
