-- The record of a line: it has its room, and it is the journal of what the line got done, which leaves the line's book. Journals of histories join.
-- Assumes nothing.
use Prim.Native.Nat.{ℕ, ◌+◌, ◌≤◌}
use native.Mathlib.Omega.{arith}
use mathlib.Core.Path.{◌≡◌, refl, sym, ◌∙◌, ap, subst}
use mathlib.Core.Logic.{⊎_elim}
use mathlib.Core.Bool.{true, false}
use mathlib.Core.List.{List, [], ◌∷◌, ◌++◌, append-nil, append_assoc}
use lib.Dec.{eqb, leb, lit<}
use lib.ListN.{length}
use borrow.Author.Tests.{eqb-true, eqb-false, leb-true}
use Rattle.loops.proofs.BoolLaws.{decided, and_left, and_right, pick_true, pick_false}
use Rattle.book.specs.Words.{put}
use Rattle.upkeep.specs.Requests.{Request, number_at, book_after, last}
use Rattle.upkeep.proofs.NeverBadAnswer.{refused_stays}
use Rattle.wire.specs.Wire.{word_limit, Below}
use Rattle.wire.proofs.WireLaws.{below_none, below_more}
use Rattle.numbers.proofs.NumberLaws.{below_drop}
use Rattle.journal.specs.Record.{numbers_of, record_bytes}
use Rattle.journal.specs.Journal.{journal, Done, none, more}
use Rattle.journal.proofs.RecordLaws.{record_few}
use Rattle.request.specs.Requests.{request_in, own_numbers, beside_in}
use Rattle.request.specs.declared.ask.Event.{Event}
use Rattle.request.specs.declared.ask.Event.TheVariants as event
use Rattle.calls.specs.Performed.{request_of}
use Rattle.line.specs.Grammar.{word_sized}
use Rattle.line.specs.Reading.{Reading, bad, good, reading}
use Rattle.line.specs.Printing.{Wrote}
use Rattle.line.proofs.PrintLaws.{wrote_same}
use Rattle.line.proofs.Theorems.{read_says}
use Rattle.recorder.specs.Promises.{record_of}
use Rattle.events.specs.Answering as answering
use Rattle.events.specs.Answering.{event_book, event_done, reading_book, reading_done, done_by, record_to, record_room}

-- ---- what an event got done: one record, or none

module _ (l : List ℕ) (e : Event) (ns : List ℕ) where
  event_record : record_of l (request_of e ns) ≡ journal (event_done l e ns)
  unfolding record_of event_done journal
  event_record =
      ⊎_elim
      (λ (t : eqb (number_at l (request_of e ns)) 0 ≡ true). pick_true _ _ t ∙ sym (append-nil _) ∙ sym (ap journal (pick_true _ _ t)))
      (λ (t : eqb (number_at l (request_of e ns)) 0 ≡ false). pick_false _ _ t ∙ sym (ap journal (pick_false _ _ t)))
      (decided (eqb (number_at l (request_of e ns)) 0))

  event_room : length (record_of l (request_of e ns)) ≤ record_room
  unfolding record_of
  event_room =
      ⊎_elim
      (λ (t : eqb (number_at l (request_of e ns)) 0 ≡ true).
      subst (λ (x : List ℕ). length x ≤ record_room) (sym (pick_true _ _ t)) (record_few l (request_of e ns) (eqb-true _ _ t)))
      (λ (t : eqb (number_at l (request_of e ns)) 0 ≡ false). subst (λ (x : List ℕ). length x ≤ record_room) (sym (pick_false _ _ t)) (omega arith))
      (decided (eqb (number_at l (request_of e ns)) 0))

-- where the request q is what the event asks, a record has room, and stands written
module _ (l : List ℕ) (e : Event) (ns : List ℕ) {q : Request} (p : q ≡ request_of e ns) where
  pub asked_few : length (record_of l q) ≤ record_room
  asked_few = subst (λ (r : Request). length (record_of l r) ≤ record_room) (sym p) (event_room l e ns)

  pub asked_wrote : {o o' : List ℕ} {at size : ℕ} → o' ≡ put o at (record_of l q) → size ≡ length (record_of l q) → Wrote o at (journal (event_done l e ns)) o' (at + size)
  unfolding put
  asked_wrote {at = at} stored size =
      wrote_same (ap (record_of l) p ∙ event_record l e ns) (record { stored = stored; after = ap (λ (n : ℕ). at + n) size })

reading_room : (l : List ℕ) (r : Reading) → length (journal (reading_done l r)) ≤ record_room
unfolding reading_done journal
reading_room l bad = omega arith
reading_room l (good e ns) = subst (λ (x : List ℕ). length x ≤ record_room) (event_record l e ns) (event_room l e ns)

-- no record of a line is longer than its room
pub record_length : (l s : List ℕ) → length (record_to l s) ≤ record_room
unfolding record_to done_by
record_length l s = reading_room l (reading s)

-- ---- the numbers that a line can say are words

sized_words : (ns : List ℕ) → word_sized ns ≡ true → Below word_limit ns
unfolding word_sized
sized_words [] h = below_none word_limit (lit< tt)
sized_words (n ∷ ns) h = below_more _ _ _ (let k = leb-true n 4294967295 (and_left (leb n 4294967295) (word_sized ns) h) in omega arith) (sized_words ns (and_right (leb n 4294967295) (word_sized ns) h))

-- and so are those of what it asks
asked_words : (e : Event) (ns : List ℕ) → Below word_limit ns → Below word_limit (numbers_of (request_of e ns))
unfolding request_of request_in beside_in own_numbers numbers_of
asked_words event.Setup ns h = below_more _ _ _ (h.at 0) (below_more _ _ _ (h.at 1) (below_more _ _ _ (h.at 2) (below_more _ _ _ (h.at 3) (below_drop word_limit 4 ns h))))
asked_words event.Read ns h = below_more _ _ _ (h.at 0) (below_more _ _ _ (h.at 1) (below_none word_limit (lit< tt)))
asked_words event.Write ns h =
    below_more _ _ _ (h.at 0)
    (below_more _ _ _ (h.at 1) (below_more _ _ _ (h.at 2) (below_more _ _ _ (h.at 3) (below_more _ _ _ (h.at 4) (below_none word_limit (lit< tt))))))
asked_words event.Tick ns h = below_more _ _ _ (h.at 0) (below_more _ _ _ (h.at 1) (below_none word_limit (lit< tt)))
asked_words event.Take ns h = below_more _ _ _ (h.at 0) (below_more _ _ _ (h.at 1) (below_more _ _ _ (h.at 2) (below_none word_limit (lit< tt))))
asked_words event.Refresh ns h = below_more _ _ _ (h.at 0) (below_more _ _ _ (h.at 1) (below_none word_limit (lit< tt)))
asked_words event.List ns h = below_more _ _ _ (h.at 0) (below_drop word_limit 1 ns h)

-- ---- journals of histories join

pub last_append : (l : List ℕ) (rs ss : List Request) → last l (rs ++ ss) ≡ last (last l rs) ss
unfolding last
last_append l [] ss = refl
last_append l (r ∷ rs) ss = last_append (book_after l r) rs ss

pub journal_append : (rs ss : List Request) → journal (rs ++ ss) ≡ journal rs ++ journal ss
unfolding journal
journal_append [] ss = refl
journal_append (r ∷ rs) ss = ap (λ (x : List ℕ). record_bytes r ++ x) (journal_append rs ss) ∙ sym (append_assoc (record_bytes r) (journal rs) (journal ss))

done_append : {l : List ℕ} {rs ss : List Request} → Done l rs → Done (last l rs) ss → Done l (rs ++ ss)
unfolding last
done_append none e = e
done_append (more b z d) e = more b z (done_append d e)

-- the requests rs are a history from the book l on, j is their journal, and they leave the book l'
pub record Journals (l : List ℕ) (rs : List Request) (j l' : List ℕ) : Type 0 where
  pub history : Done l rs
  pub bytes : j ≡ journal rs
  pub book : l' ≡ last l rs

pub journals_none : (l : List ℕ) → Journals l [] [] l
unfolding journal last
journals_none l = record { history = none; bytes = refl; book = refl }

pub journals_then : {l m v j k : List ℕ} {rs ss : List Request} → Journals l rs j m → Journals m ss k v → Journals l (rs ++ ss) (j ++ k) v
journals_then {l} {k = k} {rs = rs} {ss = ss} a b =
    record {
      history = done_append a.history (subst (λ (x : List ℕ). Done x ss) a.book b.history);
      bytes = ap (λ (x : List ℕ). x ++ k) a.bytes ∙ ap (λ (x : List ℕ). journal rs ++ x) b.bytes ∙ sym (journal_append rs ss);
      book = b.book ∙ ap (λ (x : List ℕ). last x ss) a.book ∙ sym (last_append l rs ss);
    }

-- ---- the record of a line is the journal of what it got done

event_journals : (l : List ℕ) (e : Event) (ns : List ℕ) → Below word_limit ns → Journals l (event_done l e ns) (journal (event_done l e ns)) (event_book l e ns)
unfolding event_done event_book last
event_journals l e ns w =
    ⊎_elim
    (λ (t : eqb (number_at l (request_of e ns)) 0 ≡ true).
    rw (pick_true (request_of e ns ∷ []) [] t) (record { history = more (asked_words e ns w) (eqb-true _ _ t) none; bytes = refl; book = refl }))
    (λ (t : eqb (number_at l (request_of e ns)) 0 ≡ false).
    rw (pick_false (request_of e ns ∷ []) [] t) (record { history = none; bytes = refl; book = refused_stays l (request_of e ns) (eqb-false _ _ t) }))
    (decided (eqb (number_at l (request_of e ns)) 0))

reading_journals : (l s : List ℕ) (r : Reading) → reading s ≡ r → Journals l (reading_done l r) (journal (reading_done l r)) (reading_book l r)
unfolding reading_done reading_book journal
reading_journals l s bad p = journals_none l
reading_journals l s (good e ns) p = event_journals l e ns (sized_words ns (read_says s e ns p).in_range)

pub line_journals : (l s : List ℕ) → Journals l (done_by l s) (record_to l s) (answering.book_after_line l s)
unfolding record_to done_by answering.book_after_line
line_journals l s = reading_journals l s (reading s) refl
