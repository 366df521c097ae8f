-- What the reader says of a line, and that no answer is longer than its room.
-- Assumes nothing.
use Prim.Native.Nat.{ℕ, ◌+◌, ◌≤◌, ◌<◌}
use native.Mathlib.Omega.{arith}
use mathlib.Core.Path.{◌≡◌, refl, sym, ◌∙◌, ap, subst}
use mathlib.Core.List.{List, [], ◌∷◌, map}
use mathlib.Core.Bool.{Bool, true, false}
use lib.Dec.{eqb}
use lib.ListN as list
use lib.ListN.{length, length-map, replicate, length-append, length-take}
use lib.Seq.{length-sets}
use Rattle.std.specs.Prelude.{Option, None, Some}
use Rattle.std.proofs.lemmas.Option.{none-some, same_Some}
use borrow.Author.Tests.{eqb-true}
use Rattle.loops.specs.Loops.{pick}
use Rattle.order.specs.Record.{vector_of}
use Rattle.order.specs.Vector.{zeros}
use Rattle.book.specs.Layout.{counts_of, home, stored}
use Rattle.shelf.proofs.FrameLaws.{pick_cases}
use Rattle.paper.specs.Calls.{Told, listed, answer_by}
use Rattle.paper.specs.Answers.{entries_in, entries_told, tellings}
use Rattle.request.specs.Requests.{request_in, beside_in}
use Rattle.request.specs.declared.ask.Event.{Event}
use Rattle.request.specs.declared.ask.Event.TheVariants as event
use Rattle.register.specs.Answers.{cut, told, written}
use Rattle.register.specs.Calls.{read_record, page_book, page_told}
use Rattle.register.specs.Table.{list_number}
use Rattle.register.proofs.HomeLaws.{told_entries}
use Rattle.register.proofs.ListTable.{list_done, list_size_in}
use Rattle.upkeep.specs.Requests.{number_at, done_answer, reply_to}
use Rattle.journal.specs.Journal.{journal}
use Rattle.calls.specs.Performed.{request_of}
use Rattle.line.specs.Grammar.{most_numbers, InGrammar}
use Rattle.line.specs.Reading.{Reading, bad, good, reading, line_of}
use Rattle.line.specs.Printing.{Wrote}
use Rattle.line.specs.declared.reader.Line.{Line}
use Rattle.line.proofs.Theorems.{read_says, most_fits, answer_says}
use Rattle.line.proofs.PrintLaws.{wrote_length, decimal_length}
use Rattle.reply.specs.Printed.{answer_room}
use Rattle.reply.proofs.PageLaws.{AllFew}
use Rattle.reply.proofs.RoomLaws.{Short, no_list, printed_length}
use Rattle.events.specs.Answering.{event_says, reading_says, reading_book, reading_done, answer_to}

-- ---- the numbers of a line

bad_only : (r : Reading) → line_of r ≡ None → r ≡ bad
unfolding line_of
bad_only bad h = refl
bad_only (good e ns) h = absurd (none-some _ (sym h))

-- a line that the reader says is bad
pub told_bad : (s : List ℕ) {t : Option Line} → t ≡ line_of (reading s) → t ≡ None → reading s ≡ bad
told_bad s p h = bad_only (reading s) (sym p ∙ h)

-- what is known of a line that it hands back
record Kept (s : List ℕ) (x : Line) : Type 0 where
  says : InGrammar s x.event (list.take x.count x.numbers)
  few : x.count ≤ most_numbers
  room : length x.numbers ≡ most_numbers

kept_of : (s : List ℕ) (x : Line) (r : Reading) → reading s ≡ r → line_of r ≡ Some x → Kept s x
unfolding line_of
kept_of s x bad p h = absurd (none-some x h)
kept_of s x (good e ns) p h =
    let few = (read_says s e ns p).not_over in
    let most = most_fits e in
    let same = same_Some _ x h in
    record {
      says = answer_says s x (ap line_of p ∙ h);
      few = subst (λ (y : Line). y.count ≤ most_numbers) same (omega arith);
      room = subst (λ (y : Line). length y.numbers ≡ most_numbers) same (length-sets (replicate most_numbers 0) 0 ns);
    }

module _ (s : List ℕ) {t : Option Line} {x : Line} (p : t ≡ line_of (reading s)) (q : t ≡ Some x) where
  kept : Kept s x
  kept = kept_of s x (reading s) refl (sym p ∙ q)

  -- it says its event with the numbers that count
  pub told_event : InGrammar s x.event (list.take x.count x.numbers)
  told_event = kept.says

  pub told_count : x.count ≤ most_numbers
  told_count = kept.few

  pub told_part : x.count ≡ length (list.take x.count x.numbers)
  told_part = let h = told_count in let k = kept.room in rw (length-take x.count x.numbers) (omega arith)

-- ---- what a line says, known by its case

pub kept_reading : {q q' : Reading} (l : List ℕ) {l' o o' j j' : List ℕ} {at r k i : ℕ}
    → q ≡ q'
    → (l' ≡ reading_book l q') × (Wrote o at (reading_says l q') o' r × Wrote j k (journal (reading_done l q')) j' i)
    → (l' ≡ reading_book l q) × (Wrote o at (reading_says l q) o' r × Wrote j k (journal (reading_done l q)) j' i)
kept_reading l {l'} {o} {o'} {j} {j'} {at} {r} {k} {i} p w =
    subst (λ (x : Reading). (l' ≡ reading_book l x) × (Wrote o at (reading_says l x) o' r × Wrote j k (journal (reading_done l x)) j' i)) (sym p) w

-- ---- no answer is longer than its room

written_short : (stamp : ℕ) (b : Bool) → Short (written stamp b)
unfolding written pick entries_in tellings
written_short stamp true = no_list _ (omega arith) refl
written_short stamp false = no_list _ (omega arith) refl

-- of a bearing at most four entries are told, and so of each of a list
told_few : (n : ℕ) (r : List ℕ) → length (entries_told (told n r)) ≤ 4
unfolding told entries_told cut
told_few n r =
    let part = length-take n (cut n (vector_of r)) in
    pick_cases (λ (t : Told). length (entries_told t) ≤ 4) (zeros n (vector_of r)) _ _ (λ z. omega arith) λ z. omega arith

each_few : (f : ℕ → Told) → ((k : ℕ) → length (entries_told (f k)) ≤ 4) → (ks : List ℕ) → AllFew (map f ks)
unfolding AllFew
each_few f h [] = tt
each_few f h (k ∷ ks) = (h k, each_few f h ks)

list_short : (l : List ℕ) (c : ℕ) (ks : List ℕ) → list_number l c ks ≡ 0 → Short (listed (page_told l c ks))
unfolding page_told entries_in tellings
list_short l c ks h =
    let size = (list_size_in ks (list_done l c ks h).size).1 in
    let same = length-map ks (λ k. told (counts_of l).depots (stored (page_book l c) (home l c) k)) in
    record { entries = omega arith; bearings = omega arith; each = each_few _ (λ k. told_few _ _) ks }

-- a read tells at most four entries, a list of at most eight bearings, and nothing else that a line asks tells any
done_short : (l : List ℕ) (e : Event) (ns : List ℕ) → number_at l (request_of e ns) ≡ 0 → Short (done_answer l (request_of e ns))
unfolding number_at done_answer entries_in tellings cut request_of request_in
done_short l event.Setup ns h = no_list _ (omega arith) refl
done_short l event.Read ns h =
    let r = read_record l (list.get_or ns 0 0) (list.get_or ns 1 0) in
    let part = length-take (counts_of l).depots (cut (counts_of l).depots (vector_of r)) in
    let same = ap (λ (v : List ℕ). length v) (told_entries (counts_of l).depots r) in
    no_list _ (omega arith) refl
done_short l event.Write ns h = written_short _ _
done_short l event.Tick ns h = no_list _ (omega arith) refl
done_short l event.Take ns h = no_list _ (omega arith) refl
done_short l event.Refresh ns h = no_list _ (omega arith) refl
done_short l event.List ns h = list_short l (list.get_or ns 0 0) (beside_in event.List ns) h

pub reply_short : (l : List ℕ) (e : Event) (ns : List ℕ) → Short (reply_to l (request_of e ns))
unfolding reply_to answer_by entries_in tellings
reply_short l e ns =
    pick_cases Short (eqb (number_at l (request_of e ns)) 0) _ _ (λ z. done_short l e ns (eqb-true _ _ z)) λ z. no_list _ (omega arith) refl

pub reading_length : (l : List ℕ) (r : Reading) → length (reading_says l r) < answer_room
unfolding reading_says event_says
reading_length l bad = let h = decimal_length 13 in omega arith
reading_length l (good e ns) = printed_length _ (reply_short l e ns)

pub answer_length : (l s : List ℕ) → length (answer_to l s) ≤ answer_room
unfolding answer_to
answer_length l s = let h = reading_length l (reading s) in let e : length (answer_to l s) ≡ length (reading_says l (reading s)) + 1 = length-append (reading_says l (reading s)) (10 ∷ []) in omega arith

-- so an answer at the start of an output that has its room ends in it
pub answer_room_law : (l s : List ℕ) {o o' : List ℕ} {next : ℕ} → Wrote o 0 (answer_to l s) o' next → answer_room ≤ length o → next ≤ length o'
answer_room_law l s w h =
    let most = answer_length l s in
    let same = wrote_length w in
    omega (arith, w.after)
