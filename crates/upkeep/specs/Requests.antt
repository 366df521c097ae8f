-- Whatever is asked of a book: its number, its reply on paper, the book after it and its promise, each as one function or relation of the book and the
-- request.
-- Assumes nothing.
use Rattle.std.specs.Prelude.{ℕ, List, [], ◌∷◌, Result}
use Rattle.paper.specs.declared.answer.Payload.{Payload}
use Rattle.paper.specs.Calls.{Call, read, write, tick, take, refresh, move, list, Answer, done, reads, listed, answer_by}
use Rattle.paper.specs.Answers.{paper, paper_read, paper_write, paper_list}
use Rattle.paper.specs.declared.answer.Refusal.{Refusal}
use Rattle.paper.specs.declared.answer.Reading.{Reading}
use Rattle.paper.specs.declared.answer.Written.{Written}
use Rattle.paper.specs.declared.answer.Page.{Page}
use Rattle.book.specs.declared.parts.Counts.{Counts}
use Rattle.book.specs.Layout.{counts_of}
use Rattle.register.specs.Answers.{told, written}
use Rattle.register.specs.Table.{setup_number, read_number, write_number, tick_number, take_number, refresh_number, move_number, list_number}
use Rattle.register.specs.Calls.{set_up, read_record, read_book, new_stamp, is_current, write_book, tick_book, take_book, refresh_book, move_book, page_told, list_book}
use Rattle.register.specs.Promises.{after, Setup, Read, Write, Tick, Take, Refresh, Move, Listing}

-- a setup (counts, homes), or a call
pub data Request : Type 0 where
  setup : Counts → List ℕ → Request
  call : Call → Request

-- the paper's number of a request to the book l: 0 is done
unfoldable pub number_at : List ℕ → Request → ℕ
number_at l (setup n homes) = setup_number l n homes
number_at l (call (read c k)) = read_number l c k
number_at l (call (write c k payload)) = write_number l c k payload
number_at l (call (tick d s)) = tick_number l d s
number_at l (call (take d s from)) = take_number l d s from
number_at l (call (refresh d s)) = refresh_number l d s
number_at l (call (move c d)) = move_number l c d
number_at l (call (list c ks)) = list_number l c ks

-- what it answers where it is done
unfoldable pub done_answer : List ℕ → Request → Answer
done_answer l (setup n homes) = done
done_answer l (call (read c k)) = reads (told (counts_of l).depots (read_record l c k))
done_answer l (call (write c k payload)) = written (new_stamp l c k) (is_current l c k payload)
done_answer l (call (tick d s)) = done
done_answer l (call (take d s from)) = done
done_answer l (call (refresh d s)) = done
done_answer l (call (move c d)) = done
done_answer l (call (list c ks)) = listed (page_told l c ks)

-- the reply, done or refused
unfoldable pub reply_to : List ℕ → Request → Answer
reply_to l r = answer_by (number_at l r) (done_answer l r)

-- the book that it makes of l where it is done
unfoldable pub changed_by : List ℕ → Request → List ℕ
changed_by l (setup n homes) = set_up n homes
changed_by l (call (read c k)) = read_book l c k
changed_by l (call (write c k payload)) = write_book l c k payload
changed_by l (call (tick d s)) = tick_book l d s
changed_by l (call (take d s from)) = take_book l d s from
changed_by l (call (refresh d s)) = refresh_book l d s
changed_by l (call (move c d)) = move_book l c d
changed_by l (call (list c ks)) = list_book l c ks

-- the book after it, done or refused
unfoldable pub book_after : List ℕ → Request → List ℕ
book_after l r = after (number_at l r) (changed_by l r) l

-- its promise: that it is answered so on paper and leaves the book l'
pub data Called (l l' : List ℕ) : Request → Answer → Type 0 where
  setting_up : {n : Counts} {homes : List ℕ} {r : Result Unit Refusal} → Setup l n homes r l' → Called l l' (setup n homes) (paper r)
  did_read : {c k : ℕ} {r : Result Reading Refusal} → Read l c k r l' → Called l l' (call (read c k)) (paper_read r)
  did_write : {c k : ℕ} {payload : Payload} {r : Result Written Refusal} → Write l c k payload r l' → Called l l' (call (write c k payload)) (paper_write r)
  ticked : {d s : ℕ} {r : Result Unit Refusal} → Tick l d s r l' → Called l l' (call (tick d s)) (paper r)
  took : {d s from : ℕ} {r : Result Unit Refusal} → Take l d s from r l' → Called l l' (call (take d s from)) (paper r)
  refreshed : {d s : ℕ} {r : Result Unit Refusal} → Refresh l d s r l' → Called l l' (call (refresh d s)) (paper r)
  moved : {c d : ℕ} {r : Result Unit Refusal} → Move l c d r l' → Called l l' (call (move c d)) (paper r)
  did_list : {c : ℕ} {ks : List ℕ} {r : Result Page Refusal} → Listing l c ks r l' → Called l l' (call (list c ks)) (paper_list r)

-- requests, one after another, each as its promise has it, lead from a book to another
pub data Lead : List ℕ → List ℕ → Type 0 where
  none : {l : List ℕ} → Lead l l
  then : {l m v : List ℕ} {r : Request} {a : Answer} → Called l m r a → Lead m v → Lead l v

-- the replies to requests to the book l, oldest first
unfoldable pub replies : List ℕ → List Request → List Answer
replies l [] = []
replies l (r ∷ rs) = reply_to l r ∷ replies (book_after l r) rs

-- and the book after them
unfoldable pub last : List ℕ → List Request → List ℕ
last l [] = l
last l (r ∷ rs) = last (book_after l r) rs
