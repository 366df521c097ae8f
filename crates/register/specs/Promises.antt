-- The promise of each call: the answer r, as it is on paper, and every word of the book after it, l', settled by the book before, l, and what was
-- asked. A refused call leaves every word as it was.
-- Assumes nothing.
use Rattle.std.specs.Prelude.{ℕ, ◌≡◌, List, eqb, Result, IfOk}
use Rattle.loops.specs.Loops.{pick}
use Rattle.book.specs.declared.parts.Counts.{Counts}
use Rattle.book.specs.Layout.{counts_of}
use Rattle.paper.specs.Calls.{done, reads, listed, answer_by}
use Rattle.paper.specs.declared.answer.Refusal.{Refusal}
use Rattle.paper.specs.declared.answer.Payload.{Payload}
use Rattle.paper.specs.declared.answer.Reading.{Reading}
use Rattle.paper.specs.declared.answer.Written.{Written}
use Rattle.paper.specs.declared.answer.Page.{Page}
use Rattle.paper.specs.Answers.{paper, paper_read, paper_write, paper_list, Holds, HoldsAll}
use Rattle.register.specs.Answers.{told, written}
use Rattle.register.specs.Table.{setup_number, read_number, write_number, tick_number, take_number, refresh_number, move_number, list_number}
use Rattle.register.specs.Calls.{set_up, read_record, read_book, new_stamp, is_current, write_book, tick_book, take_book, refresh_book, move_book, page_told, list_book}

-- the book after a call with this number: changed if done, else as it was
unfoldable pub after : ℕ → List ℕ → List ℕ → List ℕ
after number changed l = pick (eqb number 0) changed l

pub record Setup (l : List ℕ) (n : Counts) (homes : List ℕ) (r : Result Unit Refusal) (l' : List ℕ) : Type 0 where
  pub answer : paper r ≡ answer_by (setup_number l n homes) done
  pub book : l' ≡ after (setup_number l n homes) (set_up n homes) l

pub record Read (l : List ℕ) (c k : ℕ) (r : Result Reading Refusal) (l' : List ℕ) : Type 0 where
  pub answer : paper_read r ≡ answer_by (read_number l c k) (reads (told (counts_of l).depots (read_record l c k)))
  pub holds : IfOk r (λ a. Holds (paper_read r) a.vector a.depots)
  pub book : l' ≡ after (read_number l c k) (read_book l c k) l

pub record Write (l : List ℕ) (c k : ℕ) (payload : Payload) (r : Result Written Refusal) (l' : List ℕ) : Type 0 where
  pub answer : paper_write r ≡ answer_by (write_number l c k payload) (written (new_stamp l c k) (is_current l c k payload))
  pub book : l' ≡ after (write_number l c k payload) (write_book l c k payload) l

pub record Tick (l : List ℕ) (d s : ℕ) (r : Result Unit Refusal) (l' : List ℕ) : Type 0 where
  pub answer : paper r ≡ answer_by (tick_number l d s) done
  pub book : l' ≡ after (tick_number l d s) (tick_book l d s) l

pub record Take (l : List ℕ) (d s from : ℕ) (r : Result Unit Refusal) (l' : List ℕ) : Type 0 where
  pub answer : paper r ≡ answer_by (take_number l d s from) done
  pub book : l' ≡ after (take_number l d s from) (take_book l d s from) l

pub record Refresh (l : List ℕ) (d s : ℕ) (r : Result Unit Refusal) (l' : List ℕ) : Type 0 where
  pub answer : paper r ≡ answer_by (refresh_number l d s) done
  pub book : l' ≡ after (refresh_number l d s) (refresh_book l d s) l

pub record Move (l : List ℕ) (c d : ℕ) (r : Result Unit Refusal) (l' : List ℕ) : Type 0 where
  pub answer : paper r ≡ answer_by (move_number l c d) done
  pub book : l' ≡ after (move_number l c d) (move_book l c d) l

pub record Listing (l : List ℕ) (c : ℕ) (ks : List ℕ) (r : Result Page Refusal) (l' : List ℕ) : Type 0 where
  pub answer : paper_list r ≡ answer_by (list_number l c ks) (listed (page_told l c ks))
  pub holds : IfOk r (λ a. HoldsAll (paper_list r) a)
  pub book : l' ≡ after (list_number l c ks) (list_book l c ks) l
