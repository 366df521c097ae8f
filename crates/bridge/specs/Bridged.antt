-- What the bridge says of one call: asked of a fit book l, it answers as the model does, and leaves a book l' that is fit and whose view is the
-- state that the model's step leaves of the view of l. The counts stay.
-- Assumes nothing.
use Rattle.std.specs.Prelude.{ℕ, ◌≡◌, true, List, length, Result}
use Rattle.book.specs.declared.parts.Counts.{Counts}
use Rattle.book.specs.Layout.{book_words}
use Rattle.fit.specs.Fit.{fit}
use Rattle.register.specs.Promises as promises
use Rattle.paper.specs.declared.answer.Payload.{Payload}
use Rattle.paper.specs.Answers.{paper, paper_read, paper_write, paper_list}
use Rattle.paper.specs.declared.answer.Refusal.{Refusal}
use Rattle.paper.specs.declared.answer.Reading.{Reading}
use Rattle.paper.specs.declared.answer.Written.{Written}
use Rattle.paper.specs.declared.answer.Page.{Page}
use Rattle.model.specs.Parts.{fresh}
use Rattle.paper.specs.Calls.{Call, read, write, tick, take, refresh, move, list, Answer, done, answer_by}
use Rattle.model.specs.Calls.{setup, step}
use Rattle.bridge.specs.View.{to_model, counts_in, view}

pub record Bridged (l : List ℕ) (q : Call) (answer : Answer) (l' : List ℕ) : Type 0 where
  pub answers : answer ≡ (step (counts_in l) (view l) q).answer
  pub leaves : view l' ≡ (step (counts_in l) (view l) q).state
  pub counts : counts_in l' ≡ counts_in l
  pub fits : fit l' ≡ true

-- and of a setup, asked of any book l of the right length: it answers as the model does, and where it is done it leaves a book l' that is fit, has
-- the counts asked for, and whose view is the fresh state
pub record BridgedSetup (l : List ℕ) (n : Counts) (homes : List ℕ) (answer : Answer) (l' : List ℕ) : Type 0 where
  pub answers : answer ≡ answer_by (setup (to_model n) homes) done
  pub leaves : setup (to_model n) homes ≡ 0 → view l' ≡ fresh homes
  pub counts : setup (to_model n) homes ≡ 0 → counts_in l' ≡ to_model n
  pub fits : setup (to_model n) homes ≡ 0 → fit l' ≡ true
  pub stays : (setup (to_model n) homes ≡ 0 → ⊥) → l' ≡ l

-- the bridge: for every fit book and all inputs, what the promise of a call says is what the model does; for setup, every book of full length
pub record Bridge : Type 0 where
  pub of_setup : (l : List ℕ) → length l ≡ book_words → (n : Counts) (homes : List ℕ) (r : Result Unit Refusal) (l' : List ℕ) → promises.Setup l n homes r l'
      → BridgedSetup l n homes (paper r) l'
  pub of_read : (l : List ℕ) → fit l ≡ true → (c k : ℕ) (r : Result Reading Refusal) (l' : List ℕ) → promises.Read l c k r l'
      → Bridged l (read c k) (paper_read r) l'
  pub of_write : (l : List ℕ) → fit l ≡ true → (c k : ℕ) (payload : Payload) (r : Result Written Refusal) (l' : List ℕ) → promises.Write l c k payload r l'
      → Bridged l (write c k payload) (paper_write r) l'
  pub of_tick : (l : List ℕ) → fit l ≡ true → (d s : ℕ) (r : Result Unit Refusal) (l' : List ℕ) → promises.Tick l d s r l' → Bridged l (tick d s) (paper r) l'
  pub of_take : (l : List ℕ) → fit l ≡ true → (d s from : ℕ) (r : Result Unit Refusal) (l' : List ℕ) → promises.Take l d s from r l'
      → Bridged l (take d s from) (paper r) l'
  pub of_refresh : (l : List ℕ) → fit l ≡ true → (d s : ℕ) (r : Result Unit Refusal) (l' : List ℕ) → promises.Refresh l d s r l'
      → Bridged l (refresh d s) (paper r) l'
  pub of_move : (l : List ℕ) → fit l ≡ true → (c d : ℕ) (r : Result Unit Refusal) (l' : List ℕ) → promises.Move l c d r l' → Bridged l (move c d) (paper r) l'
  pub of_list : (l : List ℕ) → fit l ≡ true → (c : ℕ) (ks : List ℕ) (r : Result Page Refusal) (l' : List ℕ) → promises.Listing l c ks r l'
      → Bridged l (list c ks) (paper_list r) l'
