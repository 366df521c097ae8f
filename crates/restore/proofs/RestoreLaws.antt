-- A book that a desk may begin with stays one: byte by byte recovery makes a request to it or leaves it, and an image that is loaded has a fit book.
-- Assumes nothing.
use Rattle.std.proofs.Common.{◌≡◌, ℕ, ◌+◌, true, false, eqb, List, [], ◌∷◌, ◌++◌, length, sym, refl, ap, ◌∙◌, subst, inr, ⊎_elim, eqb-true}
use Rattle.loops.proofs.BoolLaws.{decided, pick_true, pick_false}
use Rattle.fit.specs.Fit.{fit}
use Rattle.upkeep.specs.Requests.{Request, number_at, book_after, last}
use Rattle.image.specs.Image.{book_in, load_number, loaded, Loading}
use Rattle.image.proofs.Theorems.{accepted_exactly}
use Rattle.journal.specs.declared.recover.Fault.{Fault}
use Rattle.journal.specs.declared.recover.Fault.TheVariants.{Fine, Refused, Strange}
use Rattle.journal.specs.Record.{Piece, begun, strange, whole, piece}
use Rattle.journal.specs.Journal.{Recovered, within, stopped, start, take_in, step_by, step, replay}
use Rattle.events.proofs.KeepLaws.{last_append}
use Rattle.recovery.specs.declared.Recovered as answer
use Rattle.recovery.specs.Promises.{Recovery}
use Rattle.stream.specs.Stream.{Began}
use Rattle.stream.proofs.Theorems.{began_fresh}

-- ---- the book l' is the book l after some requests

record After (l l' : List ℕ) : Type 0 where
  pub requests : List Request
  pub book : l' ≡ last l requests

after_none : (l : List ℕ) → After l l
unfolding last
after_none l = record { requests = []; book = refl }

after_one : (l : List ℕ) (r : Request) → After l (book_after l r)
unfolding last
after_one l r = record { requests = r ∷ []; book = refl }

after_then : {l m v : List ℕ} → After l m → After m v → After l v
after_then {l} a b =
    record {
      requests = a.requests ++ b.requests;
      book = b.book ∙ ap (λ (x : List ℕ). last x b.requests) a.book ∙ sym (last_append l a.requests b.requests);
    }

-- ---- recovery, byte by byte

take_after : (s : Recovered) (p : List ℕ) (x : Piece) → After s.book (take_in s p x).book
unfolding take_in
take_after s p begun = after_none s.book
take_after s p strange = after_none s.book
take_after s p (whole r) =
    let next : Recovered = within (book_after s.book r) (s.done + 1) (s.bytes + length p) [] in
    let same : Recovered = stopped s.book s.done s.bytes p (Refused (number_at s.book r)) in
    ⊎_elim
    (λ (t : eqb (number_at s.book r) 0 ≡ true).
    subst (λ (x : Recovered). After s.book x.book) (sym (pick_true next same t)) (after_one s.book r))
    (λ (t : eqb (number_at s.book r) 0 ≡ false).
    subst (λ (x : Recovered). After s.book x.book) (sym (pick_false next same t)) (after_none s.book))
    (decided (eqb (number_at s.book r) 0))

step_after : (e : Fault) (s : Recovered) (b : ℕ) → After s.book (step_by e s b).book
unfolding step_by
step_after Fine s b = take_after s (s.rest ++ (b ∷ [])) (piece (s.rest ++ (b ∷ [])))
step_after (Refused n) s b = after_none s.book
step_after Strange s b = after_none s.book

replay_after : (s : Recovered) (f : List ℕ) → After s.book (replay s f).book
unfolding replay step
replay_after s [] = after_none s.book
replay_after s (b ∷ f) = after_then (step_after s.fault s b) (replay_after (step s b) f)

-- ---- what a desk may begin with

-- recovery goes on from such a book
pub began_more : {l f l' : List ℕ} {a : answer.Recovered} → Recovery l f a l' → Began l → Began l'
began_more {l} {f} p b =
    let t = replay_after (start l) f in
    record {
      from = b.from;
      fresh = b.fresh;
      requests = b.requests ++ t.requests;
      book =
          p.book
          ∙ t.book
          ∙ ap (λ (x : List ℕ). last x t.requests) b.book
          ∙ sym (last_append b.from b.requests t.requests);
    }

-- an image is loaded into such a book, or it is refused and the book stays
pub began_loaded : {l f l' : List ℕ} {r : ℕ} → Loading l f r l' → Began l → Began l'
unfolding loaded
began_loaded {l} {f} {l'} h b =
    ⊎_elim
    (λ (t : eqb (load_number f (length l)) 0 ≡ true).
    let fits : fit (book_in f) ≡ true = ((accepted_exactly f (length l)).0 (eqb-true (load_number f (length l)) 0 t)).2 in
    began_fresh l' (inr (ap fit (h.book ∙ pick_true (book_in f) l t) ∙ fits)))
    (λ (t : eqb (load_number f (length l)) 0 ≡ false).
    subst Began (sym (h.book ∙ pick_false (book_in f) l t)) b)
    (decided (eqb (load_number f (length l)) 0))
