-- What is asked and what is told, by the case: a kind by its form, a reply by its outcome, a recorded call by its number.
-- Assumes nothing.
use Prim.Native.Nat.{ℕ, ◌≤◌}
use native.Mathlib.Omega.{arith}
use mathlib.Core.Path.{◌≡◌, refl, sym, ◌∙◌, ap, ap₂, subst}
use mathlib.Core.Logic.{⊎_elim}
use mathlib.Core.Bool.{Bool, true, false, true≢false, false≢true}
use mathlib.Core.Option as maybe
use mathlib.Core.Option.{none, some}
use Rattle.std.specs.Prelude.{Option, Some, None}
use mathlib.Core.List.{List, [], ◌∷◌}
use lib.Dec.{eqb, leb, ltb}
use lib.ListN.{length, replicate}
use lib.Seq.{sets, length-sets}
use borrow.Author.Tests.{eq-eqb, ne_eqb, eqb-true, leb-true}
use Rattle.loops.specs.Loops.{pick}
use Rattle.loops.proofs.BoolLaws.{decided, pick_true, pick_false}
use Rattle.paper.specs.Calls.{Answer}
use Rattle.std.specs.Prelude.{Result}
use Rattle.paper.specs.declared.answer.Refusal.{Refusal}
use Rattle.request.specs.declared.reply.Reply.{Reply}
use Rattle.request.specs.Replies.{on_paper}
use Rattle.book.specs.Words.{put}
use Rattle.upkeep.specs.Requests.{Request, number_at, reply_to}
use Rattle.journal.specs.declared.record.Kind.{Kind}
use Rattle.journal.specs.Record.{kind_of, Form, plain, counted, form_of, record_bytes, request_by}
use Rattle.journal.specs.Recording.{recorded_number, recorded_size}
use Rattle.journal.proofs.RecordLaws.{record_few}
use Rattle.records.specs.declared.kinds.Shape.{Shape}
use Rattle.records.specs.Kinds.{named_by, shape_by, own_of}
use Rattle.recorder.specs.declared.answer.Recorded.{Recorded}
use Rattle.recorder.specs.Promises.{recorded_reply, Recording}
use Rattle.room.specs.Room.{filled}
use Rattle.room.proofs.RoomLaws.{filled_none}
use Rattle.telling.specs.Told.{words_of}
use Rattle.recorder_told.specs.Told.{fits, asks_by, asks, answer_words, left, made, made_by}

-- ---- the numbers of a kind

fits_counted : (f : Form) (n : ℕ) {s : Shape} → s ≡ shape_by f → s.counted ≡ true → leb s.own n ≡ fits f n
unfolding shape_by fits
fits_counted (plain m) n e h = absurd (false≢true (sym (ap (λ (x : Shape). x.counted) e) ∙ h))
fits_counted (counted m) n e h = ap (λ (x : Shape). leb x.own n) e

fits_plain : (f : Form) (n : ℕ) {s : Shape} → s ≡ shape_by f → s.counted ≡ false → eqb n s.own ≡ fits f n
unfolding shape_by fits
fits_plain (plain m) n e h = ap (λ (x : Shape). eqb n x.own) e
fits_plain (counted m) n e h = absurd (true≢false (sym (ap (λ (x : Shape). x.counted) e) ∙ h))

pub kind_counted : (k : Kind) (n : ℕ) {s : Shape} → s ≡ shape_by (form_of k) → s.counted ≡ true → leb s.own n ≡ fits (form_of k) n
kind_counted k n e h = fits_counted (form_of k) n e h

pub kind_plain : (k : Kind) (n : ℕ) {s : Shape} → s ≡ shape_by (form_of k) → s.counted ≡ false → eqb n s.own ≡ fits (form_of k) n
kind_plain k n e h = fits_plain (form_of k) n e h

own_fits : (f : Form) (n : ℕ) → fits f n ≡ true → (shape_by f).own ≤ n
unfolding shape_by fits
own_fits (plain m) n h = let e = eqb-true n m h in omega arith
own_fits (counted m) n h = leb-true m n h

-- so there are all that a request has of its own
pub kind_own : (k : Kind) (n : ℕ) → fits (form_of k) n ≡ true → own_of k ≤ n
unfolding own_of
kind_own k n h = own_fits (form_of k) n h

-- ---- what is asked

-- a name that was told, known by its case
named_none : (o : maybe.Option Kind) (ns : List ℕ) → named_by o ≡ None → asks_by o ns ≡ none
unfolding named_by asks_by
named_none none ns e = refl
named_none (some k) ns e = let z : ◌≡◌ {A = ℕ} 0 1 = cc in absurd (omega arith)

named_some : (o : maybe.Option Kind) {k : Kind} (ns : List ℕ) → named_by o ≡ Some k → asks_by o ns ≡ pick (fits (form_of k) (length ns)) (some (request_by k ns)) none
unfolding named_by asks_by
named_some none ns e = let z : ◌≡◌ {A = ℕ} 0 1 = cc in absurd (omega arith)
named_some (some m) {k} ns e = let z : m ≡ k = cc in ap (λ (x : Kind). pick (fits (form_of x) (length ns)) (some (request_by x ns)) none) z

module _ (kind : ℕ) (ns l b o : List ℕ) {named : Option Kind} (e : named ≡ named_by (kind_of kind)) where
  pub no_kind : named ≡ None → left 110 l b o ≡ made_by (asks kind ns) l b o
  unfolding asks made_by
  no_kind h = sym (ap (λ (x : maybe.Option Request). made_by x l b o) (named_none (kind_of kind) ns (sym e ∙ h)))

  module _ {k : Kind} (h : named ≡ Some k) where
    pub no_numbers : fits (form_of k) (length ns) ≡ false → left 110 l b o ≡ made_by (asks kind ns) l b o
    unfolding asks made_by
    no_numbers w = sym (ap (λ (x : maybe.Option Request). made_by x l b o) (named_some (kind_of kind) ns (sym e ∙ h) ∙ pick_false _ _ w))

    pub the_request : fits (form_of k) (length ns) ≡ true → made (request_by k ns) l b o ≡ made_by (asks kind ns) l b o
    unfolding asks made_by
    the_request w = sym (ap (λ (x : maybe.Option Request). made_by x l b o) (named_some (kind_of kind) ns (sym e ∙ h) ∙ pick_true _ _ w))

-- ---- the words of an answer

-- a reply, known by its case, whose words are these
pub words_as : {r s : Result Reply Refusal} {w x : List ℕ} → r ≡ s → x ≡ filled w (replicate 64 0) → w ≡ words_of (on_paper s) → x ≡ answer_words (on_paper r)
unfolding answer_words
words_as e p q = p ∙ ap (λ (w : List ℕ). filled w (replicate 64 0)) q ∙ sym (ap (λ (y : Result Reply Refusal). answer_words (on_paper y)) e)

pub no_words : {r s : Result Reply Refusal} → r ≡ s → [] ≡ words_of (on_paper s) → replicate 64 0 ≡ answer_words (on_paper r)
no_words e q = words_as e (filled_none _) q

filled_length : (w o : List ℕ) → length (filled w o) ≡ length o
unfolding filled
filled_length w o = pick_length (leb (length w) (length o)) (sets o 0 w) (length-sets o 0 w)
  where
    pick_length : (t : Bool) (x : List ℕ) → length x ≡ length o → length (pick t x o) ≡ length o
    pick_length true x h = unfold pick in h
    pick_length false x h = unfold pick in refl

pub length_answer : (a : Answer) → length (answer_words a) ≡ 64
unfolding answer_words
length_answer a = filled_length (words_of a) (replicate 64 0)

-- ---- a recorded call, by its number

-- the same request
pub recorded_as : {q r : Request} {l l' b b' : List ℕ} {a : Recorded} → q ≡ r → Recording l q b a l' b' → Recording l r b a l' b'
recorded_as {l = l} {l' = l'} {b = b} {b' = b'} {a = a} e p = subst (λ (x : Request). Recording l x b a l' b') e p

module _ {l l' : List ℕ} {r : Request} {b b' : List ℕ} {a : Recorded} (p : Recording l r b a l' b') where
  -- refused, there is nothing to tell
  pub made_refused : (o : List ℕ) → (a.number ≡ 0 → ⊥) → left a.number l' b' o ≡ made r l b o
  unfolding made
  made_refused o h =
      let n = p.number in
      let words : o ≡ pick (eqb (recorded_number l r (length b)) 0) (put o 0 (length (record_bytes r) ∷ answer_words (reply_to l r))) o
      = sym (pick_false _ _ (ne_eqb _ _ (λ z. h (n ∙ z)))) in
      let e = p.book in
      let f = p.buffer in
      λ i. record { number = n i; book = e i; bytes = f i; words = words i }

  module _ (z : a.number ≡ 0) where
    done : recorded_number l r (length b) ≡ 0
    done = sym p.number ∙ z

    has_room : ltb (length b) (length (record_bytes r)) ≡ false
    unfolding recorded_number
    has_room =
        ⊎_elim
        (λ (t : ltb (length b) (length (record_bytes r)) ≡ true). let w : ◌≡◌ {A = ℕ} 100 0 = sym (pick_true _ _ t) ∙ done in absurd (omega arith))
        (λ (t : ltb (length b) (length (record_bytes r)) ≡ false). t)
        (decided (ltb (length b) (length (record_bytes r))))

    size_is : a.size ≡ length (record_bytes r)
    unfolding recorded_size
    size_is = p.size ∙ pick_true _ _ (eq-eqb _ _ done)

    -- a record that is told has at most 82 bytes
    pub size_few : a.size ≤ 82
    unfolding recorded_number
    size_few = let w : number_at l r ≡ 0 = sym (pick_false _ _ has_room) ∙ done in omega (arith, size_is, record_few l r w)

    reply_is : on_paper a.reply ≡ reply_to l r
    unfolding recorded_reply
    reply_is = p.reply ∙ pick_false _ _ has_room

    -- done, it is told
    pub made_done : (o : List ℕ) {o' : List ℕ} → o' ≡ put o 0 (a.size ∷ answer_words (on_paper a.reply)) → left 0 l' b' o' ≡ made r l b o
    unfolding made
    made_done o q =
        let n : 0 ≡ recorded_number l r (length b) = sym done in
        let words = q
        ∙ ap₂ (λ (s : ℕ) (x : Answer). put o 0 (s ∷ answer_words x)) size_is reply_is
        ∙ sym (pick_true (put o 0 (length (record_bytes r) ∷ answer_words (reply_to l r))) o (eq-eqb _ _ done)) in
        let e = p.book in
        let f = p.buffer in
        λ i. record { number = n i; book = e i; bytes = f i; words = words i }
