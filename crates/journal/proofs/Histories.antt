-- Whatever the bytes are, what recovery gives is the book of a history, their records are its first bytes, and it ends as it tells. Record after record.
-- Assumes nothing.
use Prim.Native.Nat.{ℕ, zero, suc, ◌+◌, ◌≤◌, ◌<◌}
use native.Mathlib.Omega.{arith}
use native.Mathlib.Nat.{add-zero, zero-add}
use mathlib.Core.Path.{◌≡◌, refl, sym, ◌∙◌, ap, ap₂, subst}
use mathlib.Core.Logic.{⊎_elim}
use mathlib.Core.Option.{Option, some}
use mathlib.Core.List.{List, [], ◌∷◌, ◌++◌, append_assoc, append-nil}
use lib.ListN.{length, take, drop, length-append, length-drop, take-append-drop}
use lib.Seq.{length-take-le}
use Rattle.loops.proofs.BoolLaws.{le_or_lt, eq_or_ne}
use Rattle.upkeep.specs.Requests.{Request, number_at, book_after, last}
use Rattle.wire.specs.Wire.{byte_limit, Below}
use Rattle.numbers.proofs.NumberLaws.{below_drop}
use Rattle.journal.specs.declared.record.Kind.{Kind}
use Rattle.journal.specs.declared.recover.Fault.TheVariants.{Refused, Strange}
use Rattle.journal.specs.Record.{kind_of, record_bytes, request_in, size}
use Rattle.journal.specs.Journal.{journal, Done, none, more, Recovered, within, stopped, start, replay}
use Rattle.journal.specs.Journal.{Ended, ends_whole, ends_cut, ends_refused, ends_strange, Told}
use Rattle.journal.proofs.RecordLaws.{size_some, whole_record, whole_words}
use Rattle.journal.proofs.ByRecord.{by_none, by_strange, by_cut, by_done, by_refused}

-- what is told of the bytes f behind n records of m bytes
record From (l f : List ℕ) (n m : ℕ) (s : Recovered) : Type 0 where
  pub requests : List Request
  pub history : Done l requests
  pub book : s.book ≡ last l requests
  pub done : s.done ≡ n + length requests
  pub bytes : s.bytes ≡ m + length (journal requests)
  pub unread : List ℕ
  pub splits : f ≡ journal requests ++ (s.rest ++ unread)
  pub ended : Ended s unread

-- no record more
here : {l f : List ℕ} {n m : ℕ} (s : Recovered) (u : List ℕ) → s.book ≡ l → s.done ≡ n → s.bytes ≡ m → f ≡ s.rest ++ u → Ended s u → From l f n m s
unfolding last journal
here {n = n} {m = m} s u b d e w g = record {
  requests = [];
  history = none;
  book = b;
  done = d ∙ sym (add-zero n);
  bytes = e ∙ sym (add-zero m);
  unread = u;
  splits = w;
  ended = g;
}

module _ (l : List ℕ) (n m x : ℕ) (g : List ℕ) (small : Below byte_limit (x ∷ g)) where
  abbrev f : List ℕ
  f = x ∷ g

  -- the first record is whole
  module _ (k : Kind) (e : kind_of x ≡ some k) (h : size k f ≤ length f) where
    abbrev r : Request
    r = request_in k f

    bytes_of : record_bytes r ≡ take (size k f) f
    bytes_of = whole_record k f e h small

    long : length (record_bytes r) ≡ size k f
    long = ap length bytes_of ∙ length-take-le (size k f) f h

    one_more :
        number_at l r ≡ 0 → From (book_after l r) (drop (size k f) f) (n + 1) (m + size k f) (replay (within (book_after l r) (n + 1) (m + size k f) []) (drop (size k f) f)) →
        From l f n m (replay (within l n m []) f)
    unfolding last journal
    one_more z t = subst (From l f n m) (sym (by_done l n m f k e h z)) (record {
      requests = r ∷ t.requests;
      history = more (whole_words k f small) z t.history;
      book = t.book;
      done = t.done ∙ count;
      bytes = t.bytes ∙ sum;
      unread = t.unread;
      splits = sym (take-append-drop (size k f) f) ∙ ap₂ (λ (a b : List ℕ). a ++ b) (sym bytes_of) t.splits ∙ sym (append_assoc (record_bytes r) (journal t.requests) _);
      ended = t.ended;
    })
      where
        count : n + 1 + length t.requests ≡ n + suc (length t.requests)
        count = omega arith

        sum : m + size k f + length (journal t.requests) ≡ m + length (record_bytes r ++ journal t.requests)
        sum = omega (arith, long, length-append (record_bytes r) (journal t.requests))

    refused_here : (number_at l r ≡ 0 → ⊥) → From l f n m (replay (within l n m []) f)
    refused_here z =
        subst (From l f n m) (sym (by_refused l n m f k e h z ∙ ap (λ (p : List ℕ). stopped l n m p (Refused (number_at l r))) (sym bytes_of)))
        (here (stopped l n m (record_bytes r) (Refused (number_at l r))) (drop (size k f) f) refl refl refl
        (sym (take-append-drop (size k f) f) ∙ ap (λ (p : List ℕ). p ++ drop (size k f) f) (sym bytes_of))
        (ends_refused r (whole_words k f small) z))

  by_kind :
      ((b : List ℕ) (i j c : ℕ) → 0 < c → From b (drop c f) i j (replay (within b i j []) (drop c f))) → (o : Option Kind) → kind_of x ≡ o →
      From l f n m (replay (within l n m []) f)
  by_kind more_of Option.none e =
      subst (From l f n m) (sym (by_strange l n m f (omega arith) e))
      (here (stopped l n m (x ∷ []) Strange) g refl refl refl refl (ends_strange e))
  by_kind more_of (some k) e =
      ⊎_elim
      (λ (h : size k f ≤ length f).
      ⊎_elim
      (λ (z : number_at l (request_in k f) ≡ 0). one_more k e h z (more_of (book_after l (request_in k f)) (n + 1) (m + size k f) (size k f) (size_some k f)))
      (λ (z : number_at l (request_in k f) ≡ 0 → ⊥). refused_here k e h z)
      (eq_or_ne (number_at l (request_in k f)) 0))
      (λ (h : length f < size k f).
      subst (From l f n m) (sym (by_cut l n m f k e h)) (here (within l n m f) [] refl refl refl (sym (append-nil f)) (ends_cut e h)))
      (le_or_lt (size k f) (length f))

by_first :
    (l : List ℕ) (n m : ℕ) (f : List ℕ) → Below byte_limit f →
    ((b : List ℕ) (i j c : ℕ) → 0 < c → 0 < length f → From b (drop c f) i j (replay (within b i j []) (drop c f))) → From l f n m (replay (within l n m []) f)
by_first l n m [] small more_of = subst (From l [] n m) (sym (by_none l n m)) (here (within l n m []) [] refl refl refl refl ends_whole)
by_first l n m (x ∷ g) small more_of = by_kind l n m x g small (λ b i j c p. more_of b i j c p (omega arith)) (kind_of x) refl

-- c bounds how many bytes there are
told_from : (c : ℕ) (l : List ℕ) (n m : ℕ) (f : List ℕ) → length f ≤ c → Below byte_limit f → From l f n m (replay (within l n m []) f)
told_from zero l n m f h small = by_first l n m f small (λ b i j d p q. absurd (omega arith))
told_from (suc c) l n m f h small =
    by_first l n m f small (λ b i j d p q. told_from c b i j (drop d f) (omega (arith, length-drop d f)) (below_drop byte_limit d f small))

-- whatever the bytes are
pub only_histories : (l f : List ℕ) → Below byte_limit f → Told l f (replay (start l) f)
only_histories l f b =
    let t = told_from (length f) l 0 0 f (omega arith) b in
    record {
      requests = t.requests;
      history = t.history;
      book = t.book;
      done = t.done ∙ zero-add (length t.requests);
      bytes = t.bytes ∙ zero-add (length (journal t.requests));
      unread = t.unread;
      splits = t.splits;
      ended = t.ended;
    }
