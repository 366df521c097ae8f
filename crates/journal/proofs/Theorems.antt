-- Recovery gives the book of the history that was written; of a journal cut at any byte, the book after the whole records before the cut, and their number; it
-- stops before a record that would be refused or is of no known kind. `pieces` of ByRecord says that it may be fed in pieces.
-- Assumes nothing.
use Prim.Native.Nat.{ℕ, zero, suc, ◌+◌, ◌-◌, ◌≤◌, ◌<◌}
use native.Mathlib.Omega.{arith}
use native.Mathlib.Nat.{add-zero, zero-add}
use mathlib.Core.Path.{◌≡◌, sym, ◌∙◌, ap, ap₂}
use mathlib.Core.Logic.{⊎_elim}
use mathlib.Core.Bool.{true, false}
use mathlib.Core.Option.{Option}
use mathlib.Core.List.{List, [], ◌∷◌, ◌++◌, append_assoc, append-nil}
use lib.Dec.{leb}
use lib.ListN.{length, take, drop, length-append}
use lib.Seq.{take-append-le, take-append_seam, drop-append_seam, length-take-le}
use borrow.Author.Tests.{leb-false}
use Rattle.loops.proofs.BoolLaws.{decided, pick_true, pick_false}
use Rattle.upkeep.specs.Requests.{Request, number_at, book_after, last}
use Rattle.wire.specs.Wire.{word_limit, Below}
use Rattle.journal.specs.declared.recover.Fault.TheVariants.{Refused, Strange}
use Rattle.journal.specs.Record.{kind_of, size, kind_in, numbers_of, record_bytes, request_in}
use Rattle.journal.specs.Journal.{journal, Done, none, more, whole_in, rest_in, within, stopped, start, replay}
use Rattle.journal.proofs.RecordLaws.{record_few, record_kind, record_size, record_asks}
use Rattle.journal.proofs.ByRecord.{by_none, by_strange, by_part, by_done, by_refused}
use Rattle.journal.proofs.Cuts.{cut_bytes, cut_within}

-- ---- a record, and bytes behind it

module _ (l : List ℕ) (n m : ℕ) (r : Request) (b : Below word_limit (numbers_of r)) (g : List ℕ) where
  all_there : size (kind_in r) (record_bytes r ++ g) ≤ length (record_bytes r ++ g)
  all_there = omega (arith, record_size r g, length-append (record_bytes r) g)

  asks : request_in (kind_in r) (record_bytes r ++ g) ≡ r
  asks = record_asks r g b

  pub record_done : number_at l r ≡ 0 →
      replay (within l n m []) (record_bytes r ++ g) ≡ replay (within (book_after l r) (n + 1) (m + length (record_bytes r)) []) g
  record_done z =
      by_done l n m (record_bytes r ++ g) (kind_in r) (record_kind r g) all_there (ap (number_at l) asks ∙ z)
      ∙ ap₂ (λ (q : Request) (i : ℕ). replay (within (book_after l q) (n + 1) (m + i) []) (drop i (record_bytes r ++ g))) asks (record_size r g)
      ∙ ap (replay (within (book_after l r) (n + 1) (m + length (record_bytes r)) [])) (drop-append_seam (record_bytes r) g)

  pub record_refused : (number_at l r ≡ 0 → ⊥) → replay (within l n m []) (record_bytes r ++ g) ≡ stopped l n m (record_bytes r) (Refused (number_at l r))
  record_refused z =
      by_refused l n m (record_bytes r ++ g) (kind_in r) (record_kind r g) all_there (λ e. z (ap (number_at l) (sym asks) ∙ e))
      ∙ ap₂ (λ (q : Request) (i : ℕ). stopped l n m (take i (record_bytes r ++ g)) (Refused (number_at l q))) asks (record_size r g)
      ∙ ap (λ (p : List ℕ). stopped l n m p (Refused (number_at l r))) (take-append_seam (record_bytes r) g)

-- ---- a journal

-- records that are done, and bytes behind them
history_from :
    (n m : ℕ) {l : List ℕ} {rs : List Request} → Done l rs → (g : List ℕ) →
    replay (within l n m []) (journal rs ++ g) ≡ replay (within (last l rs) (n + length rs) (m + length (journal rs)) []) g
unfolding journal last
history_from n m {l} none g = ap₂ (λ (x y : ℕ). replay (within l x y []) g) (sym (add-zero n)) (sym (add-zero m))
history_from n m {l} (more {r = r} {rs = rs} b z d) g =
    let count : n + 1 + length rs ≡ n + suc (length rs) = omega arith in
    let bytes : m + length (record_bytes r) + length (journal rs) ≡ m + length (record_bytes r ++ journal rs) = omega (arith, length-append (record_bytes r) (journal rs)) in
    ap (replay (within l n m [])) (append_assoc (record_bytes r) (journal rs) g)
    ∙ record_done l n m r b (journal rs ++ g) z
    ∙ history_from (n + 1) (m + length (record_bytes r)) d g
    ∙ ap₂ (λ (x y : ℕ). replay (within (last (book_after l r) rs) x y []) g) count bytes

pub recovers_then :
    {l : List ℕ} {rs : List Request} → Done l rs → (g : List ℕ) →
    replay (start l) (journal rs ++ g) ≡ replay (within (last l rs) (length rs) (length (journal rs)) []) g
recovers_then {l} {rs} d g =
    history_from 0 0 d g ∙ ap₂ (λ (x y : ℕ). replay (within (last l rs) x y []) g) (zero-add (length rs)) (zero-add (length (journal rs)))

-- a journal gives the book of its history, the number of its records, and that of their bytes
pub recovers : {l : List ℕ} {rs : List Request} → Done l rs → replay (start l) (journal rs) ≡ within (last l rs) (length rs) (length (journal rs)) []
recovers {l} {rs} d = ap (replay (start l)) (sym (append-nil (journal rs))) ∙ recovers_then d [] ∙ by_none _ _ _

-- ---- cut

done_take : (j : ℕ) {l : List ℕ} {rs : List Request} → Done l rs → Done l (take j rs)
done_take zero d = none
done_take (suc j) none = none
done_take (suc j) (more b z d) = more b z (done_take j d)

-- the bytes behind the whole records wait
rest_waits : (l : List ℕ) (n m c : ℕ) (rs : List Request) → replay (within l n m []) (rest_in c rs) ≡ within l n m (rest_in c rs)
unfolding rest_in
rest_waits l n m c [] = by_none l n m
rest_waits l n m c (r ∷ rs) =
    ⊎_elim
    (λ (h : leb (length (record_bytes r)) c ≡ true).
    rw (pick_true (rest_in (c - length (record_bytes r)) rs) (take c (record_bytes r)) h) (rest_waits l n m (c - length (record_bytes r)) rs))
    (λ (h : leb (length (record_bytes r)) c ≡ false).
    let s : c < length (record_bytes r) = leb-false (length (record_bytes r)) c h in
    let e : take c (record_bytes r ++ []) ≡ take c (record_bytes r) = take-append-le c (record_bytes r) [] (omega arith) in
    rw (pick_false (rest_in (c - length (record_bytes r)) rs) (take c (record_bytes r)) h)
    (ap (replay (within l n m [])) (sym e)
    ∙ by_part l n m (record_bytes r ++ []) (kind_in r) (record_kind r []) c (omega (arith, length-append (record_bytes r) [])) (omega (arith, record_size r []))
    ∙ ap (within l n m) e))
    (decided (leb (length (record_bytes r)) c))

-- cut at any byte: the book after the whole records before the cut, how many they are, and their bytes
pub recovers_cut :
    (c : ℕ) {l : List ℕ} {rs : List Request} → Done l rs →
    replay (start l) (take c (journal rs))
    ≡ within (last l (take (whole_in c rs) rs)) (whole_in c rs) (length (journal (take (whole_in c rs) rs))) (rest_in c rs)
recovers_cut c {l} {rs} d =
    let before : List Request = take (whole_in c rs) rs in
    ap (replay (start l)) (cut_bytes c rs)
    ∙ recovers_then (done_take (whole_in c rs) d) (rest_in c rs)
    ∙ rest_waits (last l before) (length before) (length (journal before)) c rs
    ∙ ap (λ (n : ℕ). within (last l before) n (length (journal before)) (rest_in c rs)) (length-take-le (whole_in c rs) rs (cut_within c rs))

-- and what is cut off is less than a record, so at most 81 bytes
pub cut_few : (c : ℕ) {l : List ℕ} {rs : List Request} → Done l rs → length (rest_in c rs) ≤ 81
unfolding rest_in
cut_few c none = omega arith
cut_few c {l} (more {r = r} {rs = rs} b z d) =
    let few : length (record_bytes r) ≤ 82 = record_few l r z in
    ⊎_elim
    (λ (h : leb (length (record_bytes r)) c ≡ true).
    rw (pick_true (rest_in (c - length (record_bytes r)) rs) (take c (record_bytes r)) h) (cut_few (c - length (record_bytes r)) d))
    (λ (h : leb (length (record_bytes r)) c ≡ false).
    let s : c < length (record_bytes r) = leb-false (length (record_bytes r)) c h in
    rw (pick_false (rest_in (c - length (record_bytes r)) rs) (take c (record_bytes r)) h)
    (omega (arith, length-take-le c (record_bytes r) (omega arith))))
    (decided (leb (length (record_bytes r)) c))

-- ---- faults

module _ {l : List ℕ} {rs : List Request} (d : Done l rs) (f : List ℕ) where
  -- a record that is whole but would be refused: its number, and the book stops before it
  pub stops_refused :
      (r : Request) → Below word_limit (numbers_of r) → (number_at (last l rs) r ≡ 0 → ⊥) →
      replay (start l) (journal rs ++ (record_bytes r ++ f))
      ≡ stopped (last l rs) (length rs) (length (journal rs)) (record_bytes r) (Refused (number_at (last l rs) r))
  stops_refused r b z = recovers_then d (record_bytes r ++ f) ∙ record_refused (last l rs) (length rs) (length (journal rs)) r b f z

  -- a byte of no known kind
  pub stops_strange :
      (x : ℕ) → kind_of x ≡ Option.none → replay (start l) (journal rs ++ (x ∷ f)) ≡ stopped (last l rs) (length rs) (length (journal rs)) (x ∷ []) Strange
  stops_strange x e = recovers_then d (x ∷ f) ∙ by_strange (last l rs) (length rs) (length (journal rs)) (x ∷ f) (omega arith) e
