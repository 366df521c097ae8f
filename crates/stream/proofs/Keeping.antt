-- What the desk logs is a journal: after any pieces it is the journal of what they got done, and that is a history which leaves the book. So behind the journal that
-- the desk started from it recovers as the book; and cut at any byte of the last piece's records, as the book before that piece and a first stretch of what the piece got done.
-- Assumes nothing.
use Prim.Native.Nat.{ℕ, suc, ◌+◌, ◌-◌, ◌≤◌}
use native.Mathlib.Nat.{zero-add, suc-add}
use native.Mathlib.Omega.{arith}
use mathlib.Core.Path.{◌≡◌, refl, sym, ◌∙◌, ap, ap₂, subst}
use mathlib.Core.Logic.{⊎_elim}
use mathlib.Core.List.{List, [], ◌∷◌, ◌++◌, append_assoc}
use lib.Dec.{leb}
use lib.ListN.{length, take, length-append}
use lib.Seq.{take-append-add}
use borrow.Author.Tests.{le-leb}
use Rattle.loops.specs.Loops.{pick}
use Rattle.loops.proofs.BoolLaws.{eq_or_ne, pick_true}
use Rattle.upkeep.specs.Requests.{Request, last}
use Rattle.journal.specs.Record.{record_bytes}
use Rattle.journal.specs.Journal.{journal, Done, whole_in, rest_in, start, within, replay}
use Rattle.journal.proofs.Theorems.{recovers, recovers_cut}
use Rattle.events.specs.Answering.{answer_to, done_by, record_to, book_after_line}
use Rattle.events.proofs.KeepLaws.{Journals, journals_none, journals_then, journal_append, last_append, line_journals}
use Rattle.stream.specs.Stream.{lines_of, done_in, line_at, book_at, gives_at, book_through, gives_through, book_last, gives_last, line_piece, book_piece, gives_piece, line_pieces}
use Rattle.stream.specs.Stream.{book_pieces, gives_pieces, done_piece, done_pieces, log_piece, log_pieces, joined, Pieces}
use Rattle.stream.proofs.StreamLaws.{book_ends, book_stays, gives_ends, gives_nothing, last_none, last_some, last_gives_none, last_gives}
use Rattle.stream.proofs.Theorems.{desk_done}

-- ---- what is logged is the journal of what gets done

same_journals : {l j j' v v' : List ℕ} {rs rs' : List Request} → rs' ≡ rs → j' ≡ j → v' ≡ v → Journals l rs j v → Journals l rs' j' v'
same_journals {l} a b c h = rw (a, b, c) h

byte_journals : (l p : List ℕ) (b : ℕ) → Journals l (gives_at done_by l p b) (gives_at record_to l p b) (book_at l p b)
byte_journals l p b =
    ⊎_elim
    (λ (e : b ≡ 10). same_journals (gives_ends done_by l p b e) (gives_ends record_to l p b e) (book_ends l p b e) (line_journals l p))
    (λ (e : b ≡ 10 → ⊥). same_journals (gives_nothing done_by l p b e) (gives_nothing record_to l p b e) (book_stays l p b e) (journals_none l))
    (eq_or_ne b 10)

through_journals : (l p t : List ℕ) → Journals l (gives_through done_by l p t) (gives_through record_to l p t) (book_through l p t)
unfolding gives_through book_through
through_journals l p [] = journals_none l
through_journals l p (b ∷ t) = journals_then (byte_journals l p b) (through_journals (book_at l p b) (line_at p b) t)

last_journals : (l p : List ℕ) → Journals l (gives_last done_by l p) (gives_last record_to l p) (book_last l p)
last_journals l p =
    ⊎_elim
    (λ (e : length p ≡ 0). same_journals (last_gives_none l p e done_by) (last_gives_none l p e record_to) (last_none l p e) (journals_none l))
    (λ (e : length p ≡ 0 → ⊥). same_journals (last_gives l p e done_by) (last_gives l p e record_to) (last_some l p e) (line_journals l p))
    (eq_or_ne (length p) 0)

pub piece_journals : (l p c : List ℕ) → Journals l (done_piece l p c) (log_piece l p c) (book_piece l p c)
unfolding gives_piece book_piece
piece_journals l p [] = last_journals l p
piece_journals l p (b ∷ c) = through_journals l p (b ∷ c)

pub pieces_journals : (l p : List ℕ) (cs : List (List ℕ)) → Journals l (done_pieces l p cs) (log_pieces l p cs) (book_pieces l p cs)
unfolding gives_pieces book_pieces
pieces_journals l p [] = journals_none l
pieces_journals l p (c ∷ cs) = journals_then (piece_journals l p c) (pieces_journals (book_piece l p c) (line_piece p c) cs)

-- of a whole input: the journal of what its lines get done, in order
pub desk_log : (l : List ℕ) (cs : List (List ℕ)) → Pieces cs → log_pieces l [] (cs ++ ([] ∷ [])) ≡ journal (done_in l (lines_of (joined cs)))
desk_log l cs h = (pieces_journals l [] (cs ++ ([] ∷ []))).bytes ∙ ap journal (desk_done l cs h)

-- ---- behind the journal that the desk started from

module _ {l₀ : List ℕ} {rs : List Request} (d : Done l₀ rs) (p : List ℕ) (cs : List (List ℕ)) where
  -- the book, before the pieces and after them
  abbrev before : List ℕ
  before = last l₀ rs

  abbrev behind : List ℕ
  behind = book_pieces before p cs

  started : Journals l₀ rs (journal rs) before
  started = record { history = d; bytes = refl; book = refl }

  so_far : Journals l₀ (rs ++ done_pieces before p cs) (journal rs ++ log_pieces before p cs) behind
  so_far = journals_then started (pieces_journals before p cs)

  -- what was logged recovers as the book
  pub log_recovers :
      replay (start l₀) (journal rs ++ log_pieces before p cs)
      ≡ within behind (length (rs ++ done_pieces before p cs)) (length (journal rs ++ log_pieces before p cs)) []
  log_recovers =
      ap (replay (start l₀)) so_far.bytes
      ∙ recovers so_far.history
      ∙ ap₂ (λ (l f : List ℕ). within l (length (rs ++ done_pieces before p cs)) (length f) []) (sym so_far.book) (sym so_far.bytes)

-- ---- cut

-- of a cut behind the records of rs: these are whole, and of those behind them as many as before
whole_behind : (k : ℕ) (rs ss : List Request) → whole_in (length (journal rs) + k) (rs ++ ss) ≡ length rs + whole_in k ss
unfolding journal whole_in
whole_behind k [] ss = ap (λ (i : ℕ). whole_in i ss) (zero-add k) ∙ sym (zero-add (whole_in k ss))
whole_behind k (r ∷ rs) ss =
    let long = length-append (record_bytes r) (journal rs) in
    let left : length (record_bytes r ++ journal rs) + k - length (record_bytes r) ≡ length (journal rs) + k = omega arith in
    pick_true _ _ (le-leb (length (record_bytes r)) (length (record_bytes r ++ journal rs) + k) (omega arith))
    ∙ ap (λ (i : ℕ). suc (whole_in i (rs ++ ss))) left
    ∙ ap suc (whole_behind k rs ss)
    ∙ sym (suc-add (length rs) (whole_in k ss))

rest_behind : (k : ℕ) (rs ss : List Request) → rest_in (length (journal rs) + k) (rs ++ ss) ≡ rest_in k ss
unfolding journal rest_in
rest_behind k [] ss = ap (λ (i : ℕ). rest_in i ss) (zero-add k)
rest_behind k (r ∷ rs) ss =
    let long = length-append (record_bytes r) (journal rs) in
    let left : length (record_bytes r ++ journal rs) + k - length (record_bytes r) ≡ length (journal rs) + k = omega arith in
    pick_true _ _ (le-leb (length (record_bytes r)) (length (record_bytes r ++ journal rs) + k) (omega arith))
    ∙ ap (λ (i : ℕ). rest_in i (rs ++ ss)) left
    ∙ rest_behind k rs ss

cut_behind : {l : List ℕ} (rs ss : List Request) (k : ℕ) → Done l (rs ++ ss) →
    replay (start l) (journal rs ++ take k (journal ss))
    ≡ within (last (last l rs) (take (whole_in k ss) ss)) (length rs + whole_in k ss) (length (journal (rs ++ take (whole_in k ss) ss))) (rest_in k ss)
cut_behind {l} rs ss k d =
    let c : ℕ = length (journal rs) + k in
    let n : ℕ = whole_in k ss in
    let bytes : take c (journal (rs ++ ss)) ≡ journal rs ++ take k (journal ss)
    = ap (take c) (journal_append rs ss) ∙ take-append-add (journal rs) (journal ss) k in
    let firsts : take (whole_in c (rs ++ ss)) (rs ++ ss) ≡ rs ++ take n ss
    = ap (λ (i : ℕ). take i (rs ++ ss)) (whole_behind k rs ss) ∙ take-append-add rs ss n in
    ap (replay (start l)) (sym bytes)
    ∙ recovers_cut c d
    ∙ ap₂ (λ (q : List Request) (i : ℕ). within (last l q) i (length (journal q)) (rest_in c (rs ++ ss))) firsts (whole_behind k rs ss)
    ∙ ap₂ (λ (m f : List ℕ). within m (length rs + n) (length (journal (rs ++ take n ss))) f) (last_append l rs (take n ss)) (rest_behind k rs ss)

module _ {l₀ : List ℕ} {rs : List Request} (d : Done l₀ rs) (p : List ℕ) (cs : List (List ℕ)) (c : List ℕ) (k : ℕ) where
  -- what had been done before the piece c, and what that piece gets done
  abbrev had : List Request
  had = rs ++ done_pieces (last l₀ rs) p cs

  abbrev under_way : List Request
  under_way = done_piece (book_pieces (last l₀ rs) p cs) (line_pieces p cs) c

  -- cut at any byte of the last piece's records: all that was logged before it, and a first stretch of what it got done
  pub log_cut :
      replay (start l₀) ((journal rs ++ log_pieces (last l₀ rs) p cs) ++ take k (log_piece (book_pieces (last l₀ rs) p cs) (line_pieces p cs) c))
      ≡ within (last (book_pieces (last l₀ rs) p cs) (take (whole_in k under_way) under_way)) (length had + whole_in k under_way)
      (length (journal (had ++ take (whole_in k under_way) under_way))) (rest_in k under_way)
  log_cut =
      let one = so_far d p cs in
      let more = piece_journals (book_pieces (last l₀ rs) p cs) (line_pieces p cs) c in
      ap₂ (λ (x y : List ℕ). replay (start l₀) (x ++ take k y)) one.bytes more.bytes
      ∙ cut_behind had under_way k (journals_then one more).history
      ∙ ap (λ (m : List ℕ). within (last m (take (whole_in k under_way) under_way)) (length had + whole_in k under_way)
      (length (journal (had ++ take (whole_in k under_way) under_way))) (rest_in k under_way)) (sym one.book)
