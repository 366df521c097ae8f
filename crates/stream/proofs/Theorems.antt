-- The desk on a whole input: whatever pieces it comes in, what is said to its bytes and at its end is one answer for each line, in order, and what gets done is what
-- its lines get done.
-- Keeping 121 bytes of a line is enough: a longer one is bad, and so is what is kept of it.
-- Assumes nothing.
use Prim.Native.Nat.{ℕ, zero, suc, ◌≤◌, ◌<◌}
use native.Mathlib.Omega.{arith}
use mathlib.Core.Path.{◌≡◌, refl, sym, ◌∙◌, ap, ap₂}
use mathlib.Core.Logic.{inl, ⊎_elim}
use mathlib.Core.List.{List, [], ◌∷◌, ◌++◌, append-nil, append_assoc}
use lib.Dec.{eqb}
use lib.ListN.{length, take, replicate, length-append, length-take}
use lib.Seq.{take_all, take-append-le}
use borrow.Author.Tests.{eq-eqb, ne_eqb}
use Rattle.loops.proofs.BoolLaws.{le_or_lt, eq_or_ne, pick_true, pick_false}
use Rattle.line.specs.Reading.{Reading, reading}
use Rattle.line.proofs.LineLaws.{reading_cut}
use Rattle.upkeep.specs.Requests.{last}
use Rattle.events.specs.Answering.{line_feed, Giving, reading_says, reading_done, reading_book, answer_to, done_by, book_after_line}
use Rattle.stream.specs.Stream.{lines_from, lines_of, given_to, done_in, book_after_all, zero_book, output, line_at, book_at, gives_at, line_through, book_through, gives_through}
use Rattle.stream.specs.Stream.{gives_last, book_last, line_piece, book_piece, gives_piece, line_pieces, book_pieces, gives_pieces, says_pieces, done_pieces, joined, Pieces}
use Rattle.stream.specs.Stream.{line_in, Holder, Fresh, Began, Served}
use Rattle.stream.proofs.StreamLaws.{line_ends, book_ends, gives_ends, line_grows, line_full, book_stays, gives_nothing, line_append, book_append, gives_append, piece_some, piece_gives}

-- ---- what is kept of a line serves for the line

-- the 121 bytes that are kept of p
abbrev cut_to : List ℕ → List ℕ
cut_to p = take 121 p

cut_reading : (p : List ℕ) → reading (cut_to p) ≡ reading p
cut_reading p =
    ⊎_elim
    (λ (h : length p ≤ 121). ap reading (take_all 121 p h))
    (λ (h : 121 < length p). reading_cut p 121 (omega arith) (omega arith))
    (le_or_lt (length p) 121)

-- what a line gives goes by what it says
pub record Read {A : Type 0} (g : Giving A) : Type 0 where
  pub same : (l s t : List ℕ) → reading s ≡ reading t → g l s ≡ g l t

pub answers_read : Read answer_to
unfolding answer_to
answers_read = record { same = λ l s t e. ap (λ (r : Reading). reading_says l r ++ (line_feed ∷ [])) e }

pub done_read : Read done_by
unfolding done_by
done_read = record { same = λ l s t e. ap (reading_done l) e }

cut_gives : {A : Type 0} {g : Giving A} → Read g → (l p : List ℕ) → g l (cut_to p) ≡ g l p
cut_gives r l p = r.same l (cut_to p) p (cut_reading p)

cut_book : (l p : List ℕ) → book_after_line l (cut_to p) ≡ book_after_line l p
unfolding book_after_line
cut_book l p = ap (reading_book l) (cut_reading p)

-- one byte more is kept of a line of one byte more
cut_grows : (p : List ℕ) (b : ℕ) → (b ≡ line_feed → ⊥) → line_at (cut_to p) b ≡ cut_to (p ++ (b ∷ []))
cut_grows p b h =
    let longer = length-append p (b ∷ []) in
    ⊎_elim
    (λ (k : 121 ≤ length p).
    let full = length-take 121 p in
    line_full (cut_to p) b h (omega arith) ∙ sym (take-append-le 121 p (b ∷ []) k))
    (λ (k : length p < 121).
    ap (λ (x : List ℕ). line_at x b) (take_all 121 p (omega arith)) ∙ line_grows p b h k ∙ sym (take_all 121 (p ++ (b ∷ [])) (omega arith)))
    (le_or_lt 121 (length p))

some_empty : (n : ℕ) (p : List ℕ) → 0 < n → eqb (length (take n p)) 0 ≡ eqb (length p) 0
some_empty zero p h = absurd (omega arith)
some_empty (suc n) [] h = refl
some_empty (suc n) (b ∷ p) h =
    ne_eqb (suc (length (take n p))) 0 (λ (k : suc (length (take n p)) ≡ 0). omega arith) ∙ sym (ne_eqb (suc (length p)) 0 (λ (k : suc (length p) ≡ 0). omega arith))

cut_empty : (p : List ℕ) → eqb (length (cut_to p)) 0 ≡ eqb (length p) 0
cut_empty p = some_empty 121 p (omega arith)

-- ---- what the bytes give, and then the end

unfoldable pub gives_all : {A : Type 0} → Giving A → List ℕ → List ℕ → List ℕ → List A
gives_all g l p t = gives_through g l p t ++ gives_last g (book_through l p t) (line_through p t)

unfoldable pub book_all : List ℕ → List ℕ → List ℕ → List ℕ
book_all l p t = book_last (book_through l p t) (line_through p t)

gives_next : {A : Type 0} (g : Giving A) (l p : List ℕ) (b : ℕ) (t : List ℕ) → gives_all g l p (b ∷ t) ≡ gives_at g l p b ++ gives_all g (book_at l p b) (line_at p b) t
unfolding gives_all gives_through book_through line_through
gives_next g l p b t = append_assoc (gives_at g l p b) (gives_through g (book_at l p b) (line_at p b) t) _

book_next : (l p : List ℕ) (b : ℕ) (t : List ℕ) → book_all l p (b ∷ t) ≡ book_all (book_at l p b) (line_at p b) t
unfolding book_all book_through line_through
book_next l p b t = refl

-- a text whose first line begins with p
pub gives_lines : {A : Type 0} {g : Giving A} → Read g → (l p t : List ℕ) → gives_all g l (cut_to p) t ≡ given_to g l (lines_from p t)
unfolding gives_all gives_through book_through line_through gives_last lines_from given_to
gives_lines {g = g} r l p [] =
    ⊎_elim
    (λ (h : length p ≡ 0).
    pick_true _ _ (cut_empty p ∙ eq-eqb _ 0 h) ∙ sym (ap (given_to g l) (pick_true _ _ (eq-eqb _ 0 h))))
    (λ (h : length p ≡ 0 → ⊥).
    pick_false _ _ (cut_empty p ∙ ne_eqb _ 0 h)
    ∙ cut_gives r l p
    ∙ sym (append-nil (g l p))
    ∙ sym (ap (given_to g l) (pick_false _ _ (ne_eqb _ 0 h))))
    (eq_or_ne (length p) 0)
gives_lines {A} {g} r l p (b ∷ t) =
    gives_next g l (cut_to p) b t
    ∙ ⊎_elim
    (λ (h : b ≡ 10).
    ap (λ (x : List A). x ++ gives_all g (book_at l (cut_to p) b) (line_at (cut_to p) b) t) (gives_ends g l (cut_to p) b h ∙ cut_gives r l p)
    ∙ ap (λ (x : List A). g l p ++ x)
    (ap₂ (λ (m q : List ℕ). gives_all g m q t) (book_ends l (cut_to p) b h ∙ cut_book l p) (line_ends (cut_to p) b h) ∙ gives_lines r (book_after_line l p) [] t)
    ∙ sym (ap (given_to g l) (pick_true _ _ (eq-eqb b 10 h))))
    (λ (h : b ≡ 10 → ⊥).
    ap (λ (x : List A). x ++ gives_all g (book_at l (cut_to p) b) (line_at (cut_to p) b) t) (gives_nothing g l (cut_to p) b h)
    ∙ ap₂ (λ (m q : List ℕ). gives_all g m q t) (book_stays l (cut_to p) b h) (cut_grows p b h)
    ∙ gives_lines r l (p ++ (b ∷ [])) t
    ∙ sym (ap (given_to g l) (pick_false _ _ (ne_eqb b 10 h))))
    (eq_or_ne b 10)

pub book_lines : (l p t : List ℕ) → book_all l (cut_to p) t ≡ book_after_all l (lines_from p t)
unfolding book_all book_through line_through book_last lines_from book_after_all
book_lines l p [] =
    ⊎_elim
    (λ (h : length p ≡ 0).
    pick_true _ _ (cut_empty p ∙ eq-eqb _ 0 h) ∙ sym (ap (book_after_all l) (pick_true _ _ (eq-eqb _ 0 h))))
    (λ (h : length p ≡ 0 → ⊥).
    pick_false _ _ (cut_empty p ∙ ne_eqb _ 0 h) ∙ cut_book l p ∙ sym (ap (book_after_all l) (pick_false _ _ (ne_eqb _ 0 h))))
    (eq_or_ne (length p) 0)
book_lines l p (b ∷ t) =
    book_next l (cut_to p) b t
    ∙ ⊎_elim
    (λ (h : b ≡ 10).
    ap₂ (λ (m q : List ℕ). book_all m q t) (book_ends l (cut_to p) b h ∙ cut_book l p) (line_ends (cut_to p) b h)
    ∙ book_lines (book_after_line l p) [] t
    ∙ sym (ap (book_after_all l) (pick_true _ _ (eq-eqb b 10 h))))
    (λ (h : b ≡ 10 → ⊥).
    ap₂ (λ (m q : List ℕ). book_all m q t) (book_stays l (cut_to p) b h) (cut_grows p b h)
    ∙ book_lines l (p ++ (b ∷ [])) t
    ∙ sym (ap (book_after_all l) (pick_false _ _ (ne_eqb b 10 h))))
    (eq_or_ne b 10)

-- ---- pieces, and then the end

some : (c : List ℕ) → 0 < length c → length c ≡ 0 → ⊥
some c h z = omega arith

-- the end after pieces
abbrev and_end : List (List ℕ) → List (List ℕ)
and_end cs = cs ++ ([] ∷ [])

gives_joined : {A : Type 0} (g : Giving A) (l p : List ℕ) (cs : List (List ℕ)) → Pieces cs → gives_pieces g l p (and_end cs) ≡ gives_all g l p (joined cs)
unfolding gives_pieces gives_piece joined Pieces gives_all gives_through book_through line_through
gives_joined g l p [] h = append-nil (gives_last g l p)
gives_joined {A} g l p (c ∷ cs) h =
    let one = piece_some l p c (some c h.0) in
    ap₂ (λ (x y : List A). x ++ y) (piece_gives g l p c (some c h.0)) (ap₂ (λ (m q : List ℕ). gives_pieces g m q (and_end cs)) one.0 one.1 ∙ gives_joined g (book_through l p c) (line_through p c) cs h.1)
    ∙ sym (append_assoc (gives_through g l p c) (gives_through g (book_through l p c) (line_through p c) (joined cs)) _)
    ∙ ap₂ (λ (x y : List A). x ++ y) (sym (gives_append g l p c (joined cs)))
    (ap₂ (gives_last g) (sym (book_append l p c (joined cs))) (sym (line_append p c (joined cs))))

book_joined : (l p : List ℕ) (cs : List (List ℕ)) → Pieces cs → book_pieces l p (and_end cs) ≡ book_all l p (joined cs)
unfolding book_pieces book_piece joined Pieces book_all book_through line_through
book_joined l p [] h = refl
book_joined l p (c ∷ cs) h =
    let one = piece_some l p c (some c h.0) in
    ap₂ (λ (m q : List ℕ). book_pieces m q (and_end cs)) one.0 one.1
    ∙ book_joined (book_through l p c) (line_through p c) cs h.1
    ∙ ap₂ book_last (sym (book_append l p c (joined cs))) (sym (line_append p c (joined cs)))

-- ---- a whole input, in whatever pieces: what is said to them and at the end is one answer for each line, and what gets done is what the lines get done

gives_whole : {A : Type 0} {g : Giving A} → Read g → (l : List ℕ) (cs : List (List ℕ)) → Pieces cs → gives_pieces g l [] (cs ++ ([] ∷ [])) ≡ given_to g l (lines_of (joined cs))
unfolding lines_of
gives_whole {g = g} r l cs h = gives_joined g l [] cs h ∙ gives_lines r l [] (joined cs)

pub desk_output : (cs : List (List ℕ)) → Pieces cs → says_pieces zero_book [] (cs ++ ([] ∷ [])) ≡ output (joined cs)
unfolding output
desk_output cs h = gives_whole answers_read zero_book cs h

pub desk_done : (l : List ℕ) (cs : List (List ℕ)) → Pieces cs → done_pieces l [] (cs ++ ([] ∷ [])) ≡ done_in l (lines_of (joined cs))
desk_done l cs h = gives_whole done_read l cs h

pub desk_book : (cs : List (List ℕ)) → Pieces cs → book_pieces zero_book [] (cs ++ ([] ∷ [])) ≡ book_after_all zero_book (lines_of (joined cs))
unfolding lines_of
desk_book cs h = book_joined zero_book [] cs h ∙ book_lines zero_book [] (joined cs)

-- ---- one piece more

line_piece_more : (p : List ℕ) (cs : List (List ℕ)) (c : List ℕ) → line_pieces p (cs ++ (c ∷ [])) ≡ line_piece (line_pieces p cs) c
unfolding line_pieces
line_piece_more p [] c = refl
line_piece_more p (x ∷ cs) c = line_piece_more (line_piece p x) cs c

book_piece_more : (l p : List ℕ) (cs : List (List ℕ)) (c : List ℕ) → book_pieces l p (cs ++ (c ∷ [])) ≡ book_piece (book_pieces l p cs) (line_pieces p cs) c
unfolding book_pieces line_pieces
book_piece_more l p [] c = refl
book_piece_more l p (x ∷ cs) c = book_piece_more (book_piece l p x) (line_piece p x) cs c

-- the desk may begin with a book that a journal goes on from, so with a book of zeros
pub began_fresh : (l : List ℕ) → Fresh l → Began l
unfolding last
began_fresh l h = record { from = l; fresh = h; requests = []; book = refl }

pub began_zeros : Began zero_book
began_zeros = began_fresh zero_book (inl refl)

-- the desk starts: no line is begun
pub served_start : (l : List ℕ) → Served l l (replicate 122 0)
unfolding book_pieces line_pieces line_in
served_start l = record { holder = record { room = refl; counted = omega arith }; pieces = []; book = refl; line = refl }

-- and goes on
pub served_more : {l₀ l m l' m' : List ℕ} (c : List ℕ) → Served l₀ l m → l' ≡ book_piece l (line_in m) c → Holder m' × (line_in m' ≡ line_piece (line_in m) c) → Served l₀ l' m'
served_more {l₀} c s h k =
    record {
      holder = k.0;
      pieces = s.pieces ++ (c ∷ []);
      book = h ∙ ap₂ (λ (x y : List ℕ). book_piece x y c) s.book s.line ∙ sym (book_piece_more l₀ [] s.pieces c);
      line = k.1 ∙ ap (λ (x : List ℕ). line_piece x c) s.line ∙ sym (line_piece_more [] s.pieces c);
    }
