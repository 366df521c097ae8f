-- The desk on a whole input, and how it goes on byte by byte. p is the line so far.
-- Assumes nothing.
use Rattle.std.specs.Prelude.{ℕ, ◌≤◌, ◌<◌, ◌≡◌, ◌⊎◌, true, List, [], ◌∷◌, ◌++◌, eqb, ltb, length, replicate, take, get_or}
use Rattle.loops.specs.Loops.{pick}
use Rattle.book.specs.Layout.{book_words}
use Rattle.fit.specs.Fit.{fit}
use Rattle.upkeep.specs.Requests.{Request, last}
use Rattle.events.specs.Answering.{line_feed, Giving, answer_to, done_by, record_to, book_after_line}

-- ---- what is promised of a whole input

-- the lines of a text whose first line begins with p; a last line without its line feed counts if not empty
unfoldable pub lines_from : List ℕ → List ℕ → List (List ℕ)
lines_from p [] = pick (eqb (length p) 0) [] (p ∷ [])
lines_from p (b ∷ t) = pick (eqb b line_feed) (p ∷ lines_from [] t) (lines_from (p ++ (b ∷ [])) t)

unfoldable pub lines_of : List ℕ → List (List ℕ)
lines_of t = lines_from [] t

-- what each line gives, to the book that the line before left
unfoldable pub given_to : {A : Type 0} → Giving A → List ℕ → List (List ℕ) → List A
given_to g l [] = []
given_to g l (s ∷ ss) = g l s ++ given_to g (book_after_line l s) ss

-- one answer for each line
abbrev pub answers_to : List ℕ → List (List ℕ) → List ℕ
answers_to l ss = given_to answer_to l ss

-- the requests that lines got done, in order
abbrev pub done_in : List ℕ → List (List ℕ) → List Request
done_in l ss = given_to done_by l ss

unfoldable pub book_after_all : List ℕ → List (List ℕ) → List ℕ
book_after_all l [] = l
book_after_all l (s ∷ ss) = book_after_all (book_after_line l s) ss

-- the book starts as zeros
abbrev pub zero_book : List ℕ
zero_book = replicate book_words 0

-- the whole output for a whole input
unfoldable pub output : List ℕ → List ℕ
output t = answers_to zero_book (lines_of t)

-- ---- byte by byte

-- of a long line 121 bytes are kept: enough to refuse it
abbrev pub kept_bytes : ℕ
kept_bytes = 121

-- the line so far after the byte b
unfoldable pub line_at : List ℕ → ℕ → List ℕ
line_at p b = pick (eqb b line_feed) [] (pick (ltb (length p) kept_bytes) (p ++ (b ∷ [])) p)

-- the book after it
unfoldable pub book_at : List ℕ → List ℕ → ℕ → List ℕ
book_at l p b = pick (eqb b line_feed) (book_after_line l p) l

-- and what it gives
unfoldable pub gives_at : {A : Type 0} → Giving A → List ℕ → List ℕ → ℕ → List A
gives_at g l p b = pick (eqb b line_feed) (g l p) []

-- the same for all the bytes of a text
unfoldable pub line_through : List ℕ → List ℕ → List ℕ
line_through p [] = p
line_through p (b ∷ t) = line_through (line_at p b) t

unfoldable pub book_through : List ℕ → List ℕ → List ℕ → List ℕ
book_through l p [] = l
book_through l p (b ∷ t) = book_through (book_at l p b) (line_at p b) t

unfoldable pub gives_through : {A : Type 0} → Giving A → List ℕ → List ℕ → List ℕ → List A
gives_through g l p [] = []
gives_through g l p (b ∷ t) = gives_at g l p b ++ gives_through g (book_at l p b) (line_at p b) t

-- at the end of the input a last line counts if not empty
unfoldable pub gives_last : {A : Type 0} → Giving A → List ℕ → List ℕ → List A
gives_last g l p = pick (eqb (length p) 0) [] (g l p)

unfoldable pub book_last : List ℕ → List ℕ → List ℕ
book_last l p = pick (eqb (length p) 0) l (book_after_line l p)

-- ---- piece by piece

-- a piece of no bytes is the end of the input: after it a new line begins
unfoldable pub line_piece : List ℕ → List ℕ → List ℕ
line_piece p [] = []
line_piece p (b ∷ t) = line_through p (b ∷ t)

unfoldable pub book_piece : List ℕ → List ℕ → List ℕ → List ℕ
book_piece l p [] = book_last l p
book_piece l p (b ∷ t) = book_through l p (b ∷ t)

unfoldable pub gives_piece : {A : Type 0} → Giving A → List ℕ → List ℕ → List ℕ → List A
gives_piece g l p [] = gives_last g l p
gives_piece g l p (b ∷ t) = gives_through g l p (b ∷ t)

-- the same for pieces, one after the other
unfoldable pub line_pieces : List ℕ → List (List ℕ) → List ℕ
line_pieces p [] = p
line_pieces p (c ∷ cs) = line_pieces (line_piece p c) cs

unfoldable pub book_pieces : List ℕ → List ℕ → List (List ℕ) → List ℕ
book_pieces l p [] = l
book_pieces l p (c ∷ cs) = book_pieces (book_piece l p c) (line_piece p c) cs

unfoldable pub gives_pieces : {A : Type 0} → Giving A → List ℕ → List ℕ → List (List ℕ) → List A
gives_pieces g l p [] = []
gives_pieces g l p (c ∷ cs) = gives_piece g l p c ++ gives_pieces g (book_piece l p c) (line_piece p c) cs

-- what is said, what gets done, and the records of it
abbrev pub says_piece : List ℕ → List ℕ → List ℕ → List ℕ
says_piece l p c = gives_piece answer_to l p c

abbrev pub says_pieces : List ℕ → List ℕ → List (List ℕ) → List ℕ
says_pieces l p cs = gives_pieces answer_to l p cs

abbrev pub done_piece : List ℕ → List ℕ → List ℕ → List Request
done_piece l p c = gives_piece done_by l p c

abbrev pub done_pieces : List ℕ → List ℕ → List (List ℕ) → List Request
done_pieces l p cs = gives_pieces done_by l p cs

abbrev pub log_piece : List ℕ → List ℕ → List ℕ → List ℕ
log_piece l p c = gives_piece record_to l p c

abbrev pub log_pieces : List ℕ → List ℕ → List (List ℕ) → List ℕ
log_pieces l p cs = gives_pieces record_to l p cs

-- a whole input in pieces: each has bytes, and they join to the text
unfoldable pub joined : List (List ℕ) → List ℕ
joined [] = []
joined (c ∷ cs) = c ++ joined cs

unfoldable pub Pieces : List (List ℕ) → Type 0
Pieces [] = Unit {0}
Pieces (c ∷ cs) = (0 < length c) × Pieces cs

-- ---- the buffer of the line so far

-- the bytes that are kept, and after them their count
abbrev pub line_room : ℕ
line_room = 122

-- the line that a buffer holds: as many of its bytes as its last one counts
unfoldable pub line_in : List ℕ → List ℕ
line_in m = take (get_or m kept_bytes 0) m

pub record Holder (m : List ℕ) : Type 0 where
  pub room : length m ≡ line_room
  pub counted : get_or m kept_bytes 0 ≤ kept_bytes

-- ---- the loop of the desk

-- the book that a journal goes on from: one of zeros, or the fit book of an image
abbrev pub Fresh : List ℕ → Type 0
Fresh l = (l ≡ zero_book) ⊎ (fit l ≡ true)

-- the book l that a desk begins with: such a book after some requests, as the records of a journal ask them, or after none
pub record Began (l : List ℕ) : Type 0 where
  pub from : List ℕ
  pub fresh : Fresh from
  pub requests : List Request
  pub book : l ≡ last from requests

-- the book l is the one after some pieces, from the book l₀ on, and the buffer m holds the line that they leave begun
pub record Served (l₀ l m : List ℕ) : Type 0 where
  pub holder : Holder m
  pub pieces : List (List ℕ)
  pub book : l ≡ book_pieces l₀ [] pieces
  pub line : line_in m ≡ line_pieces [] pieces

-- the book alone
pub record Left (l₀ l : List ℕ) : Type 0 where
  pub pieces : List (List ℕ)
  pub book : l ≡ book_pieces l₀ [] pieces
