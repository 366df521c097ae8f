-- An image loads as the book that it was made of, no other bytes load as that book, and nothing else is accepted; an unfit book is not saved.
-- Assumes nothing.
use Prim.Native.Nat.{ℕ, ◌+◌, ◌*◌}
use native.Mathlib.Omega.{arith}
use mathlib.Core.Path.{◌≡◌, refl, sym, ◌∙◌, ap, ap₂, subst}
use mathlib.Core.Bool.{true, false, not}
use mathlib.Core.Logic.{◌↔◌}
use mathlib.Core.List.{List, [], ◌∷◌, ◌++◌}
use lib.Dec.{eqb, ltb, lit<}
use lib.ListN.{length, take, drop, take-append-drop, length-append, length-drop}
use lib.Seq.{take_all}
use borrow.Author.Tests.{eqb-true, eq-eqb, ltb-false, not-false}
use Rattle.loops.proofs.BoolLaws.{pick_true, and_left, and_right, and_intro, not_failed}
use Rattle.paper.specs.Calls.{here}
use Rattle.book.specs.Words.{part, put}
use Rattle.book.specs.Layout.{book_words}
use Rattle.book.proofs.WordsLaws.{put_same}
use Rattle.fit.specs.Fit.{fit}
use Rattle.register.proofs.Numbers.{first_passed}
use Rattle.register.proofs.TableLaws.{says_first}
use Rattle.wire.specs.Wire.{byte_limit, word_limit, word_bytes, Below}
use Rattle.wire.proofs.WireLaws.{Stands, stands_all, stands_left, stands_right, below_more, below_none}
use Rattle.numbers.specs.Numbers.{bytes_of, words_at}
use Rattle.numbers.proofs.NumberLaws.{length_bytes, words_stand, bytes_read, words_small, bytes_append}
use Rattle.image.specs.Image.{image_bytes, image_head, image_of, book_in, same, head_right, save_number, load_number, saved, loaded, ImageOf}
use Rattle.image.proofs.ImageLaws.{fit_long, head_long, same_is, same_self, accepts}

-- ---- the image of a book of words

-- an example, the one of docs/JOURNAL.md: the header of two depots with two shelves each, four bearings and two crews
pub a_header :
    (l : List ℕ) → bytes_of (image_head (2 ∷ 2 ∷ 4 ∷ 2 ∷ l))
    ≡ 73 ∷ 77 ∷ 71 ∷ 49 ∷ 2 ∷ 0 ∷ 0 ∷ 0 ∷ 2 ∷ 0 ∷ 0 ∷ 0 ∷ 4 ∷ 0 ∷ 0 ∷ 0 ∷ 2 ∷ 0 ∷ 0 ∷ 0 ∷ 0 ∷ 64 ∷ 0 ∷ 0 ∷ 32 ∷ 0 ∷ 0 ∷ 0 ∷ 32 ∷ 0 ∷ 1 ∷ 0 ∷ []
unfolding image_head bytes_of word_bytes
a_header l = refl

image_long : (l : List ℕ) → length l ≡ book_words → length (image_of l) ≡ image_bytes
unfolding image_of
image_long l h = length_bytes (image_head l ++ l) ∙ omega (arith, length-append (image_head l) l, head_long l)

module _ (l : List ℕ) (w : Below word_limit l) where
  head_small : Below word_limit (image_head l)
  unfolding image_head
  head_small =
      below_more _ _ _ (lit< tt)
      (below_more _ _ _ (w.at 0)
      (below_more _ _ _ (w.at 1)
      (below_more _ _ _ (w.at 2)
      (below_more _ _ _ (w.at 3) (below_more _ _ _ (lit< tt) (below_more _ _ _ (lit< tt) (below_more _ _ _ (lit< tt) (below_none word_limit (lit< tt)))))))))

  both_stand : Stands (image_of l) 0 (bytes_of (image_head l) ++ bytes_of l)
  unfolding image_of
  both_stand = subst (Stands (image_of l) 0) (bytes_append (image_head l) l) (stands_all (image_of l))

  head_back : words_at (image_of l) 0 8 ≡ image_head l
  head_back =
      ap (words_at (image_of l) 0) (sym (head_long l))
      ∙ words_stand (image_of l) 0 (image_head l) head_small (stands_left (image_of l) 0 (bytes_of (image_head l)) (bytes_of l) both_stand)

  book_stands : Stands (image_of l) 32 (bytes_of l)
  book_stands =
      let e : 0 + length (bytes_of (image_head l)) ≡ 32 = omega (arith, length_bytes (image_head l), head_long l) in
      subst (λ (n : ℕ). Stands (image_of l) n (bytes_of l)) e (stands_right (image_of l) 0 (bytes_of (image_head l)) (bytes_of l) both_stand)

  module _ (h : length l ≡ book_words) where
    book_back : book_in (image_of l) ≡ l
    unfolding book_in
    book_back = ap (words_at (image_of l) 32) (sym h) ∙ words_stand (image_of l) 32 l w book_stands

    header_back : head_right (image_of l) ≡ true
    unfolding head_right
    header_back = and_intro (eq-eqb _ _ (image_long l h)) (ap₂ same head_back (ap image_head book_back) ∙ same_self (image_head l))

  -- it loads as that book, into whatever stood there
  pub image_back : fit l ≡ true → (m : List ℕ) → length m ≡ book_words → (load_number (image_of l) (length m) ≡ 0) × (loaded (image_of l) m ≡ l)
  unfolding loaded
  image_back g m long =
      let h = fit_long l g in
      let z = accepts (image_of l) (length m) long (header_back h) (ap fit (book_back h) ∙ g) in
      (z, pick_true _ _ (eq-eqb _ _ z) ∙ book_back h)

-- two books with one image are the same
pub one_image : (l m : List ℕ) → Below word_limit l → Below word_limit m → length l ≡ book_words → length m ≡ book_words → image_of l ≡ image_of m → l ≡ m
one_image l m a b p q e = sym (book_back l a p) ∙ ap book_in e ∙ book_back m b q

-- ---- whatever is accepted

module _ (f : List ℕ) (b : Below byte_limit f) (long : length f ≡ image_bytes) (h : words_at f 0 8 ≡ image_head (book_in f)) where
  front : take 32 f ≡ bytes_of (image_head (book_in f))
  unfolding part
  front = bytes_read f 0 8 (omega arith) b ∙ ap bytes_of h

  back : drop 32 f ≡ bytes_of (book_in f)
  unfolding part book_in
  back = sym (take_all (4 * book_words) (drop 32 f) (omega (arith, length-drop 32 f))) ∙ bytes_read f 32 book_words (omega arith) b

  is_image : f ≡ image_of (book_in f)
  unfolding image_of
  is_image = sym (take-append-drop 32 f) ∙ ap₂ (λ (x y : List ℕ). x ++ y) front back ∙ sym (bytes_append (image_head (book_in f)) (book_in f))

is_loaded : (f l : List ℕ) → load_number f (length l) ≡ 0 → loaded f l ≡ book_in f
unfolding loaded
is_loaded f l z = pick_true _ _ (eq-eqb _ _ z)

book_small : (f : List ℕ) → Below byte_limit f → Below word_limit (book_in f)
unfolding book_in
book_small f b = words_small f 32 book_words b

-- a book of the right length is lent, the header is right and the image's book is fit: exactly then an image is accepted
pub accepted_exactly : (f : List ℕ) (n : ℕ) → (load_number f n ≡ 0) ↔ ((n ≡ book_words) × (head_right f ≡ true) × (fit (book_in f) ≡ true))
accepted_exactly f n = (passed f n, λ h. accepts f n h.0 h.1 h.2)
  where
    passed : (f : List ℕ) (n : ℕ) → load_number f n ≡ 0 → (n ≡ book_words) × (head_right f ≡ true) × (fit (book_in f) ≡ true)
    passed f n z = unfold load_number in
        let p = first_passed (not (eqb n book_words)) 100 _ (omega arith) z in
        let q = first_passed (not (head_right f)) 112 _ (omega arith) p.1 in
        let r = first_passed (not (fit (book_in f))) 1 _ (omega arith) q.1 in
        (eqb-true _ _ (not-false _ p.0), not-false _ q.0, not-false _ r.0)

-- bytes that are accepted are the image of a fit book, and that is what they load as
pub image_only : (f l : List ℕ) → Below byte_limit f → load_number f (length l) ≡ 0 → ImageOf f (loaded f l)
unfolding head_right
image_only f l b z =
    let a = (accepted_exactly f (length l)).0 z in
    let long = eqb-true (length f) image_bytes (and_left (eqb (length f) image_bytes) (same (words_at f 0 8) (image_head (book_in f))) a.1) in
    let heads = same_is _ _ (and_right (eqb (length f) image_bytes) (same (words_at f 0 8) (image_head (book_in f))) a.1) in
    subst (ImageOf f) (sym (is_loaded f l z))
    (record { image = is_image f b long heads; fits = a.2; words = book_small f b })

-- ---- saving

-- an unfit book is refused
pub unfit_refused : (l : List ℕ) (n : ℕ) → fit l ≡ false → save_number l n ≡ 1
unfolding save_number
unfit_refused l n h = says_first (here (not_failed h))

module _ (l o : List ℕ) (z : save_number l (length o) ≡ 0) where
  -- what is saved is fit and has room, and its image stands in the buffer from the first byte on
  pub save_fit : fit l ≡ true
  unfolding save_number
  save_fit = not-false _ (first_passed (not (fit l)) 1 _ (omega arith) z).0

  pub saved_image : take image_bytes (saved l o) ≡ image_of l
  unfolding save_number saved part
  saved_image =
      let p = first_passed (not (fit l)) 1 _ (omega arith) z in
      let q = first_passed (ltb (length o) image_bytes) 100 _ (omega arith) p.1 in
      let long = image_long l (fit_long l save_fit) in
      ap (take image_bytes) (pick_true _ _ (eq-eqb _ _ z))
      ∙ ap (λ (n : ℕ). take n (put o 0 (image_of l))) (sym long)
      ∙ put_same o 0 (image_of l) (omega (arith, ltb-false (length o) image_bytes q.0, long))

  -- and it loads as the book that was saved
  pub saved_back :
      Below word_limit l → (m : List ℕ) → length m ≡ book_words → (load_number (take image_bytes (saved l o)) (length m) ≡ 0) × (loaded (take image_bytes (saved l o)) m ≡ l)
  saved_back w m long =
      subst (λ (f : List ℕ). (load_number f (length m) ≡ 0) × (loaded f m ≡ l)) (sym saved_image) (image_back l w save_fit m long)
