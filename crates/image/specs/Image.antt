-- An image of a book, as docs/JOURNAL.md tells it: eight numbers of header, the words of the book, and nothing else; when one is saved and when loaded.
-- Assumes nothing.
use Rattle.std.specs.Prelude.{ℕ, ◌≡◌, Bool, true, false, ◌&&◌, not, List, [], ◌∷◌, ◌++◌, eqb, ltb, length, Result, Ok, Err}
use Rattle.loops.specs.Loops.{pick}
use Rattle.paper.specs.Calls.{first}
use Rattle.room.specs.Room.{no_room}
use Rattle.book.specs.Words.{put}
use Rattle.book.specs.Layout.{book_words, counts_of}
use Rattle.fit.specs.Fit.{fit}
use Rattle.wire.specs.Wire.{word_limit, Below}
use Rattle.numbers.specs.Numbers.{bytes_of, words_at}
use Rattle.image.specs.declared.ImageRefusal.{ImageRefusal}
use Rattle.image.specs.declared.ImageRefusal.TheVariants.{NoRoom, BadBook, BadImage}

-- how many bytes an image has
abbrev pub image_bytes : ℕ
image_bytes = 65568

-- the number for bytes that are no image
abbrev pub bad_image : ℕ
bad_image = 112

-- "IMG1"; the four counts; how many words the book has, where it begins and where it ends
unfoldable pub image_head : List ℕ → List ℕ
image_head l =
    826756425 ∷ (counts_of l).depots ∷ (counts_of l).shelves ∷ (counts_of l).bearings ∷ (counts_of l).crews ∷ book_words ∷ 32 ∷ image_bytes ∷ []

-- the image of a book
unfoldable pub image_of : List ℕ → List ℕ
image_of l = bytes_of (image_head l ++ l)

-- the book in an image
unfoldable pub book_in : List ℕ → List ℕ
book_in f = words_at f 32 book_words

-- the same numbers, one by one
unfoldable pub same : List ℕ → List ℕ → Bool
same [] [] = true
same [] (b ∷ v) = false
same (a ∷ u) [] = false
same (a ∷ u) (b ∷ v) = eqb a b && same u v

-- the header is the one that the writer would put there
unfoldable pub head_right : List ℕ → Bool
head_right f = eqb (length f) image_bytes && same (words_at f 0 8) (image_head (book_in f))

-- the number of a refusal
unfoldable pub image_number : ImageRefusal → ℕ
image_number NoRoom = no_room
image_number BadBook = 1
image_number BadImage = bad_image

-- the number of an answer: 0 where it is done, else the refusal's
unfoldable pub number_in : Result Unit ImageRefusal → ℕ
number_in (Ok x) = 0
number_in (Err r) = image_number r

-- the number of saving the book l into room for n bytes
unfoldable pub save_number : List ℕ → ℕ → ℕ
save_number l n = first ((not (fit l), 1) ∷ (ltb n image_bytes, no_room) ∷ [])

-- and of loading the bytes f into a book of n words
unfoldable pub load_number : List ℕ → ℕ → ℕ
load_number f n = first ((not (eqb n book_words), no_room) ∷ (not (head_right f), bad_image) ∷ (not (fit (book_in f)), 1) ∷ [])

-- the buffer o after the book l is saved into it
unfoldable pub saved : List ℕ → List ℕ → List ℕ
saved l o = pick (eqb (save_number l (length o)) 0) (put o 0 (image_of l)) o

-- the book l after the bytes f are loaded into it
unfoldable pub loaded : List ℕ → List ℕ → List ℕ
loaded f l = pick (eqb (load_number f (length l)) 0) (book_in f) l

-- the bytes f are the image of the book l, which is fit
pub record ImageOf (f l : List ℕ) : Type 0 where
  pub image : f ≡ image_of l
  pub fits : fit l ≡ true
  pub words : Below word_limit l

-- ---- the promises

-- saving the book l into the buffer o answers by the number r and leaves the buffer o'
pub record Saving (l o : List ℕ) (r : ℕ) (o' : List ℕ) : Type 0 where
  pub answer : r ≡ save_number l (length o)
  pub buffer : o' ≡ saved l o

-- loading the bytes f into the book l answers by the number r and leaves the book l'
pub record Loading (l f : List ℕ) (r : ℕ) (l' : List ℕ) : Type 0 where
  pub answer : r ≡ load_number f (length l)
  pub book : l' ≡ loaded f l
