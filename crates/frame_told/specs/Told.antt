-- What a caller gets who is answered with numbers: the number of the first check that fails, NO ROOM before all where there is no word to tell in; the
-- buffer; and where the number is 0, in that word how many bytes were written or messages handed out.
-- Assumes nothing.
use Rattle.std.specs.Prelude.{ℕ, ◌≡◌, ◌&&◌, List, eqb, leb, length, set}
use Rattle.loops.specs.Loops.{pick}
use Rattle.book.specs.Words.{put}
use Rattle.frame.specs.Frame.{encode_frame, frame_size, count_in, body_in}
use Rattle.frame.specs.Promises.{route_in, untaken, writer_number, reader_number}

pub record InNumbers (number told : ℕ) (made o t : List ℕ) (r : ℕ) (o' t' : List ℕ) : Type 0 where
  pub answer : r ≡ pick (leb 1 (length t)) number 100
  pub buffer : o' ≡ pick (leb 1 (length t) && eqb number 0) made o
  pub word : t' ≡ pick (leb 1 (length t) && eqb number 0) (set t 0 told) t

abbrev pub WrittenTold : List ℕ → ℕ → ℕ → ℕ → ℕ → ℕ → List ℕ → List ℕ → ℕ → List ℕ → List ℕ → Type 0
WrittenTold l d s from count serial o t =
    InNumbers
    (writer_number l d s from count (length o))
    (frame_size (route_in l d s from) count (untaken l d s from))
    (put o 0 (encode_frame (route_in l d s from) serial count (untaken l d s from)))
    o
    t

abbrev pub ReadTold : List ℕ → ℕ → ℕ → ℕ → ℕ → List ℕ → List ℕ → List ℕ → ℕ → List ℕ → List ℕ → Type 0
ReadTold l d s from expected f o t = InNumbers (reader_number l d s from expected f (length o)) (count_in f) (put o 0 (body_in (route_in l d s from) f)) o t
