-- Numbers come back from their bytes and the bytes from them.
-- Assumes nothing.
use Prim.Native.Nat.{ℕ, zero, suc, ◌+◌, ◌*◌, ◌≤◌, ◌<◌}
use native.Mathlib.Omega.{arith}
use native.Mathlib.Nat.{add-zero}
use mathlib.Core.Path.{◌≡◌, refl, sym, ◌∙◌, ap, ap₂}
use mathlib.Core.List.{List, [], ◌∷◌, ◌++◌, append_assoc}
use lib.ListN.{length, get_or, take, drop, length-append}
use lib.Seq.{take-add, drop-drop, get_or-take, get_or-drop}
use Rattle.book.specs.Words.{part}
use Rattle.wire.specs.Wire.{byte_limit, word_limit, word_bytes, word_of, word_at, Below}
use Rattle.wire.proofs.WireLaws.{Stands, stands_left, stands_right, word_stands, word_read, word_small, below_none, below_more}
use Rattle.numbers.specs.Numbers.{bytes_of, words_at}

-- an example: 1 and 258
pub two_numbers : bytes_of (1 ∷ 258 ∷ []) ≡ 1 ∷ 0 ∷ 0 ∷ 0 ∷ 2 ∷ 1 ∷ 0 ∷ 0 ∷ []
unfolding bytes_of word_bytes
two_numbers = refl

pub two_read : words_at (1 ∷ 0 ∷ 0 ∷ 0 ∷ 2 ∷ 1 ∷ 0 ∷ 0 ∷ []) 0 2 ≡ 1 ∷ 258 ∷ []
unfolding words_at word_at word_of
two_read = refl

word_long : (w : ℕ) → length (word_bytes w) ≡ 4
unfolding word_bytes
word_long w = refl

pub length_bytes : (ws : List ℕ) → length (bytes_of ws) ≡ 4 * length ws
unfolding bytes_of
length_bytes [] = refl
length_bytes (w ∷ ws) = length-append (word_bytes w) (bytes_of ws) ∙ omega (arith, word_long w, length_bytes ws)

pub length_words : (f : List ℕ) (at n : ℕ) → length (words_at f at n) ≡ n
unfolding words_at
length_words f at zero = refl
length_words f at (suc n) = ap suc (length_words f (at + 4) n)

pub bytes_append : (u v : List ℕ) → bytes_of (u ++ v) ≡ bytes_of u ++ bytes_of v
unfolding bytes_of
bytes_append [] v = refl
bytes_append (w ∷ u) v = ap (λ (f : List ℕ). word_bytes w ++ f) (bytes_append u v) ∙ sym (append_assoc (word_bytes w) (bytes_of u) (bytes_of v))

-- numbers whose bytes stand in f are read there
pub words_stand : (f : List ℕ) (at : ℕ) (ws : List ℕ) → Below word_limit ws → Stands f at (bytes_of ws) → words_at f at (length ws) ≡ ws
unfolding bytes_of words_at word_bytes
words_stand f at [] b s = refl
words_stand f at (w ∷ ws) b s =
    let r : Stands f (at + 4) (bytes_of ws) = stands_right f at (word_bytes w) (bytes_of ws) s in
    ap₂ (λ (x : ℕ) (y : List ℕ). x ∷ y) (word_stands f at w (b.at 0) (stands_left f at (word_bytes w) (bytes_of ws) s))
    (words_stand f (at + 4) ws (record { at = λ i. b.at (suc i) }) r)

-- numbers that are read of the same bytes are the same
sum_of_sums : (a b c d : ℕ) → b + c ≡ d → a + b + c ≡ a + d
sum_of_sums a b c d e = omega arith

pub words_same : (f g : List ℕ) (a b n : ℕ) → ((i : ℕ) → i < 4 * n → get_or f (a + i) 0 ≡ get_or g (b + i) 0) → words_at f a n ≡ words_at g b n
unfolding words_at word_at
words_same f g a b zero e = refl
words_same f g a b (suc n) e =
    let z : get_or f a 0 ≡ get_or g b 0
    = ap (λ (k : ℕ). get_or f k 0) (sym (add-zero a)) ∙ e 0 (omega arith) ∙ ap (λ (k : ℕ). get_or g k 0) (add-zero b) in
    let more : words_at f (a + 4) n ≡ words_at g (b + 4) n
    = words_same f g (a + 4) (b + 4) n λ i h.
    ap (λ (k : ℕ). get_or f k 0) (sum_of_sums a 4 i (4 + i) refl)
    ∙ e (4 + i) (omega arith)
    ∙ ap (λ (k : ℕ). get_or g k 0) (sym (sum_of_sums b 4 i (4 + i) refl)) in
    rw (z, e 1 (omega arith), e 2 (omega arith), e 3 (omega arith), more)

pub words_take : (f : List ℕ) (at n m : ℕ) → at + 4 * n ≤ m → words_at (take m f) at n ≡ words_at f at n
words_take f at n m h = words_same (take m f) f at at n (λ i l. get_or-take m f (at + i) 0 (omega arith))

pub words_drop : (f : List ℕ) (d at n : ℕ) → words_at (drop d f) at n ≡ words_at f (d + at) n
words_drop f d at n =
    words_same (drop d f) f at (d + at) n (λ i l. get_or-drop d f (at + i) 0 ∙ ap (λ (k : ℕ). get_or f k 0) (sym (sum_of_sums d at i (at + i) refl)))

-- n numbers that are read have these bytes
pub bytes_read : (f : List ℕ) (at n : ℕ) → at + 4 * n ≤ length f → Below byte_limit f → part f at (4 * n) ≡ bytes_of (words_at f at n)
unfolding bytes_of words_at part
bytes_read f at zero h b = refl
bytes_read f at (suc n) h b =
    let e : 4 * suc n ≡ 4 + 4 * n = omega arith in
    ap (λ (k : ℕ). take k (drop at f)) e
    ∙ take-add 4 (4 * n) (drop at f)
    ∙ ap₂ (λ (x y : List ℕ). x ++ y) (word_read f at (omega arith) b)
    (ap (take (4 * n)) (drop-drop 4 at f) ∙ bytes_read f (at + 4) n (omega arith) b)

-- and are words
pub words_small : (f : List ℕ) (at n : ℕ) → Below byte_limit f → Below word_limit (words_at f at n)
unfolding words_at
words_small f at zero b = below_none word_limit (lib.Dec.lit< tt)
words_small f at (suc n) b = below_more _ _ _ (word_small f at b) (words_small f (at + 4) n b)

-- ---- bytes are small

pub below_append : (limit : ℕ) (u v : List ℕ) → Below limit u → Below limit v → Below limit (u ++ v)
below_append limit [] v a b = b
below_append limit (x ∷ u) v a b = below_more _ _ _ (a.at 0) (below_append limit u v (record { at = λ i. a.at (suc i) }) b)

pub below_drop : (limit n : ℕ) (l : List ℕ) → Below limit l → Below limit (drop n l)
below_drop limit n l h = record { at = λ i. rw (get_or-drop n l i 0) (h.at (n + i)) }

pub bytes_small : (ws : List ℕ) → Below byte_limit (bytes_of ws)
unfolding bytes_of word_bytes
bytes_small [] = below_none byte_limit (lib.Dec.lit< tt)
bytes_small (w ∷ ws) =
    below_more _ _ _ (omega arith) (below_more _ _ _ (omega arith) (below_more _ _ _ (omega arith) (below_more _ _ _ (omega arith) (bytes_small ws))))
