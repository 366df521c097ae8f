-- Numbers are put as bytes one by one, and read from bytes one by one.
-- Assumes nothing.
use Prim.Native.Nat.{ℕ, zero, suc, ◌+◌, ◌*◌, ◌≤◌, ◌<◌}
use native.Mathlib.Omega.{arith}
use native.Mathlib.Numerals.{add-one}
use native.Mathlib.Nat.{le_of_lt}
use mathlib.Core.Path.{◌≡◌, refl, sym, ◌∙◌, ap, ap₂}
use mathlib.Core.List.{List, [], ◌∷◌, ◌++◌}
use lib.ListN.{length, get_or, set, take}
use lib.Seq.{take_all, take-suc, length-take-le, ext_get_or}
use Rattle.book.specs.Words.{put}
use Rattle.book.proofs.WordsLaws.{length_put, put_in, put_step}
use Rattle.wire.specs.Wire.{word_bytes, word_at}
use Rattle.wire.proofs.WireLaws.{put_append}
use Rattle.numbers.specs.Numbers.{bytes_of, words_at}
use Rattle.numbers.proofs.NumberLaws.{length_bytes, length_words, bytes_append}

-- ---- put

bytes_one : (w : ℕ) → bytes_of (w ∷ []) ≡ word_bytes w
unfolding bytes_of word_bytes
bytes_one w = refl

pub bytes_none : (o : List ℕ) (at : ℕ) → o ≡ put o at (bytes_of [])
unfolding put bytes_of
bytes_none o at = refl

pub bytes_step :
    (o : List ℕ) (at : ℕ) (ws : List ℕ) (i : ℕ) {b b' : List ℕ} → i < length ws → b ≡ put o at (bytes_of (take i ws)) → b' ≡ put b (at + 4 * i) (word_bytes (get_or ws i 0)) →
    b' ≡ put o at (bytes_of (take (i + 1) ws))
bytes_step o at ws i h p q =
    let front : List ℕ = bytes_of (take i ws) in
    let w : ℕ = get_or ws i 0 in
    let size : 4 * i ≡ length front = sym (length_bytes (take i ws) ∙ ap (λ (n : ℕ). 4 * n) (length-take-le i ws (le_of_lt h))) in
    q
    ∙ ap₂ (λ (x : List ℕ) (n : ℕ). put x (at + n) (word_bytes w)) p size
    ∙ put_append o at front (word_bytes w)
    ∙ ap (put o at)
    (ap (λ (x : List ℕ). front ++ x) (sym (bytes_one w)) ∙ sym (bytes_append (take i ws) (w ∷ [])) ∙ ap bytes_of (sym (ap (λ (n : ℕ). take n ws) (add-one i) ∙ take-suc ws i 0 h)))

pub bytes_all : (o : List ℕ) (at : ℕ) (ws : List ℕ) (i : ℕ) {b : List ℕ} → length ws ≤ i → b ≡ put o at (bytes_of (take i ws)) → b ≡ put o at (bytes_of ws)
bytes_all o at ws i h p = p ∙ ap (λ (x : List ℕ). put o at (bytes_of x)) (take_all i ws h)

-- ---- read

words_more : (f : List ℕ) (at i : ℕ) → words_at f at (suc i) ≡ words_at f at i ++ word_at f (at + 4 * i) ∷ []
unfolding words_at
words_more f at zero = ap (λ (n : ℕ). word_at f n ∷ []) (omega arith)
words_more f at (suc i) =
    ap (λ (x : List ℕ). word_at f at ∷ x) (words_more f (at + 4) i ∙ ap (λ (n : ℕ). words_at f (at + 4) i ++ word_at f n ∷ []) (omega arith))

pub words_none : (f : List ℕ) (at : ℕ) (o : List ℕ) → o ≡ put o 0 (words_at f at 0)
unfolding put words_at
words_none f at o = refl

pub words_step : (f : List ℕ) (at i : ℕ) (o : List ℕ) {b : List ℕ} {w : ℕ} → b ≡ put o 0 (words_at f at i) → w ≡ word_at f (at + 4 * i) → set b i w ≡ put o 0 (words_at f at (i + 1))
words_step f at i o {b} p e =
    let z : i ≡ 0 + i = omega arith in
    ap₂ (λ (n x : ℕ). set b n x) z e
    ∙ put_step o 0 (words_at f at i) i (word_at f (at + 4 * i)) (length_words f at i) p
    ∙ ap (put o 0) (sym (ap (words_at f at) (add-one i) ∙ words_more f at i))

-- words that are put over all of a list
pub put_whole : (l v : List ℕ) → length v ≡ length l → put l 0 v ≡ v
put_whole l v e =
    ext_get_or 0 (put l 0 v) v (length_put l 0 v ∙ sym e) λ i h.
    let z : i ≡ 0 + i = omega arith in
    ap (λ (n : ℕ). get_or (put l 0 v) n 0) z ∙ put_in l 0 v (omega arith) i (omega (arith, length_put l 0 v))

pub words_all : (f : List ℕ) (at i : ℕ) (o : List ℕ) {b : List ℕ} → i ≤ length o → length o ≤ i → b ≡ put o 0 (words_at f at i) → b ≡ words_at f at (length o)
words_all f at i o h k p =
    let e : i ≡ length o = omega arith in
    p ∙ put_whole o (words_at f at i) (length_words f at i ∙ e) ∙ ap (words_at f at) e
