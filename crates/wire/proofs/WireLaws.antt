-- Halves and words come back from their bytes and the bytes from them; runs one after the other, where each stands, and how they are written.
-- Assumes nothing.
use Prim.Native.Nat.{ℕ, zero, suc, ◌+◌, ◌-◌, ◌*◌, ◌/◌, ◌%◌, ◌≤◌, ◌<◌}
use native.Mathlib.Omega.{arith}
use native.Mathlib.Numerals.{add-one}
use native.Mathlib.Nat.{add-zero, le_step, le_refl}
use mathlib.Core.Path.{◌≡◌, refl, sym, ◌∙◌, ap, ap₂}
use mathlib.Core.Logic.{⊎_elim}
use mathlib.Core.List.{List, [], ◌∷◌, ◌++◌, append_assoc}
use lib.ListN.{length, get_or, set, take, drop, length-append, get_or-append}
use Rattle.std.specs.Int.{w32, to_le_bytes}
use Rattle.std.proofs.lemmas.List.Edits.{sets-eq}
use borrow.Rule.Slice.PartMut.{put_mid}
use lib.Seq.{sets, get_or-append-add, take-add, drop-drop, drop-cons}
use Rattle.loops.proofs.BoolLaws.{eq_or_ne}
use Rattle.book.specs.Words.{part, put}
use Rattle.wire.specs.Wire.{byte_limit, half_limit, word_limit, half_bytes, half_at, word_bytes, word_of, word_at, joined, Below}

-- ---- numbers

word_back : (w : ℕ) → w < word_limit → word_of (w % 256) (w / 256 % 256) (w / 256 / 256 % 256) (w / 256 / 256 / 256 % 256) ≡ w
unfolding word_of
word_back w h = omega arith

shift : (a x : ℕ) → a < 256 → (a + 256 * x) / 256 ≡ x
shift a x h = omega arith

lowest : (a x : ℕ) → a < 256 → (a + 256 * x) % 256 ≡ a
lowest a x h = omega arith

nested : (a b c d : ℕ) → word_of a b c d ≡ a + 256 * (b + 256 * (c + 256 * d))
unfolding word_of
nested a b c d = omega arith

bytes_back : (a b c d : ℕ) → a < byte_limit → b < byte_limit → c < byte_limit → d < byte_limit → word_bytes (word_of a b c d) ≡ a ∷ b ∷ c ∷ d ∷ []
unfolding word_bytes
bytes_back a b c d p q r s =
    rw nested
    (rw (lowest a (b + 256 * (c + 256 * d)) p, shift a (b + 256 * (c + 256 * d)) p, lowest b (c + 256 * d) q, shift b (c + 256 * d) q, lowest c d r, shift c d r)
    (ap (λ (x : ℕ). a ∷ b ∷ c ∷ x ∷ []) (omega arith)))

-- the library's bytes of a word
pub low_first : (w : ℕ) → to_le_bytes w32 w ≡ word_bytes w
unfolding word_bytes
low_first w =
    let b : w / 65536 % 256 ≡ w / 256 / 256 % 256 = omega arith in
    let c : w / 16777216 % 256 ≡ w / 256 / 256 / 256 % 256 = omega arith in
    ap₂ (λ (x y : ℕ). w % 256 ∷ w / 256 % 256 ∷ x ∷ y ∷ []) b c

pub word_below : (a b c d : ℕ) → a < byte_limit → b < byte_limit → c < byte_limit → d < byte_limit → word_of a b c d < word_limit
unfolding word_of
word_below a b c d p q r s = omega arith

-- ---- what stands where

-- the run v stands in f from the place at on
pub record Stands (f : List ℕ) (at : ℕ) (v : List ℕ) : Type 0 where
  pub byte : (i : ℕ) → i < length v → get_or f (at + i) 0 ≡ get_or v i 0

pub stands_all : (f : List ℕ) → Stands f 0 f
stands_all f = record { byte = λ i h. ap (λ (k : ℕ). get_or f k 0) (omega arith) }

pub stands_left : (f : List ℕ) (at : ℕ) (u v : List ℕ) → Stands f at (u ++ v) → Stands f at u
stands_left f at u v s = record { byte = λ i h. s.byte i (omega (arith, length-append u v)) ∙ get_or-append u v 0 i h }

pub stands_right : (f : List ℕ) (at : ℕ) (u v : List ℕ) → Stands f at (u ++ v) → Stands f (at + length u) v
stands_right f at u v s = record {
  byte = λ i h. ap (λ (k : ℕ). get_or f k 0) (omega arith) ∙ s.byte (length u + i) (omega (arith, length-append u v)) ∙ get_or-append-add u v i 0;
}

pub half_stands : (f : List ℕ) (at w : ℕ) → w < half_limit → Stands f at (half_bytes w) → half_at f at ≡ w
unfolding half_bytes half_at
half_stands f at w h s =
    let a : get_or f at 0 ≡ w % 256 = ap (λ (k : ℕ). get_or f k 0) (sym (add-zero at)) ∙ s.byte 0 (omega arith) in
    let b : get_or f (at + 1) 0 ≡ w / 256 % 256 = s.byte 1 (omega arith) in
    omega arith

pub word_stands : (f : List ℕ) (at w : ℕ) → w < word_limit → Stands f at (word_bytes w) → word_at f at ≡ w
unfolding word_bytes word_at
word_stands f at w h s =
    rw (ap (λ (k : ℕ). get_or f k 0) (sym (add-zero at)) ∙ s.byte 0 (omega arith), s.byte 1 (omega arith), s.byte 2 (omega arith), s.byte 3 (omega arith)) (word_back w h)

-- ---- parts

pub part_cons : (f : List ℕ) (at n : ℕ) → at < length f → part f at (suc n) ≡ get_or f at 0 ∷ part f (at + 1) n
unfolding part
part_cons f at n h = ap (take (suc n)) (drop-cons f at 0 h) ∙ ap (λ (k : ℕ). get_or f at 0 ∷ take n (drop k f)) (sym (add-one at))

pub part_two : (f : List ℕ) (at : ℕ) → at + 2 ≤ length f → part f at 2 ≡ get_or f at 0 ∷ get_or f (at + 1) 0 ∷ []
unfolding part
part_two f at h =
    part_cons f at 1 (omega arith) ∙ ap (λ (l : List ℕ). get_or f at 0 ∷ l) (part_cons f (at + 1) 0 (omega arith))

the_same : (at a b c : ℕ) → a + b ≡ c → at + a + b ≡ at + c
the_same at a b c e = omega arith

pub part_four : (f : List ℕ) (at : ℕ) → at + 4 ≤ length f → part f at 4 ≡ get_or f at 0 ∷ get_or f (at + 1) 0 ∷ get_or f (at + 2) 0 ∷ get_or f (at + 3) 0 ∷ []
unfolding part
part_four f at h =
    part_cons f at 3 (omega arith)
    ∙ ap (λ (l : List ℕ). get_or f at 0 ∷ l) (part_cons f (at + 1) 2 (omega arith))
    ∙ ap (λ (l : List ℕ). get_or f at 0 ∷ get_or f (at + 1) 0 ∷ l)
    (part_two f (at + 1 + 1) (omega arith) ∙ rw (the_same at 1 1 2 (omega arith), the_same at 2 1 3 (omega arith)))

pub half_read : (f : List ℕ) (at : ℕ) → at + 2 ≤ length f → Below byte_limit f → part f at 2 ≡ half_bytes (half_at f at)
unfolding half_bytes half_at
half_read f at h b =
    part_two f at h
    ∙ sym
    (rw (lowest (get_or f at 0) (get_or f (at + 1) 0) (b.at at), shift (get_or f at 0) (get_or f (at + 1) 0) (b.at at))
    (ap (λ (x : ℕ). get_or f at 0 ∷ x ∷ []) (omega (arith, b.at (at + 1)))))

pub word_read : (f : List ℕ) (at : ℕ) → at + 4 ≤ length f → Below byte_limit f → part f at 4 ≡ word_bytes (word_at f at)
unfolding word_at
word_read f at h b = part_four f at h ∙ sym (bytes_back _ _ _ _ (b.at at) (b.at (at + 1)) (b.at (at + 2)) (b.at (at + 3)))

pub word_small : (f : List ℕ) (at : ℕ) → Below byte_limit f → word_at f at < word_limit
unfolding word_at
word_small f at b = word_below _ _ _ _ (b.at at) (b.at (at + 1)) (b.at (at + 2)) (b.at (at + 3))

-- ---- runs one after the other

pub joined_none : (g : ℕ → List ℕ) → joined 0 g ≡ []
unfolding joined
joined_none g = refl

pub joined_suc : (n : ℕ) (g : ℕ → List ℕ) → joined (suc n) g ≡ joined n g ++ g n
unfolding joined
joined_suc n g = refl

pub joined_same : (n : ℕ) (g h : ℕ → List ℕ) → ((i : ℕ) → i < n → g i ≡ h i) → joined n g ≡ joined n h
unfolding joined
joined_same zero g h e = refl
joined_same (suc n) g h e = ap₂ (λ (a b : List ℕ). a ++ b) (joined_same n g h (λ i l. e i (le_step l))) (e n (le_refl _))

-- runs of k each
pub joined_long : (n k : ℕ) (g : ℕ → List ℕ) → ((i : ℕ) → length (g i) ≡ k) → length (joined n g) ≡ k * n
unfolding joined
joined_long zero k g e = omega arith
joined_long (suc n) k g e = length-append (joined n g) (g n) ∙ ap₂ (λ (a b : ℕ). a + b) (joined_long n k g e) (e n) ∙ suc_times k n
  where
    suc_times : (k n : ℕ) → k * n + k ≡ k * suc n
    suc_times k n = omega arith

part_add : (f : List ℕ) (a n m : ℕ) → part f a (n + m) ≡ part f a n ++ part f (a + n) m
unfolding part
part_add f a n m = take-add n m (drop a f) ∙ ap (λ (l : List ℕ). take n (drop a f) ++ take m l) (drop-drop n a f)

-- runs of k each that are found one after the other
pub part_runs : (f : List ℕ) (a k n : ℕ) (g : ℕ → List ℕ) → ((i : ℕ) → i < n → part f (a + k * i) k ≡ g i) → part f a (k * n) ≡ joined n g
unfolding joined part
part_runs f a k zero g h = let z : k * 0 ≡ 0 = omega arith in ap (λ (n : ℕ). take n (drop a f)) z
part_runs f a k (suc n) g h =
    ap (part f a) (more k n) ∙ part_add f a (k * n) k ∙ ap₂ (λ (x y : List ℕ). x ++ y) (part_runs f a k n g (λ i l. h i (le_step l))) (h n (le_refl _))
  where
    more : (k n : ℕ) → k * suc n ≡ k * n + k
    more k n = omega arith

-- run i stands where the runs before it end
pub stands_run : (f : List ℕ) (at n : ℕ) (g : ℕ → List ℕ) → Stands f at (joined n g) → (i : ℕ) → i < n → Stands f (at + length (joined i g)) (g i)
unfolding joined
stands_run f at zero g s i h = absurd (omega arith)
stands_run f at (suc n) g s i h =
    ⊎_elim
    (λ (e : i ≡ n). rw e (stands_right f at (joined n g) (g n) s))
    (λ (e : i ≡ n → ⊥). stands_run f at n g (stands_left f at (joined n g) (g n) s) i (omega arith))
    (eq_or_ne i n)

-- runs that are found one after the other, each where the one before it ends
pub runs_found :
    (f : List ℕ) (place : ℕ → ℕ) (g : ℕ → List ℕ) (n : ℕ) →
    ((i : ℕ) → i < n → (place (suc i) ≡ place i + length (g i)) × (part f (place i) (length (g i)) ≡ g i)) →
    take (place n) f ≡ take (place 0) f ++ joined n g
unfolding joined part
runs_found f place g zero h = sym (mathlib.Core.List.append-nil (take (place 0) f))
runs_found f place g (suc n) h =
    let w = h n (le_refl _) in
    ap (λ (k : ℕ). take k f) w.0
    ∙ take-add (place n) (length (g n)) f
    ∙ ap₂ (λ (a b : List ℕ). a ++ b) (runs_found f place g n (λ i l. h i (le_step l))) w.1
    ∙ append_assoc (take (place 0) f) (joined n g) (g n)

-- ---- writing

-- the bytes copied into a slice's part stand there
pub put_copied : (o : List ℕ) (at k : ℕ) {u v : List ℕ} → u ≡ v → length v ≡ k → at + k ≤ length o → put_mid at (at + k - at) o u ≡ put o at v
unfolding put
put_copied o at k {u} {v} e n h =
    let w : at + k - at ≡ k = omega arith in
    rw (e, w, drop-drop k at o, ← n, ← append_assoc (take at o) v (drop (at + length v) o)) (sym (sets-eq v o at (omega (arith, n, h))))

pub put_append : (o : List ℕ) (at : ℕ) (u v : List ℕ) → put (put o at u) (at + length u) v ≡ put o at (u ++ v)
unfolding put
put_append o at [] v = ap (λ (n : ℕ). sets o n v) (omega arith)
put_append o at (a ∷ u) v = ap (λ (n : ℕ). sets (sets (set o at a) (suc at) u) n v) (omega arith) ∙ put_append (set o at a) (suc at) u v

pub put_cons : (o : List ℕ) (at a : ℕ) (v : List ℕ) → put (set o at a) (at + 1) v ≡ put o at (a ∷ v)
unfolding put
put_cons o at a v = rw add-one

pub put_none : (o : List ℕ) (at : ℕ) (g : ℕ → List ℕ) → o ≡ put o at (joined 0 g)
unfolding put joined
put_none o at g = refl

-- one run more
pub put_run :
    (o : List ℕ) (at i : ℕ) (g : ℕ → List ℕ) {b b' v : List ℕ} {place : ℕ} → b ≡ put o at (joined i g) → place ≡ at + length (joined i g) → v ≡ g i →
    b' ≡ put b place v → b' ≡ put o at (joined (i + 1) g)
put_run o at i g {b} {b'} {v} {place} p e r q =
    q
    ∙ ap₂ (λ (x : List ℕ) (k : ℕ). put x k v) p e
    ∙ put_append o at (joined i g) v
    ∙ ap (put o at) (ap (λ (x : List ℕ). joined i g ++ x) r ∙ sym (joined_suc i g) ∙ ap (λ (k : ℕ). joined k g) (sym (add-one i)))

-- ---- small numbers

pub below_none : (limit : ℕ) → 0 < limit → Below limit []
below_none limit h = record { at = λ i. h }

module _ (limit a : ℕ) (l : List ℕ) (p : a < limit) (h : Below limit l) where
  below_at : (i : ℕ) → get_or (a ∷ l) i 0 < limit
  below_at zero = p
  below_at (suc i) = h.at i

  pub below_more : Below limit (a ∷ l)
  below_more = record { at = below_at }
