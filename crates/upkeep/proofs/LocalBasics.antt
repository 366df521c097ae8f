-- Two books that agree on a set of words. The same test of words in the set says the same of both, asked only where those before it let it; and the
-- same change leaves them agreeing on the set, and on what was put.
-- Assumes nothing.
use Prim.Native.Nat.{ℕ, zero, suc, ◌+◌, ◌-◌, ◌≤◌, ◌<◌}
use native.Mathlib.Nat.{le_refl, le_step}
use native.Mathlib.Omega.{arith}
use mathlib.Core.Path.{◌≡◌, refl, sym, ◌∙◌, ap, subst, subst₂}
use mathlib.Core.Logic.{◌⊎◌, inl, inr, ⊎_elim}
use mathlib.Core.List.{List, [], ◌∷◌}
use mathlib.Core.Bool.{Bool, true, false, ◌&&◌, ◌||◌}
use lib.ListN.{length, get_or, set, length-set}
use lib.Seq.{set_out, get_or-set_same, get_or-set_other}
use Rattle.loops.specs.Loops.{times, every, pick}
use Rattle.loops.proofs.BoolLaws.{le_or_lt, eq_or_ne}
use Rattle.loops.proofs.LoopLaws.{every_same}
use Rattle.paper.specs.Calls.{first}
use Rattle.book.specs.Words.{part, put}
use Rattle.book.proofs.WordsLaws.{length_put, put_in, part_same}
use Rattle.upkeep.specs.Local.{Agree, In}

-- ---- tests

and_same : (a : Bool) {x y : Bool} → (a ≡ true → x ≡ y) → a && x ≡ a && y
and_same true h = h refl
and_same false h = refl

or_same : (a : Bool) {x y : Bool} → (a ≡ false → x ≡ y) → a || x ≡ a || y
or_same true h = refl
or_same false h = h refl

pub and_alike : {a b x y : Bool} → a ≡ b → (a ≡ true → x ≡ y) → a && x ≡ b && y
and_alike {a} {b} {x} {y} e h = and_same a h ∙ ap (λ (c : Bool). c && y) e

pub or_alike : {a b x y : Bool} → a ≡ b → (a ≡ false → x ≡ y) → a || x ≡ b || y
or_alike {a} {b} {x} {y} e h = or_same a h ∙ ap (λ (c : Bool). c || y) e

pub every_alike : {n k : ℕ} (p q : ℕ → Bool) → n ≡ k → ((i : ℕ) → i < n → p i ≡ q i) → every n p ≡ every k q
every_alike {n} p q e h = every_same n p q h ∙ ap (λ (x : ℕ). every x q) e

-- the rows of a table, one after the other
pub first_alike :
    {t u : Bool} (k : ℕ) (rows others : List (Bool × ℕ)) → t ≡ u → (t ≡ false → first rows ≡ first others) →
    first ((t, k) ∷ rows) ≡ first ((u, k) ∷ others)
unfolding first
first_alike {t} k rows others e h = go t h ∙ ap (λ (b : Bool). pick b k (first others)) e
  where
    go : (b : Bool) → (b ≡ false → first rows ≡ first others) → pick b k (first rows) ≡ pick b k (first others)
    go true f = unfold pick in refl
    go false f = unfold pick in f refl

-- ---- choices and loops, side by side

pub pick_alike {ℓ κ} :
    {A B : Type ℓ} (P : A → B → Type κ) {b c : Bool} {x y : A} {u v : B} → b ≡ c → (b ≡ true → P x u) → (b ≡ false → P y v) → P (pick b x y) (pick c u v)
pick_alike P {b} {c} {x} {y} {u} {v} e p q = subst (λ (z : Bool). P (pick b x y) (pick z u v)) e (go b p q)
  where
    go : (z : Bool) → (z ≡ true → P x u) → (z ≡ false → P y v) → P (pick z x y) (pick z u v)
    go true f g = unfold pick in f refl
    go false f g = unfold pick in g refl

pub times_alike {ℓ κ} :
    {A B : Type ℓ} (P : A → B → Type κ) (n : ℕ) (f : ℕ → A → A) (g : ℕ → B → B) (a : A) (b : B) → P a b →
    ((i : ℕ) (x : A) (y : B) → i < n → P x y → P (f i x) (g i y)) → P (times n f a) (times n g b)
unfolding times
times_alike P zero f g a b h step = h
times_alike P (suc n) f g a b h step = step n (times n f a) (times n g b) (le_refl _) (times_alike P n f g a b h (λ i x y k. step i x y (le_step k)))

-- ---- words

-- fewer words
pub agree_fewer : (S T : ℕ → Type 0) (v w : List ℕ) → ((j : ℕ) → T j → S j) → Agree S v w → Agree T v w
agree_fewer S T v w h A = record { size = A.size; words = λ j k. A.words j (h j k) }

module _ (S : ℕ → Type 0) where
  -- the same word set at the same place
  set_one : (v w : List ℕ) (a x : ℕ) → Agree S v w → Agree S (set v a x) (set w a x)
  set_one v w a x A =
      record {
        size = length-set v a x ∙ A.size ∙ sym (length-set w a x);
        words = λ j k.
            ⊎_elim
            (λ (e : j ≡ a). here j k e (le_or_lt (length v) a))
            (λ (e : j ≡ a → ⊥). get_or-set_other v a j x 0 e ∙ A.words j k ∙ sym (get_or-set_other w a j x 0 e))
            (eq_or_ne j a);
      }
    where
      here : (j : ℕ) → S j → j ≡ a → (length v ≤ a) ⊎ (a < length v) → get_or (set v a x) j 0 ≡ get_or (set w a x) j 0
      here j k e (inl past) =
          ap (λ (z : List ℕ). get_or z j 0) (set_out v a x past)
          ∙ A.words j k
          ∙ sym (ap (λ (z : List ℕ). get_or z j 0) (set_out w a x (subst (λ (n : ℕ). n ≤ a) A.size past)))
      here j k e (inr room) =
          subst (λ (i : ℕ). get_or (set v a x) i 0 ≡ get_or (set w a x) i 0) (sym e)
          (get_or-set_same v a x 0 room ∙ sym (get_or-set_same w a x 0 (subst (λ (n : ℕ). a < n) A.size room)))

  pub set_agrees : (v w : List ℕ) {a b x y : ℕ} → a ≡ b → x ≡ y → Agree S v w → Agree S (set v a x) (set w b y)
  set_agrees v w {a} {b} {x} {y} p q A = subst₂ (λ (c z : ℕ). Agree S (set v a x) (set w c z)) p q (set_one v w a x A)

  -- the same words put at the same place
  put_one : (v w : List ℕ) (a : ℕ) (x : List ℕ) → Agree S v w → Agree S (put v a x) (put w a x)
  unfolding put
  put_one v w a [] A = A
  put_one v w a (u ∷ x) A = put_one (set v a u) (set w a u) (suc a) x (set_one v w a u A)

  pub put_agrees : (v w : List ℕ) {a b : ℕ} {x y : List ℕ} → a ≡ b → x ≡ y → Agree S v w → Agree S (put v a x) (put w b y)
  put_agrees v w {a} {b} {x} {y} p q A = subst₂ (λ (c : ℕ) (z : List ℕ). Agree S (put v a x) (put w c z)) p q (put_one v w a x A)

  -- where there is room, they then agree there too
  pub put_brings :
      (v w : List ℕ) (a : ℕ) (x : List ℕ) → a + length x ≤ length v → Agree S v w → Agree (λ (j : ℕ). S j ⊎ In a (length x) j) (put v a x) (put w a x)
  put_brings v w a x room A =
      record {
        size = length_put v a x ∙ A.size ∙ sym (length_put w a x);
        words = λ j k. ⊎_elim (λ (s : S j). (put_one v w a x A).words j s) (λ (i : In a (length x) j). inside j i) k;
      }
    where
      inside : (j : ℕ) → In a (length x) j → get_or (put v a x) j 0 ≡ get_or (put w a x) j 0
      inside j i =
          let p = i.0 in
          let q = i.1 in
          let e : a + (j - a) ≡ j = omega arith in
          subst (λ (z : ℕ). get_or (put v a x) z 0 ≡ get_or (put w a x) z 0) e
          (put_in v a x room (j - a) (omega arith) ∙ sym (put_in w a x (subst (λ (n : ℕ). a + length x ≤ n) A.size room) (j - a) (omega arith)))

  -- a part that the set holds
  pub part_agrees : (v w : List ℕ) {a b : ℕ} (n : ℕ) → a ≡ b → ((j : ℕ) → In a n j → S j) → Agree S v w → part v a n ≡ part w b n
  part_agrees v w {a} {b} n e h A = part_same v w a n A.size (λ i k. A.words (a + i) (h (a + i) (omega arith, omega arith))) ∙ ap (λ (z : ℕ). part w z n) e
