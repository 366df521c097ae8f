-- What is told of a list's bearings is read back from its words: run by run.
-- Assumes nothing.
use Prim.Native.Nat.{ℕ, zero, suc, ◌≤◌}
use native.Mathlib.Omega.{arith}
use mathlib.Core.Path.{◌≡◌, refl, ◌∙◌, ap, ap₂}
use mathlib.Core.List.{List, [], ◌∷◌, ◌++◌, map}
use lib.ListN.{length, take, drop}
use Rattle.paper.specs.Calls.{Told, read_value, read_unwritten}
use Rattle.paper.specs.Answers.{padded, told_in, told_all, told_words, page_words}

-- the first eight words, and the rest
first_run : (t : Told) (w : List ℕ) → take 8 (told_words t ++ w) ≡ told_words t
unfolding told_words padded
first_run (read_value p u) w = refl
first_run (read_unwritten u) w = refl

rest_run : (t : Told) (w : List ℕ) → drop 8 (told_words t ++ w) ≡ w
unfolding told_words padded
rest_run (read_value p u) w = refl
rest_run (read_unwritten u) w = refl

-- where each is read back, all are
pub told_back :
    {A : Type 0} (n m : ℕ) (f : A → Told) → ((k : A) → told_in n (told_words (f k)) ≡ f k) → (ks : List A) → length ks ≤ m → told_all n (length ks) (page_words m (map f ks)) ≡ map f ks
unfolding told_all page_words
told_back n m f h [] l = refl
told_back n zero f h (k ∷ ks) l = absurd (omega arith)
told_back n (suc m) f h (k ∷ ks) l =
    ap₂ (λ (t : Told) (ts : List Told). t ∷ ts)
    (ap (told_in n) (first_run (f k) _) ∙ h k)
    (ap (told_all n (length ks)) (rest_run (f k) _) ∙ told_back n m f h ks (omega arith))
