-- The promises of saving and loading settle the number and every byte or word, and the number the answer: any two outcomes that satisfy one coincide.
-- Assumes nothing.
use Prim.Native.Nat.{ℕ}
use mathlib.Core.Path.{◌≡◌, refl, sym, ◌∙◌}
use mathlib.Core.List.{List}
use native.Mathlib.Omega.{arith}
use Rattle.std.specs.Prelude.{Result, Ok, Err}
use Rattle.image.specs.declared.ImageRefusal.{ImageRefusal}
use Rattle.image.specs.declared.ImageRefusal.TheVariants.{NoRoom, BadBook, BadImage}
use Rattle.image.specs.Image.{image_number, number_in, Saving, Loading}

pub save_unique : {l o : List ℕ} {r r' : ℕ} {m m' : List ℕ} → Saving l o r m → Saving l o r' m' → (r ≡ r') × (m ≡ m')
save_unique p q = (p.answer ∙ sym q.answer, p.buffer ∙ sym q.buffer)

pub load_unique : {l f : List ℕ} {r r' : ℕ} {m m' : List ℕ} → Loading l f r m → Loading l f r' m' → (r ≡ r') × (m ≡ m')
load_unique p q = (p.answer ∙ sym q.answer, p.book ∙ sym q.book)

-- each answer has its own number
pub answer_settles : (a b : Result Unit ImageRefusal) → number_in a ≡ number_in b → a ≡ b
unfolding number_in image_number
answer_settles (Ok x) (Ok y) e = refl
answer_settles (Ok x) (Err NoRoom) e = absurd (omega arith)
answer_settles (Ok x) (Err BadBook) e = absurd (omega arith)
answer_settles (Ok x) (Err BadImage) e = absurd (omega arith)
answer_settles (Err NoRoom) (Ok y) e = absurd (omega arith)
answer_settles (Err NoRoom) (Err NoRoom) e = refl
answer_settles (Err NoRoom) (Err BadBook) e = absurd (omega arith)
answer_settles (Err NoRoom) (Err BadImage) e = absurd (omega arith)
answer_settles (Err BadBook) (Ok y) e = absurd (omega arith)
answer_settles (Err BadBook) (Err NoRoom) e = absurd (omega arith)
answer_settles (Err BadBook) (Err BadBook) e = refl
answer_settles (Err BadBook) (Err BadImage) e = absurd (omega arith)
answer_settles (Err BadImage) (Ok y) e = absurd (omega arith)
answer_settles (Err BadImage) (Err NoRoom) e = absurd (omega arith)
answer_settles (Err BadImage) (Err BadBook) e = absurd (omega arith)
answer_settles (Err BadImage) (Err BadImage) e = refl
