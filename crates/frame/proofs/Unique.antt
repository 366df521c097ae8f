-- The promises of the writer and the reader leave one answer and one buffer.
-- Assumes nothing.
use Rattle.std.specs.Prelude.{Result, Ok, Err}
use Prim.Native.Nat.{ℕ}
use native.Mathlib.Omega.{arith}
use mathlib.Core.Path.{◌≡◌, refl, sym, ◌∙◌, ap}
use mathlib.Core.Bool.{false}
use mathlib.Core.List.{List}
use lib.Dec.{eqb}
use Rattle.loops.specs.Loops.{pick}
use Rattle.loops.proofs.BoolLaws.{both_ways}
use borrow.Author.Tests.{eq-eqb}
use Rattle.paper.specs.declared.answer.Refusal.{Refusal}
use Rattle.paper.specs.declared.answer.Refusal.TheVariants.{BadBook, BadDepot, BadShelf, BadKey, BadCrew, SameDepot, EmptyLink, Wait, LinkFull, ClockAtEnd, BadCounts, NotHereYet, BadDate, BadCard, BadList}
use Rattle.paper.specs.Answers.{number_of}
use Rattle.paper.proofs.Settles.{number_settles}
use Rattle.frame.specs.declared.FrameRefusal.{FrameRefusal}
use Rattle.frame.specs.declared.FrameRefusal.TheVariants.{Link, NoRoom, BadCount, BadFrame, Old, Gap}
use Rattle.frame.specs.Promises.{frame_number, Tells, Outcome}
use Rattle.frame.proofs.PromiseLaws.{counts}

-- the refusal of this part that has a number, else another
own : ℕ → FrameRefusal → FrameRefusal
own n x = pick (eqb n 100) NoRoom (pick (eqb n 101) BadCount (pick (eqb n 102) BadFrame (pick (eqb n 103) Old (pick (eqb n 104) Gap x))))

own_link : (r : Refusal) → own (number_of r) (Link r) ≡ Link r
unfolding own pick number_of
own_link BadBook = refl
own_link BadDepot = refl
own_link BadShelf = refl
own_link BadKey = refl
own_link BadCrew = refl
own_link SameDepot = refl
own_link EmptyLink = refl
own_link Wait = refl
own_link LinkFull = refl
own_link ClockAtEnd = refl
own_link BadCounts = refl
own_link NotHereYet = refl
own_link BadDate = refl
own_link BadCard = refl
own_link BadList = refl

own_back : (x : FrameRefusal) → own (frame_number x) x ≡ x
unfolding own pick frame_number
own_back (Link r) = own_link r
own_back NoRoom = refl
own_back BadCount = refl
own_back BadFrame = refl
own_back Old = refl
own_back Gap = refl

-- each refusal has its own number
pub frame_number_settles : (x y : FrameRefusal) → frame_number x ≡ frame_number y → x ≡ y
unfolding own pick frame_number
frame_number_settles x NoRoom e = sym (own_back x) ∙ ap (λ (n : ℕ). own n x) e
frame_number_settles x BadCount e = sym (own_back x) ∙ ap (λ (n : ℕ). own n x) e
frame_number_settles x BadFrame e = sym (own_back x) ∙ ap (λ (n : ℕ). own n x) e
frame_number_settles x Old e = sym (own_back x) ∙ ap (λ (n : ℕ). own n x) e
frame_number_settles x Gap e = sym (own_back x) ∙ ap (λ (n : ℕ). own n x) e
frame_number_settles (Link r) (Link s) e = ap Link (number_settles r s e)
frame_number_settles NoRoom (Link s) e = sym (sym (own_back (Link s)) ∙ ap (λ (n : ℕ). own n (Link s)) (sym e))
frame_number_settles BadCount (Link s) e = sym (sym (own_back (Link s)) ∙ ap (λ (n : ℕ). own n (Link s)) (sym e))
frame_number_settles BadFrame (Link s) e = sym (sym (own_back (Link s)) ∙ ap (λ (n : ℕ). own n (Link s)) (sym e))
frame_number_settles Old (Link s) e = sym (sym (own_back (Link s)) ∙ ap (λ (n : ℕ). own n (Link s)) (sym e))
frame_number_settles Gap (Link s) e = sym (sym (own_back (Link s)) ∙ ap (λ (n : ℕ). own n (Link s)) (sym e))

tells_settles : (number told : ℕ) (a b : Result ℕ FrameRefusal) → Tells number told a → Tells number told b → a ≡ b
unfolding Tells
tells_settles number told (Ok n) (Ok m) p q = ap Ok (p.1 ∙ sym q.1)
tells_settles number told (Ok n) (Err y) p q = absurd (both_ways (eq-eqb _ _ (sym q ∙ p.0)) (counts y))
tells_settles number told (Err x) (Ok m) p q = absurd (both_ways (eq-eqb _ _ (sym p ∙ q.0)) (counts x))
tells_settles number told (Err x) (Err y) p q = ap Err (frame_number_settles x y (sym p ∙ q))

-- of a writer as of a reader, for both promise an outcome
pub outcome_unique :
    {number told : ℕ} {made o one other : List ℕ} {a b : Result ℕ FrameRefusal} → Outcome number told made o a one → Outcome number told made o b other → (a ≡ b) × (one ≡ other)
outcome_unique {number} {told} {made} {o} {one} {other} {a} {b} p q = (tells_settles number told a b p.answer q.answer, p.buffer ∙ sym q.buffer)
