-- The laws of a whole line: too long, empty, a letter that names an event, and any other first byte.
-- Assumes nothing.
use Prim.Native.Nat.{ℕ, ◌≤◌, ◌<◌}
use mathlib.Core.Path.{◌≡◌, refl, sym, ◌∙◌, ap}
use mathlib.Core.List.{List, [], ◌∷◌}
use Rattle.std.specs.Prelude.{Option, None, Some}
use lib.ListN.{length, get_or, take, drop, length-take}
use native.Mathlib.Omega.{arith}
use borrow.Author.Tests.{le-leb, lt-leb, ne_eqb}
use Rattle.loops.specs.Loops.{pick}
use Rattle.loops.proofs.BoolLaws.{pick_true, pick_false}
use Rattle.line.specs.Grammar.{letter, least, most}
use Rattle.line.specs.Reading.{bad, event_of, numbers_in, counted, named, headed, reading}
use Rattle.request.specs.declared.ask.Event.{Event}
use Rattle.request.specs.declared.ask.Event.TheVariants as event

pub event_letter : (e : Event) → event_of (letter e) ≡ Some e
unfolding event_of pick
event_letter event.Setup = refl
event_letter event.Read = refl
event_letter event.Write = refl
event_letter event.Tick = refl
event_letter event.Take = refl
event_letter event.Refresh = refl
event_letter event.List = refl

-- a byte that is no event's letter names none
pub event_none : (b : ℕ) → ((e : Event) → b ≡ letter e → ⊥) → event_of b ≡ None
unfolding event_of
event_none b h =
    pick_false _ _ (ne_eqb b 83 (h event.Setup))
    ∙ pick_false _ _ (ne_eqb b 82 (h event.Read))
    ∙ pick_false _ _ (ne_eqb b 87 (h event.Write))
    ∙ pick_false _ _ (ne_eqb b 75 (h event.Tick))
    ∙ pick_false _ _ (ne_eqb b 84 (h event.Take))
    ∙ pick_false _ _ (ne_eqb b 70 (h event.Refresh))
    ∙ pick_false _ _ (ne_eqb b 76 (h event.List))

-- seven bytes that a byte is not are the seven letters
pub no_letter :
    (b : ℕ) → (b ≡ 83 → ⊥) → (b ≡ 82 → ⊥) → (b ≡ 87 → ⊥) → (b ≡ 75 → ⊥) → (b ≡ 84 → ⊥) → (b ≡ 70 → ⊥) → (b ≡ 76 → ⊥) → (e : Event) → b ≡ letter e → ⊥
no_letter b s r w k t f l event.Setup = s
no_letter b s r w k t f l event.Read = r
no_letter b s r w k t f l event.Write = w
no_letter b s r w k t f l event.Tick = k
no_letter b s r w k t f l event.Take = t
no_letter b s r w k t f l event.Refresh = f
no_letter b s r w k t f l event.List = l

pub reading_long : (s : List ℕ) → 120 < length s → reading s ≡ bad
unfolding reading
reading_long s h = pick_false _ _ (lt-leb (length s) 120 h)

pub reading_short : (s : List ℕ) → length s ≤ 120 → reading s ≡ headed s
unfolding reading
reading_short s h = pick_true _ _ (le-leb (length s) 120 h)

pub reading_empty : (s : List ℕ) → length s ≡ 0 → reading s ≡ bad
unfolding headed
reading_empty [] h = reading_short [] (omega arith)
reading_empty (b ∷ l) h = absurd (omega arith)

-- an event's letter
pub reading_event : (e : Event) (s : List ℕ) → length s ≤ 120 → (length s ≡ 0 → ⊥) → get_or s 0 0 ≡ letter e → reading s ≡ counted e (least e) (numbers_in (most e) (drop 1 s))
unfolding headed named
reading_event e [] h k q = absurd (k refl)
reading_event e (b ∷ l) h k q = reading_short (b ∷ l) h ∙ ap (λ (o : Option Event). named o l) (ap event_of q ∙ event_letter e)

-- any other byte
pub reading_other : (s : List ℕ) → length s ≤ 120 → ((e : Event) → get_or s 0 0 ≡ letter e → ⊥) → reading s ≡ bad
unfolding headed named
reading_other [] h q = reading_short [] h
reading_other (b ∷ l) h q = reading_short (b ∷ l) h ∙ ap (λ (o : Option Event). named o l) (event_none b q)

-- 121 bytes of a long line are enough to refuse it
pub reading_cut : (s : List ℕ) (n : ℕ) → 120 < n → 120 < length s → reading (take n s) ≡ reading s
reading_cut s n h l = reading_long (take n s) (rw length-take (omega arith)) ∙ sym (reading_long s l)
