-- The desk's answers to the byte, without the line feed. A refusal, and a call that has nothing more to say, is its number; after the 0 of
-- a read the value with the card's two words, or -, and the vector's entries follow, after that of a write the stamp and C or S.
-- Assumes nothing.
use Rattle.std.specs.Prelude.{ℕ, List, [], ◌∷◌, ◌++◌, Bool, true, false}
use Rattle.paper.specs.declared.answer.Payload.{Payload}
use Rattle.line.specs.Number.{decimal, zero_byte}
use Rattle.line.specs.Grammar.{space_byte, spaced}

-- N
abbrev pub number_answer : ℕ → List ℕ
number_answer n = decimal n

-- what is told of a bearing: value diameter width v0 .. v(D-1), or - v0 .. v(D-1) where it is unwritten, each after a space
abbrev pub value_told : Payload → List ℕ → List ℕ
value_told p vector = spaced (p.value ∷ p.diameter ∷ p.width ∷ []) ++ spaced vector

abbrev pub unwritten_told : List ℕ → List ℕ
unwritten_told vector = space_byte ∷ (45 ∷ spaced vector)

-- a read: 0, and what is told of its bearing
abbrev pub value_answer : Payload → List ℕ → List ℕ
value_answer p vector = zero_byte ∷ value_told p vector

abbrev pub unwritten_answer : List ℕ → List ℕ
unwritten_answer vector = zero_byte ∷ unwritten_told vector

-- C for current, S for superseded
abbrev pub standing : Bool → ℕ
standing true = 67
standing false = 83

-- 0 stamp C, 0 stamp S
abbrev pub stamp_answer : ℕ → Bool → List ℕ
stamp_answer stamp current = zero_byte ∷ ((space_byte ∷ decimal stamp) ++ (space_byte ∷ (standing current ∷ [])))
