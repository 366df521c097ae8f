-- A card: a bearing's outside diameter and width in millimetres, two 32-bit floats that a record keeps as two words, by their bits. Which cards
-- there are, and the grams of grease shown for one. A float is the logic's own (`lib.Ieee`): a NaN, an infinity, or the number m * 2 ^ e with a sign.
-- Assumes nothing.
use Rattle.std.specs.Prelude.{ℕ, Bool, false, ◌&&◌, pos, Float, Option, Some, None}
use Rattle.std.specs.Float.{fin, binary32, binary64}
use Rattle.std.specs.Float.Ieee.{is_nan, of_bits, to_bits, lt, le, mul, round}
use Rattle.std.specs.Float.Ieee.Scale.{finite}
use Rattle.loops.specs.Loops.{pick}
use Rattle.card.specs.declared.Card.{Card}

-- ---- which cards there are

-- the 32-bit float of a word
abbrev pub float_of : ℕ → Float
float_of bits = of_bits binary32 bits

-- a whole number as a float, exactly
abbrev pub whole : ℕ → Float
whole n = fin false n (pos 0)

-- a length is finite, above 0 and at most 2,000
unfoldable pub length_fit : Float → Bool
length_fit x = finite x && (lt (whole 0) x && le x (whole 2000))

-- two words are a card: the outside diameter and the width both are lengths
unfoldable pub card_fit : ℕ → ℕ → Bool
card_fit d w = length_fit (float_of d) && length_fit (float_of w)

-- the card of two words
abbrev pub card_of : ℕ → ℕ → Card
card_of d w = record { diameter = float_of d; width = float_of w }

-- the answer to two words of which a card is asked: their card, or none
unfoldable pub card_answer : ℕ → ℕ → Option Card
card_answer d w = pick (card_fit d w) (Some (card_of d w)) None

-- the word of a 32-bit float: its bits. A NaN has none of its own, and has the word 0, which is no length's
unfoldable pub word_of : Float → ℕ
word_of x = pick (is_nan x) 0 (to_bits binary32 x)

-- ---- the grams

-- the 64-bit float nearest to 0.005
abbrev pub density : Float
density = round binary64 false 5 1000

-- the house rule: outside diameter times width, then times 0.005, in 64-bit floats, each step rounded once. Every 32-bit float is a 64-bit one as it
-- stands, so the two are taken over exactly
unfoldable pub weight : Float → Float → Float
weight d w = mul binary64 (mul binary64 d w) density

-- the bits of the grams of two words
unfoldable pub grams_of : ℕ → ℕ → ℕ
grams_of d w = to_bits binary64 (weight (float_of d) (float_of w))

-- the answer to two words of which the grams are asked: their grams, or none where they are no card
unfoldable pub grams_answer : ℕ → ℕ → Option ℕ
grams_answer d w = pick (card_fit d w) (Some (grams_of d w)) None

-- the number of an answer: 0, or 14, BAD CARD
unfoldable pub grams_number : Option ℕ → ℕ
grams_number (Some bits) = 0
grams_number None = 14
