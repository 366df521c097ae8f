-- Lines of the paper and of its slips, read by computing, and answers of its listing, printed so.
-- Assumes nothing.
use Prim.Native.Nat.{ℕ, zero, suc}
use mathlib.Core.Path.{◌≡◌, refl}
use mathlib.Core.List.{List, [], ◌∷◌, ◌++◌}
use mathlib.Core.Bool.{true, false}
use lib.ListN.{replicate}
use Rattle.loops.specs.Loops.{pick}
use Rattle.line.specs.Number.{spelled, decimal, is_digit, digit_run, value_from, spare_zero, is_number}
use Rattle.line.specs.Grammar.{spaced}
use Rattle.line.specs.Answers.{number_answer, value_answer, unwritten_answer, stamp_answer}
use Rattle.line.specs.Reading.{bad, good, event_of, before, numbers_in, counted, named, headed, reading}
use Rattle.request.specs.declared.ask.Event.TheVariants as event

-- the listing's first line
listing_setup : reading (83 ∷ 32 ∷ 50 ∷ 32 ∷ 50 ∷ 32 ∷ 52 ∷ 32 ∷ 50 ∷ 32 ∷ 48 ∷ 32 ∷ 49 ∷ []) ≡ good event.Setup (2 ∷ 2 ∷ 4 ∷ 2 ∷ 0 ∷ 1 ∷ [])
unfolding pick is_digit digit_run value_from spare_zero is_number event_of before numbers_in counted named headed reading
listing_setup = refl

-- 1065353216 after a space
one : List ℕ
one = 32 ∷ 49 ∷ 48 ∷ 54 ∷ 53 ∷ 51 ∷ 53 ∷ 51 ∷ 50 ∷ 49 ∷ 54 ∷ []

listing_write : reading ((87 ∷ 32 ∷ 48 ∷ 32 ∷ 49 ∷ 32 ∷ 51 ∷ 48 ∷ []) ++ (one ++ one)) ≡ good event.Write (0 ∷ 1 ∷ 30 ∷ 1065353216 ∷ 1065353216 ∷ [])
unfolding one pick is_digit digit_run value_from spare_zero is_number event_of before numbers_in counted named headed reading
listing_write = refl

listing_tick : reading (75 ∷ 32 ∷ 48 ∷ 32 ∷ 49 ∷ []) ≡ good event.Tick (0 ∷ 1 ∷ [])
unfolding pick is_digit digit_run value_from spare_zero is_number event_of before numbers_in counted named headed reading
listing_tick = refl

listing_take : reading (84 ∷ 32 ∷ 49 ∷ 32 ∷ 48 ∷ 32 ∷ 48 ∷ []) ≡ good event.Take (1 ∷ 0 ∷ 0 ∷ [])
unfolding pick is_digit digit_run value_from spare_zero is_number event_of before numbers_in counted named headed reading
listing_take = refl

listing_refresh : reading (70 ∷ 32 ∷ 49 ∷ 32 ∷ 48 ∷ []) ≡ good event.Refresh (1 ∷ 0 ∷ [])
unfolding pick is_digit digit_run value_from spare_zero is_number event_of before numbers_in counted named headed reading
listing_refresh = refl

-- the largest number, and the first that is none
largest_number : reading (82 ∷ 32 ∷ 48 ∷ 32 ∷ 52 ∷ 50 ∷ 57 ∷ 52 ∷ 57 ∷ 54 ∷ 55 ∷ 50 ∷ 57 ∷ 53 ∷ []) ≡ good event.Read (0 ∷ 4294967295 ∷ [])
unfolding pick is_digit digit_run value_from spare_zero is_number event_of before numbers_in counted named headed reading
largest_number = refl

too_large : reading (82 ∷ 32 ∷ 48 ∷ 32 ∷ 52 ∷ 50 ∷ 57 ∷ 52 ∷ 57 ∷ 54 ∷ 55 ∷ 50 ∷ 57 ∷ 54 ∷ []) ≡ bad
unfolding pick is_digit digit_run value_from spare_zero is_number event_of before numbers_in counted named headed reading
too_large = refl

-- a spare zero, a carriage return, two spaces, a space at the end, too few numbers
spare_zero_law : reading (82 ∷ 32 ∷ 48 ∷ 48 ∷ 32 ∷ 49 ∷ []) ≡ bad
unfolding pick is_digit digit_run value_from spare_zero is_number event_of before numbers_in counted named headed reading
spare_zero_law = refl

carriage_return : reading (82 ∷ 32 ∷ 48 ∷ 32 ∷ 49 ∷ 13 ∷ []) ≡ bad
unfolding pick is_digit digit_run value_from spare_zero is_number event_of before numbers_in counted named headed reading
carriage_return = refl

two_spaces : reading (82 ∷ 32 ∷ 48 ∷ 32 ∷ 32 ∷ 49 ∷ []) ≡ bad
unfolding pick is_digit digit_run value_from spare_zero is_number event_of before numbers_in counted named headed reading
two_spaces = refl

space_at_end : reading (82 ∷ 32 ∷ 48 ∷ 32 ∷ 49 ∷ 32 ∷ []) ≡ bad
unfolding pick is_digit digit_run value_from spare_zero is_number event_of before numbers_in counted named headed reading
space_at_end = refl

-- a write without its card
write_of_three : reading (87 ∷ 32 ∷ 48 ∷ 32 ∷ 49 ∷ 32 ∷ 51 ∷ 48 ∷ []) ≡ bad
unfolding pick is_digit digit_run value_from spare_zero is_number event_of before numbers_in counted named headed reading
write_of_three = refl

setup_of_three : reading (83 ∷ 32 ∷ 49 ∷ 32 ∷ 49 ∷ 32 ∷ 49 ∷ []) ≡ bad
unfolding pick is_digit digit_run value_from spare_zero is_number event_of before numbers_in counted named headed reading
setup_of_three = refl

-- an empty line
empty : reading [] ≡ bad
unfolding pick headed reading
empty = refl

-- n times the number 1
ones : ℕ → List ℕ
ones zero = []
ones (suc n) = 32 ∷ 49 ∷ ones n

-- twenty numbers, and one more
setup_of_twenty : reading (83 ∷ ones 20) ≡ good event.Setup (replicate 20 1)
unfolding ones pick is_digit digit_run value_from spare_zero is_number event_of before numbers_in counted named headed reading
setup_of_twenty = refl

setup_of_21 : reading (83 ∷ ones 21) ≡ bad
unfolding ones pick is_digit digit_run value_from spare_zero is_number event_of before numbers_in counted named headed reading
setup_of_21 = refl

-- a list of no bearings, of one twice, and without a crew
list_of_none : reading (76 ∷ 32 ∷ 48 ∷ []) ≡ good event.List (0 ∷ [])
unfolding pick is_digit digit_run value_from spare_zero is_number event_of before numbers_in counted named headed reading
list_of_none = refl

list_of_one_twice : reading (76 ∷ 32 ∷ 48 ∷ 32 ∷ 51 ∷ 32 ∷ 51 ∷ []) ≡ good event.List (0 ∷ 3 ∷ 3 ∷ [])
unfolding pick is_digit digit_run value_from spare_zero is_number event_of before numbers_in counted named headed reading
list_of_one_twice = refl

list_of_nobody : reading (76 ∷ []) ≡ bad
unfolding pick is_digit digit_run value_from spare_zero is_number event_of before numbers_in counted named headed reading
list_of_nobody = refl

-- a crew and 58 bearings, 119 bytes: no line has more numbers
list_of_58 : reading (76 ∷ ones 59) ≡ good event.List (replicate 59 1)
unfolding ones pick is_digit digit_run value_from spare_zero is_number event_of before numbers_in counted named headed reading
list_of_58 = refl

list_of_59 : reading (76 ∷ ones 60) ≡ bad
unfolding ones pick is_digit digit_run value_from spare_zero is_number event_of before numbers_in counted named headed reading
list_of_59 = refl

-- answers of the listing, and the longest number
answer_wait : number_answer 8 ≡ 56 ∷ []
unfolding pick spelled decimal
answer_wait = refl

answer_read : value_answer (record { value = 20; diameter = 1065353216; width = 1065353216 }) (1 ∷ 0 ∷ []) ≡ (48 ∷ 32 ∷ 50 ∷ 48 ∷ []) ++ (one ++ (one ++ (32 ∷ 49 ∷ 32 ∷ 48 ∷ [])))
unfolding one pick spelled decimal spaced
answer_read = refl

answer_unwritten : unwritten_answer (0 ∷ 0 ∷ []) ≡ 48 ∷ 32 ∷ 45 ∷ 32 ∷ 48 ∷ 32 ∷ 48 ∷ []
unfolding pick spelled decimal spaced
answer_unwritten = refl

answer_write : stamp_answer 1 true ≡ 48 ∷ 32 ∷ 49 ∷ 32 ∷ 67 ∷ []
unfolding pick spelled decimal
answer_write = refl

answer_superseded : stamp_answer 1 false ≡ 48 ∷ 32 ∷ 49 ∷ 32 ∷ 83 ∷ []
unfolding pick spelled decimal
answer_superseded = refl

largest : decimal 4_294_967_295 ≡ 52 ∷ 50 ∷ 57 ∷ 52 ∷ 57 ∷ 54 ∷ 55 ∷ 50 ∷ 57 ∷ 53 ∷ []
unfolding pick spelled decimal
largest = refl
