-- Two books that are not fit, on which calls are done: the parts that want fitness are other ones.
-- Assumes nothing.
use Prim.Native.Nat.{ℕ}
use mathlib.Core.Path.{◌≡◌, refl}
use mathlib.Core.List.{List, ◌∷◌, ◌++◌}
use mathlib.Core.Bool.{true, false}
use lib.ListN.{replicate}
use lib.Ieee.{of_bits, lt, le}
use Rattle.loops.specs.Loops.{every, pick}
use Rattle.order.specs.Vector.{covered, zeros}
use Rattle.card.specs.Card.{length_fit, card_fit}
use Rattle.paper.specs.declared.answer.Payload.{Payload}
use Rattle.paper.specs.Calls.{first, read, write, tick, take, refresh}
use Rattle.book.specs.Words.{part}
use Rattle.book.specs.Layout.{counts_of}
use Rattle.fit.specs.Fit.{between, in_range, others_in_range, counts_fit, home_fit, crew_fit, clock_fit, stable_fit, seen_fit, version_fit, head_fit, messages_fit}
use Rattle.fit.specs.Fit.{carried_fit, copy_fit, beat_fit, message_fit, link_fit, kept_fit, stored_fit, homes_fit}
use Rattle.named.specs.Named.{heads_out_fit, waiting_fit, places_fit, arrival_fit, show_fit, tick_parts, take_parts, refresh_parts, home_parts, read_parts, write_parts}
use Rattle.named.specs.Named.{base_fit, tick_fit, take_fit, refresh_fit, read_fit, write_fit}
use Rattle.links.specs.Send.{roomy}
use Rattle.register.specs.Table.{read_number, write_number, tick_number, take_number, refresh_number}
use Rattle.upkeep.specs.Requests.{call, number_at}
use Rattle.upkeep.specs.Own.{a_clock, a_waiting, a_link, fit_part}

-- the book of the paper's setup line, `S 2 2 4 2 0 1`, but for the clock of shelf 1 of depot 1, which is past the end
pub torn : List ℕ
torn = (2 ∷ 2 ∷ 4 ∷ 2 ∷ 0 ∷ 1 ∷ replicate 83 0) ++ (4294967295 ∷ replicate 16294 0)

pub torn_unfit : fit_part (counts_of torn) torn (a_clock 1 1) ≡ false
unfolding torn fit_part clock_fit
torn_unfit = refl

-- day 7, with a card of 1 by 1
abbrev seven : Payload
seven = record { value = 7; diameter = 1065353216; width = 1065353216 }

-- a tick and a write there, which read and write that clock, are refused; other calls are done, a read and a refresh there among them
pub torn_numbers :
    (number_at torn (call (tick 1 1)) ≡ 1) × (number_at torn (call (write 1 1 seven)) ≡ 1) × (number_at torn (call (tick 0 0)) ≡ 0)
    × (number_at torn (call (read 1 1)) ≡ 0) × (number_at torn (call (write 1 0 seven)) ≡ 0) × (number_at torn (call (refresh 1 1)) ≡ 0)
unfolding torn card_fit length_fit lt le of_bits between in_range others_in_range counts_fit home_fit crew_fit clock_fit stable_fit seen_fit version_fit head_fit messages_fit link_fit kept_fit stored_fit
    homes_fit heads_out_fit places_fit arrival_fit show_fit tick_parts refresh_parts home_parts read_parts write_parts base_fit tick_fit refresh_fit read_fit write_fit
    roomy read_number write_number tick_number refresh_number number_at first pick every covered zeros part
torn_numbers = (refl, refl, refl, refl, refl, refl)

-- the same book, its clocks fit; but on the link of shelf 0 from depot 0 to depot 1 stands a taken message of no kind, and behind it a heartbeat of stamp 5
pub worn : List ℕ
worn = (2 ∷ 2 ∷ 4 ∷ 2 ∷ 0 ∷ 1 ∷ replicate 224 0) ++ (2 ∷ 1 ∷ replicate 294 0) ++ (2 ∷ 5 ∷ replicate 15856 0)

pub worn_unfit : (fit_part (counts_of worn) worn (a_link 0 0 1) ≡ false) × (fit_part (counts_of worn) worn (a_waiting 0 0 1) ≡ true)
unfolding worn fit_part version_fit carried_fit copy_fit beat_fit message_fit head_fit messages_fit link_fit waiting_fit every part
worn_unfit = (refl, refl)

-- a take from there, to which the taken message is nothing, is done; a refresh and a read at that shelf, which would show it, are refused
pub worn_numbers : (number_at worn (call (take 1 0 0)) ≡ 0) × (number_at worn (call (refresh 1 0)) ≡ 1) × (number_at worn (call (read 1 0)) ≡ 1)
unfolding worn between in_range others_in_range counts_fit home_fit crew_fit clock_fit stable_fit seen_fit version_fit carried_fit copy_fit beat_fit message_fit head_fit
    messages_fit link_fit kept_fit stored_fit homes_fit waiting_fit places_fit arrival_fit show_fit take_parts refresh_parts home_parts read_parts base_fit take_fit refresh_fit
    read_fit read_number take_number refresh_number number_at first pick every covered zeros part
worn_numbers = (refl, refl, refl)
