-- Lists that are fit and lists that are not: the definition is neither always false nor always true, and the words that it does not read
-- may hold anything.
-- Assumes nothing.
use Prim.Native.Nat.{ℕ}
use mathlib.Core.Path.{◌≡◌, refl}
use mathlib.Core.List.{List, [], ◌∷◌, ◌++◌}
use mathlib.Core.Bool.{true, false}
use lib.Dec.{lit≤}
use lib.ListN.{length, replicate, get_or}
use lib.Ieee.{of_bits, lt, le}
use borrow.Author.Tests.{ne_eqb}
use Rattle.loops.specs.Loops.{every}
use Rattle.order.specs.Vector.{covered, zeros}
use Rattle.loops.proofs.BoolLaws.{and_stop}
use Rattle.card.specs.Card.{length_fit, card_fit}
use Rattle.book.specs.Words.{part}
use Rattle.book.specs.Layout.{book_words}
use Rattle.book.proofs.WordsLaws.{part_at}
use Rattle.fit.specs.Fit.{fit, between, in_range, others_in_range, counts_fit, home_fit, crew_fit, clock_fit, stable_fit, seen_fit, shelf_fit, version_fit}
use Rattle.fit.specs.Fit.{head_fit, messages_fit, link_fit, kept_fit, stored_fit, homes_fit, crews_fit, shelves_fit, links_fit, stores_fit, parts_fit}
use Rattle.fit.specs.Fit.{carried_fit, copy_fit, beat_fit, message_fit}

-- a list of any other length is not fit
pub fit_length : (l : List ℕ) → (length l ≡ book_words → ⊥) → fit l ≡ false
unfolding fit
fit_length l h = and_stop _ (ne_eqb _ _ h)

-- the book of the paper's setup line, `S 2 2 4 2 0 1`
pub listing_fit : fit (2 ∷ 2 ∷ 4 ∷ 2 ∷ 0 ∷ 1 ∷ replicate 16378 0) ≡ true
unfolding fit between in_range others_in_range counts_fit home_fit crew_fit clock_fit stable_fit seen_fit shelf_fit version_fit head_fit messages_fit link_fit kept_fit
    stored_fit homes_fit crews_fit shelves_fit links_fit stores_fit parts_fit every covered zeros part
listing_fit = refl

-- two depots with one shelf, bearing and crew each: depot 0 has written 20 with the card 1 by 1 and the vector (1, 0) and then ticked, and depot 1
-- has taken the copy and not the heartbeat; diameter and width are those of the copy and of the stored version
pub busy_with : ℕ → ℕ → ℕ → ℕ → List ℕ
busy_with d w e x =
    (2 ∷ 1 ∷ 1 ∷ 1 ∷ replicate 16 0) ++ (1 ∷ replicate 63 0) ++ (2 ∷ replicate 15 0) ++ replicate 130 0 ++ (2 ∷ 1 ∷ replicate 284 0)
    ++ (1 ∷ 0 ∷ 20 ∷ d ∷ w ∷ 0 ∷ 1 ∷ 0 ∷ 0 ∷ 0 ∷ []) ++ (2 ∷ 2 ∷ replicate 10068 0) ++ (0 ∷ 20 ∷ e ∷ x ∷ 0 ∷ 1 ∷ 0 ∷ 0 ∷ 0 ∷ replicate 5779 0)

pub busy : List ℕ
busy = busy_with 1065353216 1065353216 1065353216 1065353216

pub busy_fit : fit busy ≡ true
unfolding busy_with busy card_fit length_fit lt le of_bits fit between in_range others_in_range counts_fit home_fit crew_fit clock_fit stable_fit seen_fit shelf_fit version_fit carried_fit copy_fit beat_fit
    message_fit head_fit messages_fit link_fit kept_fit stored_fit homes_fit crews_fit shelves_fit links_fit stores_fit parts_fit every covered zeros part
busy_fit = refl

-- a copy whose width is 0, or a stored version whose diameter is the float after 2,000, and the book is not fit
pub busy_unfit : (fit (busy_with 1065353216 0 1065353216 1065353216) ≡ false) × (fit (busy_with 1065353216 1065353216 1157234689 1065353216) ≡ false)
unfolding busy_with card_fit length_fit lt le of_bits fit between in_range others_in_range counts_fit home_fit crew_fit clock_fit stable_fit seen_fit shelf_fit version_fit carried_fit copy_fit
    beat_fit message_fit head_fit messages_fit link_fit kept_fit stored_fit homes_fit crews_fit shelves_fit links_fit stores_fit parts_fit every covered zeros part
busy_unfit = (refl, refl)

-- a register of one depot, shelf, bearing and crew, with nothing written: nine words count, and every other may hold anything
pub nine_words :
    (l : List ℕ) → length l ≡ book_words → get_or l 0 0 ≡ 1 → get_or l 1 0 ≡ 1 → get_or l 2 0 ≡ 1 → get_or l 3 0 ≡ 1 →
    get_or l 4 0 ≡ 0 → get_or l 20 0 ≡ 0 → get_or l 84 0 ≡ 0 → get_or l 100 0 ≡ 0 → get_or l 10601 0 ≡ 0 → fit l ≡ true
unfolding fit between in_range others_in_range counts_fit home_fit crew_fit clock_fit stable_fit seen_fit shelf_fit version_fit head_fit messages_fit link_fit kept_fit
    stored_fit homes_fit crews_fit shelves_fit links_fit stores_fit parts_fit every covered zeros
nine_words l full d p k c home entry clock own stored = rw (full, d, p, k, c, home, entry, clock, own, part_at l 10596 9 5 (lit≤ tt), stored)
