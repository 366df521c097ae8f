-- The worked journal, recovered: the model computes the numbers of its requests, the bridge carries them over, and the theorems of recovery do the rest.
-- Assumes nothing.
use Prim.Native.Nat.{ℕ, suc}
use native.Mathlib.Omega.{arith}
use mathlib.Core.Path.{◌≡◌, refl, sym, ◌∙◌, ap, ap₂, subst}
use mathlib.Core.Bool.{Bool, true, false, ◌&&◌, not}
use mathlib.Core.List.{List, [], ◌∷◌, ◌++◌, map}
use lib.Dec.{ltb, lit<}
use lib.ListN.{length, get_or, drop, replicate, length-replicate}
use borrow.Author.Tests.{eq-eqb, ltb-true}
use Rattle.loops.specs.Loops.{pick, every}
use Rattle.loops.proofs.BoolLaws.{and_left, and_right}
use Rattle.paper.specs.Calls.{Call, read, write, tick, take, refresh, list, number_in, first}
use Rattle.book.specs.Layout.{book_words}
use Rattle.fit.specs.Fit.{between, counts_fit}
use Rattle.named.specs.Named.{base_fit}
use Rattle.register.specs.Calls.{set_up}
use Rattle.register.specs.Table.{setup_number}
use Rattle.wire.specs.Wire.{word_limit, word_bytes, Below}
use Rattle.wire.proofs.WireLaws.{below_none, below_more}
use Rattle.numbers.specs.Numbers.{bytes_of}
use Rattle.upkeep.specs.Requests.{Request, setup, call, number_at, book_after, replies, last}
use Rattle.upkeep.proofs.NeverBadAnswer.{reply_number}
use Rattle.model.specs.Parts.{fresh}
use Rattle.model.specs.Calls.{answers}
use Rattle.model.specs.System.{after}
use Rattle.model.specs.Cases as cases
use Rattle.model.proofs.Lawful.{dominates, lawful, lawful_agrees}
use Rattle.model.proofs.Computed.{answers_now, answers_computed}
use Rattle.bridge.specs.View.{to_model}
use Rattle.bridge.specs.Listing.{counts, homes}
use Rattle.bridge.proofs.Followed.{agrees_start, replies_model}
use Rattle.bridge.proofs.ListingHolds.{set, set_book}
use Rattle.journal.specs.Record.{byte_of, kind_of, form_of, kind_in, numbers_of, count_by, head_of, record_bytes}
use Rattle.journal.specs.Journal.{journal, Done, none, more, whole_in, rest_in, Recovered, end_by, end_of, zero_book}
use Rattle.journal.specs.Worked.{listing, Row}
use Rattle.journal.proofs.ByRecord.{by_none}
use Rattle.journal.proofs.Theorems.{recovers, recovers_cut, stops_refused, stops_strange}
use Rattle.journal.proofs.ZeroStart.{bad_book, zeros_unset}
use Rattle.recovered.specs.Worked.{refused_line, WorkedJournal, WorkedImage}
use Rattle.recovered.proofs.Theorems.{history_of}

-- ---- numbers of requests

numbers_at : List ℕ → List Request → List ℕ
numbers_at l [] = []
numbers_at l (r ∷ rs) = number_at l r ∷ numbers_at (book_after l r) rs

numbers_told : (l : List ℕ) (rs : List Request) → numbers_at l rs ≡ map number_in (replies l rs)
unfolding numbers_at replies
numbers_told l [] = refl
numbers_told l (r ∷ rs) = ap₂ (λ (x : ℕ) (y : List ℕ). x ∷ y) (sym (reply_number l r)) (numbers_told (book_after l r) rs)

-- they are words
small : List ℕ → Bool
small [] = true
small (n ∷ ns) = ltb n word_limit && small ns

small_below : (ns : List ℕ) → small ns ≡ true → Below word_limit ns
unfolding small
small_below [] h = below_none word_limit (lit< tt)
small_below (n ∷ ns) h = below_more _ _ _ (ltb-true n word_limit (and_left (ltb n word_limit) (small ns) h)) (small_below ns (and_right (ltb n word_limit) (small ns) h))

all_small : List Request → Bool
all_small [] = true
all_small (r ∷ rs) = small (numbers_of r) && all_small rs

-- requests whose numbers are 0 are done, and the one behind them has its own
done_by_law : (l : List ℕ) (rs qs : List Request) (ns : List ℕ) → numbers_at l (rs ++ qs) ≡ replicate (length rs) 0 ++ ns → all_small rs ≡ true → Done l rs
unfolding numbers_at all_small
done_by_law l [] qs ns e s = none
done_by_law l (r ∷ rs) qs ns e s =
    more (small_below (numbers_of r) (and_left (small (numbers_of r)) (all_small rs) s)) (ap (λ (x : List ℕ). get_or x 0 0) e)
    (done_by_law (book_after l r) rs qs ns (ap (drop 1) e) (and_right (small (numbers_of r)) (all_small rs) s))

last_number : (l : List ℕ) (rs : List Request) (r : Request) (k : ℕ) → numbers_at l (rs ++ (r ∷ [])) ≡ replicate (length rs) 0 ++ (k ∷ []) → number_at (last l rs) r ≡ k
unfolding numbers_at last
last_number l [] r k e = ap (λ (x : List ℕ). get_or x 0 0) e
last_number l (q ∷ rs) r k e = last_number (book_after l q) rs r k (ap (drop 1) e)

-- ---- as the model computes them

module _ (l : List ℕ) (full : length l ≡ book_words) where
  numbers_set : (calls : List Call) → numbers_at (set_up counts homes) (map call calls) ≡ map number_in (answers (to_model counts) (fresh homes) calls)
  numbers_set calls =
      numbers_told (set_up counts homes) (map call calls)
      ∙ ap (map number_in) (replies_model (to_model counts) (fresh homes) (set_up counts homes) calls (agrees_start l counts homes (set l full)))

  numbers_of_law : (calls : List Call) → numbers_at l (setup counts homes ∷ map call calls) ≡ 0 ∷ map number_in (answers (to_model counts) (fresh homes) calls)
  unfolding numbers_at number_at
  numbers_of_law calls =
      ap₂ (λ (x : ℕ) (y : List ℕ). x ∷ y) (set l full) (ap (λ (b : List ℕ). numbers_at b (map call calls)) (set_book l full) ∙ numbers_set calls)

ten_calls : List Call
ten_calls =
    read 0 0
    ∷ write 0 0 (cases.day 20)
    ∷ tick 0 1
    ∷ write 0 1 (cases.day 30)
    ∷ take 1 0 0
    ∷ refresh 1 0
    ∷ read 1 0
    ∷ take 1 1 0
    ∷ refresh 1 0
    ∷ read 1 0
    ∷ []

ten_done : map number_in (answers cases.counts (fresh cases.homes) ten_calls) ≡ replicate 10 0
unfolding answers_now dominates lawful cases.counts cases.homes ten_calls number_in
ten_done = ap (map number_in) (answers_computed cases.counts lawful lawful_agrees (fresh cases.homes) ten_calls) ∙ refl

third_waits : map number_in (answers cases.counts (fresh cases.homes) (read 0 0 ∷ write 0 0 (cases.day 20) ∷ write 0 1 (cases.day 30) ∷ [])) ≡ 0 ∷ 0 ∷ 8 ∷ []
unfolding answers_now dominates lawful cases.counts cases.homes number_in
third_waits =
    ap (map number_in)
    (answers_computed cases.counts lawful lawful_agrees (fresh cases.homes) (read 0 0 ∷ write 0 0 (cases.day 20) ∷ write 0 1 (cases.day 30) ∷ []))
    ∙ refl

list_done : map number_in (answers cases.counts (fresh cases.homes) (read 0 0 ∷ list 0 (0 ∷ 1 ∷ []) ∷ [])) ≡ 0 ∷ 0 ∷ []
unfolding answers_now dominates lawful cases.counts cases.homes number_in
list_done = ap (map number_in) (answers_computed cases.counts lawful lawful_agrees (fresh cases.homes) (read 0 0 ∷ list 0 (0 ∷ 1 ∷ []) ∷ [])) ∙ refl

list_refused : map number_in (answers cases.counts (fresh cases.homes) (read 0 0 ∷ list 0 [] ∷ [])) ≡ 0 ∷ 15 ∷ []
unfolding answers_now dominates lawful cases.counts cases.homes number_in
list_refused = ap (map number_in) (answers_computed cases.counts lawful lawful_agrees (fresh cases.homes) (read 0 0 ∷ list 0 [] ∷ [])) ∙ refl

-- ---- the rows

row : {s t : Recovered} {n m k : ℕ} → s ≡ t → Row t n m k → Row s n m k
row {n = n} {m = m} {k = k} e r = subst (λ (x : Recovered). Row x n m k) (sym e) r

two : List Request
two = setup (record { depots = 2; shelves = 2; bearings = 4; crews = 2 }) (0 ∷ 1 ∷ []) ∷ call (read 0 0) ∷ []

three : List Request
three = setup (record { depots = 2; shelves = 2; bearings = 4; crews = 2 }) (0 ∷ 1 ∷ []) ∷ call (read 0 0) ∷ call (write 0 0 (cases.day 20)) ∷ []

-- a setup of three crews with two homes
bad_setup : Request
bad_setup = setup (record { depots = 2; shelves = 2; bearings = 4; crews = 3 }) (0 ∷ 1 ∷ [])

bad_number : (l : List ℕ) → length l ≡ book_words → number_at l bad_setup ≡ 11
unfolding bad_setup number_at setup_number first counts_fit between pick every
bad_number l full = ap (λ (b : Bool). pick (not b) 1 11) (eq-eqb (length l) book_words full)

other_than_none : {n k : ℕ} → n ≡ suc k → n ≡ 0 → ⊥
other_than_none e f = omega arith

module _ (l : List ℕ) (full : length l ≡ book_words) where
  all_done : Done l listing
  unfolding listing ten_calls counts homes cases.counts cases.homes all_small small numbers_of
  all_done = done_by_law l listing [] [] (numbers_of_law l full ten_calls ∙ ap (λ (x : List ℕ). 0 ∷ x) ten_done) refl

  three_numbers : numbers_at l (three ++ (refused_line ∷ [])) ≡ replicate 3 0 ++ (8 ∷ [])
  unfolding three counts homes cases.counts cases.homes
  three_numbers = numbers_of_law l full (read 0 0 ∷ write 0 0 (cases.day 20) ∷ write 0 1 (cases.day 30) ∷ []) ∙ ap (λ (x : List ℕ). 0 ∷ x) third_waits

  listed_numbers : numbers_at l (two ++ (call (list 0 (0 ∷ 1 ∷ [])) ∷ [])) ≡ replicate 3 0
  unfolding two counts homes cases.counts cases.homes
  listed_numbers = numbers_of_law l full (read 0 0 ∷ list 0 (0 ∷ 1 ∷ []) ∷ []) ∙ ap (λ (x : List ℕ). 0 ∷ x) list_done

  unlisted_numbers : numbers_at l (two ++ (call (list 0 []) ∷ [])) ≡ replicate 2 0 ++ (15 ∷ [])
  unfolding two counts homes cases.counts cases.homes
  unlisted_numbers = numbers_of_law l full (read 0 0 ∷ list 0 [] ∷ []) ∙ ap (λ (x : List ℕ). 0 ∷ x) list_refused

  two_done : Done l two
  unfolding two all_small small numbers_of
  two_done = done_by_law l two (call (list 0 []) ∷ []) (15 ∷ []) unlisted_numbers refl

  three_done : Done l three
  unfolding three all_small small numbers_of
  three_done = done_by_law l three (refused_line ∷ []) (8 ∷ []) three_numbers refl

  listed_done : Done l (two ++ (call (list 0 (0 ∷ 1 ∷ [])) ∷ []))
  unfolding two all_small small numbers_of
  listed_done = done_by_law l (two ++ (call (list 0 (0 ∷ 1 ∷ [])) ∷ [])) [] [] listed_numbers refl

  pub worked_journal : base_fit l ≡ false → WorkedJournal l
  unfolding listing two three bad_setup journal record_bytes head_of kind_in form_of count_by numbers_of bytes_of word_bytes byte_of kind_of whole_in rest_in pick last end_of end_by small
  worked_journal unset = record {
    no_bytes = row (by_none l 0 0) (record { done = refl; bytes = refl; ended = refl });
    first_25 = row (recovers_cut 25 all_done) (record { done = refl; bytes = refl; ended = refl });
    no_record = ap (λ (s : Recovered). s.book) (recovers_cut 25 all_done);
    first_26 = row (recovers_cut 26 all_done) (record { done = refl; bytes = refl; ended = refl });
    first_27 = row (recovers_cut 27 all_done) (record { done = refl; bytes = refl; ended = refl });
    waits =
        let z : number_at (last l three) refused_line ≡ 8 = last_number l three refused_line 8 three_numbers in
        row (stops_refused three_done [] refused_line (small_below (numbers_of refused_line) refl) (other_than_none z)) (record { done = refl; bytes = refl; ended = z });
    no_kind = λ f. row (stops_strange two_done f 9 refl) (record { done = refl; bytes = refl; ended = refl });
    list_of_two = row (recovers listed_done) (record { done = refl; bytes = refl; ended = refl });
    list_of_none =
        let z : number_at (last l two) (call (list 0 [])) ≡ 15 = last_number l two (call (list 0 [])) 15 unlisted_numbers in
        row (stops_refused two_done [] (call (list 0 [])) (small_below (numbers_of (call (list 0 []))) refl) (other_than_none z)) (record { done = refl; bytes = refl; ended = z });
    no_setup =
        let z : number_at l (call (read 0 0)) ≡ 1 = bad_book l unset (read 0 0) in
        row (stops_refused (none {l = l}) [] (call (read 0 0)) (small_below (numbers_of (call (read 0 0))) refl) (other_than_none z)) (record { done = refl; bytes = refl; ended = z });
    bad_counts =
        row (stops_refused (none {l = l}) [] bad_setup (small_below (numbers_of bad_setup) refl) (other_than_none (bad_number l full)))
        (record { done = refl; bytes = refl; ended = bad_number l full });
    all_of_it = row (recovers all_done) (record { done = refl; bytes = refl; ended = refl });
  }

-- of the book of zeros
zeros_full : length zero_book ≡ book_words
zeros_full = length-replicate {A = ℕ} book_words 0

pub worked_zeros : WorkedJournal zero_book
worked_zeros = worked_journal zero_book zeros_full zeros_unset

-- ---- from an image

read_ticked : map number_in (answers cases.counts (fresh cases.homes) (read 0 0 ∷ tick 0 1 ∷ [])) ≡ 0 ∷ 0 ∷ []
unfolding answers_now dominates lawful cases.counts cases.homes number_in
read_ticked = ap (map number_in) (answers_computed cases.counts lawful lawful_agrees (fresh cases.homes) (read 0 0 ∷ tick 0 1 ∷ [])) ∙ refl

read_and_tick : List Request
read_and_tick = call (read 0 0) ∷ call (tick 0 1) ∷ []

went_on : Done (set_up counts homes) read_and_tick
unfolding read_and_tick all_small small numbers_of counts homes cases.counts cases.homes
went_on = done_by_law (set_up counts homes) read_and_tick [] [] (numbers_set zero_book zeros_full (read 0 0 ∷ tick 0 1 ∷ []) ∙ read_ticked) refl

pub worked_image : WorkedImage
unfolding WorkedImage read_and_tick last after number_at
worked_image = history_of counts homes (tick 0 1 ∷ read 0 0 ∷ []) (ap (λ (s : Recovered). s.book) (recovers went_on)) zero_book (set zero_book zeros_full)
