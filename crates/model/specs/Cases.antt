-- The worked cases that speak of the model: the listing with (a) to (c), (d) to (g), and those of the requests on dates, cards and lists.
-- Assumes nothing.
use Rattle.std.specs.Prelude.{ℕ, zero, suc, ◌≡◌, List, [], ◌∷◌, ◌++◌}
use Rattle.model.specs.Parts.{Counts, fresh}
use Rattle.paper.specs.declared.answer.Payload.{Payload}
use Rattle.paper.specs.Calls.{Call, read, write, tick, take, refresh, list, Answer, refused, done, reads, read_value, read_unwritten, current, superseded, listed}
use Rattle.model.specs.Calls.{answers, ends}
use Rattle.model.specs.System.{run}

-- S 2 2 4 2 0 1: two depots, two shelves, four bearings, two crews with homes 0 and 1
unfoldable pub counts : Counts
counts = record { depots = 2; shelves = 2; bearings = 4; crews = 2 }

unfoldable pub homes : List ℕ
homes = 0 ∷ (1 ∷ [])

-- a day, and the card that the listing has in each write: 1 by 1, whose bits are 1065353216
abbrev pub day : ℕ → Payload
day n = record { value = n; diameter = 1065353216; width = 1065353216 }

-- the vector (a, b)
abbrev pub pair : ℕ → ℕ → List ℕ
pair a b = a ∷ (b ∷ [])

-- the listing's calls after its setup line, then those of (a) and (b), oldest first
unfoldable pub listing_to_b : List Call
listing_to_b =
    read 0 0 ∷ (write 0 0 (day 20) ∷ (write 0 1 (day 30) ∷ (tick 0 1 ∷ (write 0 1 (day 30) ∷ (take 1 0 0 ∷ (refresh 1 0 ∷ (read 1 0 ∷ (take 1 1 0 ∷ (refresh 1 0 ∷ (read 1 0
    ∷ (take 1 1 0 ∷ (refresh 1 1 ∷ (read 1 1
    ∷ (tick 0 0 ∷ (take 1 0 0 ∷ (refresh 1 1 ∷ (read 1 1
    ∷ [])))))))))))))))))

-- then that of (c): crew 1 reads bearing 0
unfoldable pub listing : List Call
listing = listing_to_b ++ (read 1 0 ∷ [])

unfoldable pub listing_answers : List Answer
listing_answers =
    reads (read_unwritten (pair 0 0)) ∷ (current 1 ∷ (refused 8 ∷ (done ∷ (current 2 ∷ (done ∷ (done ∷ (reads (read_unwritten (pair 0 0)) ∷ (done ∷ (done ∷ (reads (read_value (day 20) (pair 1 0))
    ∷ (done ∷ (done ∷ (reads (read_unwritten (pair 0 0))
    ∷ (done ∷ (done ∷ (done ∷ (reads (read_value (day 30) (pair 2 0))
    ∷ (reads (read_value (day 20) (pair 1 0))
    ∷ []))))))))))))))))))

-- (c) there shelf 0's stable entry for depot 0, at depot 1, rises from 1 to 2: it is this after calls, oldest first
unfoldable pub stable_after : List Call → ℕ
stable_after l = ((ends counts (fresh homes) l).shelf 1 0).stable 0

-- (d) crew 1 then writes bearing 0: stamp 1, current
unfoldable pub case_d : List Call
case_d = listing ++ (write 1 0 (day 40) ∷ [])

unfoldable pub case_d_answers : List Answer
case_d_answers = listing_answers ++ (current 1 ∷ [])

-- (e) or, at the listing's end but with its last read left out, crew 1 writes bearing 0: superseded, and 20 stays
unfoldable pub case_e : List Call
case_e =
    read 0 0 ∷ (write 0 0 (day 20) ∷ (write 0 1 (day 30) ∷ (tick 0 1 ∷ (write 0 1 (day 30) ∷ (take 1 0 0 ∷ (refresh 1 0 ∷ (read 1 0 ∷ (take 1 1 0 ∷ (refresh 1 0
    ∷ (write 1 0 (day 40) ∷ (read 1 0
    ∷ [])))))))))))

unfoldable pub case_e_answers : List Answer
case_e_answers =
    reads (read_unwritten (pair 0 0)) ∷ (current 1 ∷ (refused 8 ∷ (done ∷ (current 2 ∷ (done ∷ (done ∷ (reads (read_unwritten (pair 0 0)) ∷ (done ∷ (done
    ∷ (superseded 1 ∷ (reads (read_value (day 20) (pair 1 0))
    ∷ [])))))))))))

-- every shelf refreshed, then every shelf ticked
abbrev pub refreshes_and_ticks : List Call
refreshes_and_ticks = refresh 0 0 ∷ (refresh 0 1 ∷ (refresh 1 0 ∷ (refresh 1 1 ∷ (tick 0 0 ∷ (tick 0 1 ∷ (tick 1 0 ∷ (tick 1 1 ∷ [])))))))

abbrev pub eight_done : List Answer
eight_done = done ∷ (done ∷ (done ∷ (done ∷ (done ∷ (done ∷ (done ∷ (done ∷ [])))))))

-- (f) fresh: crew 0 writes bearing 0 := 7, (1, 0); crew 1 writes it := 9, (0, 1); after two rounds, each taking until EMPTY LINK, both depots read 7
unfoldable pub case_f : List Call
case_f =
    (write 0 0 (day 7) ∷ (write 1 0 (day 9) ∷ []))
    ++ ((take 1 0 0 ∷ (take 1 0 0 ∷ (take 1 1 0 ∷ (take 0 0 1 ∷ (take 0 0 1 ∷ (take 0 1 1 ∷ []))))))
    ++ (refreshes_and_ticks
    ++ ((take 1 0 0 ∷ (take 1 0 0 ∷ (take 1 1 0 ∷ (take 1 1 0 ∷ (take 0 0 1 ∷ (take 0 0 1 ∷ (take 0 1 1 ∷ (take 0 1 1 ∷ []))))))))
    ++ (refreshes_and_ticks
    ++ (read 0 0 ∷ (read 1 0 ∷ []))))))

unfoldable pub case_f_answers : List Answer
case_f_answers =
    (current 1 ∷ (current 1 ∷ []))
    ++ ((done ∷ (refused 7 ∷ (refused 7 ∷ (done ∷ (refused 7 ∷ (refused 7 ∷ []))))))
    ++ (eight_done
    ++ ((done ∷ (refused 7 ∷ (done ∷ (refused 7 ∷ (done ∷ (refused 7 ∷ (done ∷ (refused 7 ∷ []))))))))
    ++ (eight_done
    ++ (reads (read_value (day 7) (pair 1 0)) ∷ (reads (read_value (day 7) (pair 1 0)) ∷ []))))))

-- (g) fresh: 16 ticks of depot 0 shelf 0 pass; the 17th is LINK FULL, clock still 16; one take, and the tick passes, clock 17
unfoldable pub many_ticks : ℕ → List Call
many_ticks zero = []
many_ticks (suc n) = tick 0 0 ∷ many_ticks n

unfoldable pub many_done : ℕ → List Answer
many_done zero = []
many_done (suc n) = done ∷ many_done n

unfoldable pub case_g : List Call
case_g = many_ticks 17 ++ (take 1 0 0 ∷ (tick 0 0 ∷ []))

unfoldable pub case_g_answers : List Answer
case_g_answers = many_done 16 ++ (refused 9 ∷ (done ∷ (done ∷ [])))

-- the clock of depot 0 shelf 0 after a history, newest call first
unfoldable pub clock_after : List Call → ℕ
clock_after h = ((run counts homes h).shelf 0 0).clock

-- the request on dates, fresh: crew 0 writes bearing 0 := 146,096, the last day; 146,097 is BAD DATE. Of bearing 4, which there is none of, it is
-- BAD KEY; of bearing 1, at whose shelf the crew would have to wait, BAD DATE, and with a date WAIT
unfoldable pub case_dates : List Call
case_dates = write 0 0 (day 146096) ∷ (write 0 0 (day 146097) ∷ (write 0 4 (day 146097) ∷ (write 0 1 (day 146097) ∷ (write 0 1 (day 146096) ∷ (read 0 0 ∷ [])))))

unfoldable pub case_dates_answers : List Answer
case_dates_answers = current 1 ∷ (refused 16 ∷ (refused 4 ∷ (refused 16 ∷ (refused 8 ∷ (reads (read_value (day 146096) (pair 1 0)) ∷ [])))))

-- a day with any two words for a card
abbrev pub carded : ℕ → ℕ → ℕ → Payload
carded n d w = record { value = n; diameter = d; width = w }

-- the request on cards, fresh: crew 0 writes bearing 0 with a card of 2,000 by the least float above 0, and reads both back. A width of the float after 2,000,
-- a diameter of 0 and a width that is no number are BAD CARD. Of bearing 4, which there is none of, that is BAD KEY; of day 146,097, BAD DATE; of bearing 1,
-- at whose shelf the crew would have to wait, BAD CARD
unfoldable pub case_cards : List Call
case_cards =
    write 0 0 (carded 20 1157234688 1) ∷ (write 0 0 (carded 20 1 1157234689) ∷ (write 0 0 (carded 20 0 1065353216) ∷ (write 0 0 (carded 20 1065353216 2143289344)
    ∷ (write 0 4 (carded 20 0 0) ∷ (write 0 0 (carded 146097 0 0) ∷ (write 0 1 (carded 20 0 0) ∷ (read 0 0
    ∷ [])))))))

unfoldable pub case_cards_answers : List Answer
case_cards_answers =
    current 1 ∷ (refused 14 ∷ (refused 14 ∷ (refused 14
    ∷ (refused 4 ∷ (refused 16 ∷ (refused 14 ∷ (reads (read_value (carded 20 1157234688 1) (pair 1 0))
    ∷ [])))))))

-- the request on lists: at the end of (c) crew 1 lists four bearings, one of them twice. No bearing and nine are BAD LIST, bearing 4 is BAD KEY; of crew 2, which there
-- is none of, no bearing is BAD CREW, and of nine bearings that there are none of, BAD LIST
unfoldable pub case_lists : List Call
case_lists = listing ++ (list 1 (0 ∷ (1 ∷ (2 ∷ (0 ∷ [])))) ∷ (list 1 [] ∷ (list 1 (4 ∷ []) ∷ (list 2 []
    ∷ (list 1 (9 ∷ (9 ∷ (9 ∷ (9 ∷ (9 ∷ (9 ∷ (9 ∷ (9 ∷ (9 ∷ []))))))))) ∷ [])))))

unfoldable pub case_lists_answers : List Answer
case_lists_answers = listing_answers
    ++ (listed (read_value (day 20) (pair 1 0) ∷ (read_value (day 30) (pair 2 0) ∷ (read_unwritten (pair 0 0) ∷ (read_value (day 20) (pair 1 0) ∷ []))))
    ∷ (refused 15 ∷ (refused 4 ∷ (refused 5 ∷ (refused 15 ∷ [])))))

-- what these cases come to
pub record CasesHold : Type 0 where
  -- the listing's answers with those of (a) to (c), one list with one claim
  pub listed : answers counts (fresh homes) listing ≡ listing_answers
  pub c_before : stable_after listing_to_b ≡ 1
  pub c_after : stable_after listing ≡ 2
  pub d : answers counts (fresh homes) case_d ≡ case_d_answers
  pub e : answers counts (fresh homes) case_e ≡ case_e_answers
  pub f : answers counts (fresh homes) case_f ≡ case_f_answers
  pub g : answers counts (fresh homes) case_g ≡ case_g_answers
  pub g_full : clock_after (many_ticks 17) ≡ 16
  pub g_again : clock_after (tick 0 0 ∷ (take 1 0 0 ∷ many_ticks 17)) ≡ 17
  pub dates : answers counts (fresh homes) case_dates ≡ case_dates_answers
  pub cards : answers counts (fresh homes) case_cards ≡ case_cards_answers
  pub lists : answers counts (fresh homes) case_lists ≡ case_lists_answers
