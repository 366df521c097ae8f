-- The words of the demands at work, on registers of two depots with two shelves each; histories have their newest call first.
-- Assumes nothing.
use Rattle.std.specs.Prelude.{ℕ, ◌-◌, ◌≡◌, List, [], ◌∷◌, ◌++◌, reverse}
use Rattle.model.specs.Parts.{Counts, Write, fresh, unwritten}
use Rattle.paper.specs.Calls.{Call, read, write, tick, take, refresh, list}
use Rattle.model.specs.Calls.{made}
use Rattle.model.specs.System.{System, after, of_model, run}
use Rattle.model.specs.Demands.{Silent, Got, Past, Round, Rounds, lowest_clock}
use Rattle.model.specs.Cases.{counts, homes, day, case_f}

-- ---- the past

-- S 2 2 4 3 0 1 1: the listing's register with a third crew, whose home is depot 1
unfoldable pub three : Counts
three = record { depots = 2; shelves = 2; bearings = 4; crews = 3 }

unfoldable pub three_homes : List ℕ
three_homes = 0 ∷ (1 ∷ (1 ∷ []))

abbrev pub trio : System
trio = of_model three three_homes

-- crew 0 writes 20 to bearing 0, then 30 to bearing 1; both are taken at depot 1, where shelf 1 is refreshed and shelf 0 is not
unfoldable pub twenty_written : List Call
twenty_written = tick 0 1 ∷ (write 0 0 (day 20) ∷ [])

unfoldable pub thirty_sent : List Call
thirty_sent = refresh 1 1 ∷ (take 1 0 0 ∷ (tick 0 0 ∷ (take 1 1 0 ∷ (take 1 1 0 ∷ (take 1 0 0 ∷ (write 0 1 (day 30) ∷ twenty_written))))))

-- crew 1 reads 30, never bearing 0, and writes 40 to bearing 2; crew 2 reads 40, and nothing else
unfoldable pub thirty_read : List Call
thirty_read = read 1 1 ∷ thirty_sent

unfoldable pub forty_read : List Call
forty_read = read 2 2 ∷ (write 1 2 (day 40) ∷ thirty_read)

unfoldable pub twenty : Write
twenty = record { bearing = 0; version = made three 0 0 (day 20) (fresh three_homes) }

-- ---- rounds

unfoldable pub all_refreshed : List Call
all_refreshed = refresh 1 1 ∷ (refresh 1 0 ∷ (refresh 0 1 ∷ (refresh 0 0 ∷ [])))

unfoldable pub all_ticked : List Call
all_ticked = tick 1 1 ∷ (tick 1 0 ∷ (tick 0 1 ∷ (tick 0 0 ∷ [])))

-- (f): the two writes, then two rounds
unfoldable pub two_writes : List Call
two_writes = write 1 0 (day 9) ∷ (write 0 0 (day 7) ∷ [])

unfoldable pub first_takes : List Call
first_takes = take 0 1 1 ∷ (take 0 0 1 ∷ (take 0 0 1 ∷ (take 1 1 0 ∷ (take 1 0 0 ∷ (take 1 0 0 ∷ [])))))

unfoldable pub one_round : List Call
one_round = all_ticked ++ (all_refreshed ++ (first_takes ++ two_writes))

unfoldable pub second_takes : List Call
second_takes = take 0 1 1 ∷ (take 0 1 1 ∷ (take 0 0 1 ∷ (take 0 0 1 ∷ (take 1 1 0 ∷ (take 1 1 0 ∷ (take 1 0 0 ∷ (take 1 0 0 ∷ [])))))))

unfoldable pub two_rounds : List Call
two_rounds = all_ticked ++ (all_refreshed ++ (second_takes ++ one_round))

-- ---- silence

-- crew 0 writes twice on shelf 0, and from then on asks to write on shelf 1: at once, after one round, and after two
unfoldable pub twice : List Call
twice = write 0 0 (day 21) ∷ (write 0 0 (day 20) ∷ [])

abbrev pub asks : Call
asks = write 0 1 (day 30)

unfoldable pub waited_once : List Call
waited_once = all_ticked ++ (all_refreshed ++ ((take 1 0 0 ∷ (take 1 0 0 ∷ [])) ++ (asks ∷ twice)))

unfoldable pub waited_twice : List Call
waited_twice = all_ticked ++ (all_refreshed ++ ((take 0 1 1 ∷ (take 0 0 1 ∷ (take 1 1 0 ∷ (take 1 0 0 ∷ [])))) ++ (asks ∷ waited_once)))

-- ---- what they come to

-- the listing's register, and the number of a call there
abbrev pub duo : System
duo = of_model counts homes

abbrev pub number_after : List Call → Call → ℕ
number_after h q = duo.number (after duo h) q

pub record Words : Type 0 where
  -- 20's write is in crew 1's past through 30, which it read: so it gets 20 where it reads bearing 0
  pub through_read : Past three trio thirty_read 1 twenty
  pub gets_twenty : Got trio thirty_read (read 1 0) 1 0 twenty.version
  -- before that, shelf 0 has not been refreshed and a read of bearing 0 alone is told unwritten; on one page with bearing 1 it is told 20
  pub reads_nothing : Got trio thirty_sent (read 1 0) 1 0 unwritten
  pub lists_twenty : Got trio thirty_sent (list 1 (0 ∷ (1 ∷ []))) 1 0 twenty.version
  -- and in crew 2's, through 40, whose author had it from 30's author
  pub through_two : Past three trio forty_read 2 twenty
  -- (f) is two rounds, then two reads; after one of them depot 1 still stores 9
  pub is_f : reverse two_rounds ++ (read 0 0 ∷ (read 1 0 ∷ [])) ≡ case_f
  pub f_rounds : Rounds counts duo 2 two_writes two_rounds
  pub not_yet : (((run counts homes one_round).shelf 1 0).store 0).payload ≡ day 9
  -- where nothing is to be taken, refreshes and ticks are a round; with a read before, between or after them they are none
  pub plain : Round counts duo [] (all_ticked ++ all_refreshed)
  pub read_first : Round counts duo [] (all_ticked ++ (all_refreshed ++ (read 0 0 ∷ []))) → ⊥
  pub read_between : Round counts duo [] (all_ticked ++ (read 0 0 ∷ all_refreshed)) → ⊥
  pub read_last : Round counts duo [] (read 0 0 ∷ (all_ticked ++ all_refreshed)) → ⊥
  -- crew 0 has to wait for two rounds; what it asks in vain leaves it silent and stands between rounds; one round is not enough, two are
  pub two_lacking : duo.crew (after duo twice) 0 0 - lowest_clock counts duo twice 0 ≡ 2
  pub silent : Silent duo 0 twice waited_twice
  pub waited : Rounds counts duo 2 twice waited_twice
  pub in_vain : number_after twice asks ≡ 8
  pub in_vain_again : number_after waited_once asks ≡ 8
  pub at_last : number_after waited_twice asks ≡ 0
