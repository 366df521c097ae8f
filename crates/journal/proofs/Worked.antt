-- The worked journal of docs/JOURNAL.md: its bytes, record by record; what a byte of no kind and a cut record are; and the numbers of how recovery ends.
-- Assumes nothing.
use Prim.Native.Nat.{ℕ}
use native.Mathlib.Omega.{arith}
use mathlib.Core.Path.{◌≡◌, refl, subst}
use mathlib.Core.Option.{none}
use mathlib.Core.List.{List, [], ◌∷◌}
use lib.Dec.{lit<}
use lib.ListN.{length}
use Rattle.loops.specs.Loops.{pick}
use Rattle.paper.specs.Calls.{read, write, tick, take, refresh, move, list}
use Rattle.upkeep.specs.Requests.{setup, call, number_at}
use Rattle.wire.specs.Wire.{word_limit, word_bytes, Below}
use Rattle.wire.proofs.WireLaws.{below_none, below_more}
use Rattle.numbers.specs.Numbers.{bytes_of}
use Rattle.journal.specs.declared.record.Kind.TheVariants.{Setup}
use Rattle.journal.specs.declared.recover.Fault.TheVariants.{Refused, Strange}
use Rattle.journal.specs.Record.{byte_of, kind_of, form_of, head_by, head_size, numbers_by, numbers_in, size, kind_in, numbers_of, count_by, head_of, record_bytes}
use Rattle.journal.specs.Worked.{listing}
use Rattle.journal.specs.Journal.{journal, whole_in, within, stopped, zero_book, end_by, end_of, Ended, ends_whole, ends_cut, ends_refused, ends_strange}
use Rattle.journal.proofs.ZeroStart.{bad_book, zeros_unset}

pub the_setup :
    record_bytes (setup (record { depots = 2; shelves = 2; bearings = 4; crews = 2 }) (0 ∷ 1 ∷ []))
    ≡ 1 ∷ 2 ∷ 2 ∷ 0 ∷ 0 ∷ 0 ∷ 2 ∷ 0 ∷ 0 ∷ 0 ∷ 4 ∷ 0 ∷ 0 ∷ 0 ∷ 2 ∷ 0 ∷ 0 ∷ 0 ∷ 0 ∷ 0 ∷ 0 ∷ 0 ∷ 1 ∷ 0 ∷ 0 ∷ 0 ∷ []
unfolding record_bytes head_of kind_in form_of count_by numbers_of bytes_of word_bytes byte_of
the_setup = refl

pub the_write :
    record_bytes (call (write 0 1 (record { value = 30; diameter = 1065353216; width = 1065353216 })))
    ≡ 3 ∷ 0 ∷ 0 ∷ 0 ∷ 0 ∷ 1 ∷ 0 ∷ 0 ∷ 0 ∷ 30 ∷ 0 ∷ 0 ∷ 0 ∷ 0 ∷ 0 ∷ 128 ∷ 63 ∷ 0 ∷ 0 ∷ 128 ∷ 63 ∷ []
unfolding record_bytes head_of kind_in form_of count_by numbers_of bytes_of word_bytes byte_of
the_write = refl

pub the_others :
    journal (call (read 1 0) ∷ call (tick 0 1) ∷ call (take 1 1 0) ∷ call (refresh 1 0) ∷ call (move 1 0) ∷ [])
    ≡ 2 ∷ 1 ∷ 0 ∷ 0 ∷ 0 ∷ 0 ∷ 0 ∷ 0 ∷ 0
    ∷ 4 ∷ 0 ∷ 0 ∷ 0 ∷ 0 ∷ 1 ∷ 0 ∷ 0 ∷ 0
    ∷ 5 ∷ 1 ∷ 0 ∷ 0 ∷ 0 ∷ 1 ∷ 0 ∷ 0 ∷ 0 ∷ 0 ∷ 0 ∷ 0 ∷ 0
    ∷ 6 ∷ 1 ∷ 0 ∷ 0 ∷ 0 ∷ 0 ∷ 0 ∷ 0 ∷ 0
    ∷ 7 ∷ 1 ∷ 0 ∷ 0 ∷ 0 ∷ 0 ∷ 0 ∷ 0 ∷ 0
    ∷ []
unfolding journal record_bytes head_of kind_in form_of count_by numbers_of bytes_of word_bytes byte_of
the_others = refl

-- a list of bearings 0 and 1, and one of none
pub the_lists :
    journal (call (list 0 (0 ∷ 1 ∷ [])) ∷ call (list 0 []) ∷ [])
    ≡ 8 ∷ 2 ∷ 0 ∷ 0 ∷ 0 ∷ 0 ∷ 0 ∷ 0 ∷ 0 ∷ 0 ∷ 1 ∷ 0 ∷ 0 ∷ 0
    ∷ 8 ∷ 0 ∷ 0 ∷ 0 ∷ 0 ∷ 0
    ∷ []
unfolding journal record_bytes head_of kind_in form_of count_by numbers_of bytes_of word_bytes byte_of
the_lists = refl

pub all_bytes : length (journal listing) ≡ 148
unfolding listing journal record_bytes head_of kind_in form_of count_by numbers_of bytes_of word_bytes byte_of
all_bytes = refl

-- of its first 25, 26, 27 and 147 bytes
pub whole_records : (whole_in 25 listing ≡ 0) × (whole_in 26 listing ≡ 1) × (whole_in 27 listing ≡ 1) × (whole_in 147 listing ≡ 10) × (whole_in 148 listing ≡ 11)
unfolding listing whole_in record_bytes head_of kind_in form_of count_by numbers_of bytes_of word_bytes byte_of pick
whole_records = (refl, refl, refl, refl, refl)

pub no_kinds : (kind_of 0 ≡ none) × (kind_of 9 ≡ none) × (kind_of 255 ≡ none)
unfolding kind_of pick
no_kinds = (refl, refl, refl)

pub endings :
    (l : List ℕ) (n m : ℕ) →
    (end_of (within l n m []) ≡ 0)
    × (end_of (within l n m (1 ∷ [])) ≡ 111)
    × (end_of (stopped l n m (9 ∷ []) Strange) ≡ 110)
    × (end_of (stopped l n m (2 ∷ []) (Refused 5)) ≡ 5)
unfolding end_of end_by
endings l n m = (refl, refl, refl, refl)

-- every way to end
pub ended_worked :
    (n m : ℕ) →
    Ended (within zero_book n m []) []
    × Ended (within zero_book n m (1 ∷ [])) []
    × Ended (stopped zero_book n m (record_bytes (call (read 0 0))) (Refused 1)) (2 ∷ [])
    × Ended (stopped zero_book n m (9 ∷ []) Strange) (1 ∷ [])
unfolding kind_of size head_size head_by numbers_in numbers_by form_of numbers_of pick
ended_worked n m =
    let z : number_at zero_book (call (read 0 0)) ≡ 1 = bad_book zero_book zeros_unset (read 0 0) in
    let b : Below word_limit (0 ∷ 0 ∷ []) = below_more _ _ _ (lit< tt) (below_more _ _ _ (lit< tt) (below_none word_limit (lit< tt))) in (
      ends_whole,
      ends_cut {k = Setup} refl (lit< tt),
      subst (λ (k : ℕ). Ended (stopped zero_book n m (record_bytes (call (read 0 0))) (Refused k)) (2 ∷ [])) z (ends_refused (call (read 0 0)) b (λ e. absurd (omega (arith, z, e)))),
      ends_strange refl,
    )
