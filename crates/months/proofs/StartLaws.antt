-- The laws of the month starts: they rise with the months, and the table has them all, because its successor rule is tested over the
-- whole table at once.
-- Assumes nothing.
use Prim.Native.Nat.{ℕ, zero, suc, ◌+◌, ◌≤◌, ◌<◌}
use native.Mathlib.Omega.{arith}
use mathlib.Core.Path.{◌≡◌, refl, sym, ◌∙◌, ap}
use mathlib.Core.List.{◌∷◌}
use mathlib.Core.Logic.{⊎_elim}
use lib.Dec.{T}
use lib.ListN.{length, get_or}
use Rattle.loops.specs.Loops.{pick}
use Rattle.loops.proofs.BoolLaws.{eq_or_ne}
use Rattle.months.specs.Months.{month_lengths, leap, is_month, days_in, days_of, start, Starts}
use Rattle.months.proofs.TableRule.{rises, rule_at}
use Rattle.months.proofs.StartTable.{first, later}

pub start_none : start 0 ≡ 0
unfolding start
start_none = refl

pub start_suc : (m : ℕ) → start (suc m) ≡ start m + days_of m
unfolding start
start_suc m = refl

-- a later month starts no earlier than the one before it ends
pub start_after : (m n : ℕ) → m < n → start m + days_of m ≤ start n
start_after m zero h = absurd (omega arith)
start_after m (suc n) h =
    ⊎_elim
    (λ (e : m ≡ n). rw e (omega (arith, start_suc n)))
    (λ (e : m ≡ n → ⊥). omega (arith, start_suc n, start_after m n (omega arith)))
    (eq_or_ne m n)

-- THE TABLE'S RULE, computed once: each entry is the one before plus that month's days
table_rises : T (rises days_of 0 first later)
unfolding later month_lengths leap is_month days_in days_of pick
table_rises = tt

pub table_length : length (first ∷ later) ≡ 4800
unfolding later
table_length = refl

later_length : length later ≡ 4799
unfolding later
later_length = refl

-- the table has the month starts
pub table_start : (m : ℕ) → m < 4800 → get_or (first ∷ later) m 0 ≡ start m
table_start zero h = sym start_none
table_start (suc m) h =
    rule_at days_of first later table_rises m (omega (arith, later_length))
    ∙ ap (λ (s : ℕ). s + days_of m) (table_start m (omega arith))
    ∙ sym (start_suc m)

pub table_starts : Starts (first ∷ later)
table_starts = record { size = table_length; entry = table_start }

-- the last entry, and the day on which the year 2400 would start
pub last_start : start 4799 ≡ 146066
unfolding later
last_start = sym (table_start 4799 (omega arith))

pub year_2400_start : start 4800 ≡ 146097
unfolding month_lengths leap is_month days_in days_of pick
year_2400_start = start_suc 4799 ∙ ap (λ (s : ℕ). s + 31) last_start
