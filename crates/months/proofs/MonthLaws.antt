-- The laws of a month's days: the cases of the leap rule and of the list, and that every month has 28 to 31 days.
-- Assumes nothing.
use Prim.Native.Nat.{ℕ, ◌-◌, ◌%◌, ◌≤◌, ◌<◌}
use native.Mathlib.Omega.{arith}
use mathlib.Core.Path.{◌≡◌, refl}
use mathlib.Core.Logic.{⊎_elim}
use mathlib.Core.Bool.{true, false, ◌&&◌, and-false}
use lib.Dec.{leb, eqb}
use lib.ListN.{get_or}
use borrow.Author.Tests.{le-leb, lt-leb, eq-eqb, ne_eqb, leb-true, eqb-true}
use Rattle.loops.specs.Loops.{pick, every}
use Rattle.loops.proofs.BoolLaws.{decided, and_left, and_right, and_intro, and_stop, pick_false}
use Rattle.loops.proofs.LoopLaws.{every_at}
use Rattle.months.specs.Months.{month_lengths, leap, is_month, days_in, days_of, year_of, month_of}

-- the three cases of the leap rule
pub leap_fourth : (y : ℕ) → (y % 4 ≡ 0 → ⊥) → leap y ≡ false
unfolding leap
leap_fourth y h = rw (ne_eqb (y % 4) 0 h)

pub leap_hundred : (y : ℕ) → y % 4 ≡ 0 → (y % 100 ≡ 0 → ⊥) → leap y ≡ true
unfolding leap
leap_hundred y h k = rw (eq-eqb (y % 4) 0 h, ne_eqb (y % 100) 0 k)

pub leap_four_hundred : (y : ℕ) → y % 4 ≡ 0 → y % 100 ≡ 0 → leap y ≡ eqb (y % 400) 0
unfolding leap
leap_four_hundred y h k = rw (eq-eqb (y % 4) 0 h, eq-eqb (y % 100) 0 k)

-- which numbers are months
pub month_low : (m : ℕ) → m < 1 → is_month m ≡ false
unfolding is_month
month_low m h = and_stop _ (lt-leb 1 m h)

pub month_high : (m : ℕ) → 12 < m → is_month m ≡ false
unfolding is_month
month_high m h = rw (lt-leb m 12 h) (and-false (leb 1 m))

pub month_good : (m : ℕ) → 1 ≤ m → m ≤ 12 → is_month m ≡ true
unfolding is_month
month_good m h k = and_intro (le-leb 1 m h) (le-leb m 12 k)

-- the cases of a month's days
pub days_none : (y m : ℕ) → is_month m ≡ false → days_in y m ≡ 0
unfolding days_in
days_none y m e = pick_false _ _ e

pub days_leap : (y m : ℕ) → 1 ≤ m → m ≤ 12 → m ≡ 2 → leap y ≡ true → days_in y m ≡ 29
unfolding days_in pick
days_leap y m h k e l = rw (month_good m h k, eq-eqb m 2 e, l)

pub days_listed : (y m : ℕ) → 1 ≤ m → m ≤ 12 → eqb m 2 && leap y ≡ false → days_in y m ≡ get_or month_lengths (m - 1) 0
unfolding days_in pick
days_listed y m h k e = rw (month_good m h k, e)

-- every entry of the list, tested once
listed : (k : ℕ) → k < 12 → (28 ≤ get_or month_lengths k 0) × (get_or month_lengths k 0 ≤ 31)
unfolding month_lengths every
listed k h =
    let e = every_at 12 (λ i. leb 28 (get_or month_lengths i 0) && leb (get_or month_lengths i 0) 31) refl k h in
    (leb-true _ _ (and_left (leb 28 (get_or month_lengths k 0)) _ e), leb-true _ _ (and_right (leb 28 (get_or month_lengths k 0)) _ e))

-- every month has 28 to 31 days
pub days_bounds : (y m : ℕ) → 1 ≤ m → m ≤ 12 → (28 ≤ days_in y m) × (days_in y m ≤ 31)
days_bounds y m h k =
    ⊎_elim
    (λ (e : eqb m 2 && leap y ≡ true). rw (days_leap y m h k (eqb-true m 2 (and_left _ _ e)) (and_right (eqb m 2) _ e)) (omega arith, omega arith))
    (λ (e : eqb m 2 && leap y ≡ false). rw (days_listed y m h k e) (listed (m - 1) (omega arith)))
    (decided (eqb m 2 && leap y))

-- what has a day is a month
pub days_month : (y m d : ℕ) → 1 ≤ d → d ≤ days_in y m → is_month m ≡ true
days_month y m d h k =
    ⊎_elim
    (λ (e : is_month m ≡ true). e)
    (λ (e : is_month m ≡ false). absurd (omega (arith, days_none y m e)))
    (decided (is_month m))

pub month_least : (m : ℕ) → is_month m ≡ true → 1 ≤ m
unfolding is_month
month_least m e = leb-true 1 m (and_left _ _ e)

pub month_most : (m : ℕ) → is_month m ≡ true → m ≤ 12
unfolding is_month
month_most m e = leb-true m 12 (and_right (leb 1 m) _ e)

-- the same of the months as they are counted from January 2000
pub days_of_bounds : (m : ℕ) → (28 ≤ days_of m) × (days_of m ≤ 31)
unfolding days_of
days_of_bounds m = days_bounds (year_of m) (month_of m) (omega arith) (omega arith)
