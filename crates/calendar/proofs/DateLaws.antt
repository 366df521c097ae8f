-- The laws of dates: what a date that exists tells, how a date and its month counted from January 2000 belong together, and that a day lies
-- in exactly one month.
-- Assumes nothing.
use Prim.Native.Nat.{ℕ, zero, suc, ◌+◌, ◌-◌, ◌≤◌, ◌<◌}
use native.Mathlib.Nat.{le_refl}
use native.Mathlib.Omega.{arith}
use mathlib.Core.Path.{◌≡◌, sym, ◌∙◌, ap, ap₂}
use mathlib.Core.Logic.{⊎_elim}
use mathlib.Core.Bool.{true, false, ◌&&◌}
use lib.Dec.{leb}
use borrow.Author.Tests.{le-leb, lt-leb, leb-true, leb-false}
use Rattle.loops.proofs.BoolLaws.{and_left, and_right, decided, eq_or_ne, pick_true, pick_false}
use Rattle.months.specs.Months.{days_in, days_of, year_of, month_of, start}
use Rattle.calendar.specs.Dates.{is_date, month_index, day_number, month_by, month_on}
use Rattle.months.proofs.MonthLaws.{days_month, month_least, month_most}
use Rattle.months.proofs.StartLaws.{start_none, start_suc, start_after, year_2400_start}

-- what is known of a date that exists
pub record Real (y m d : ℕ) : Type 0 where
  pub year_least : 2000 ≤ y
  pub year_most : y ≤ 2399
  pub day_least : 1 ≤ d
  pub day_most : d ≤ days_in y m
  pub month_least : 1 ≤ m
  pub month_most : m ≤ 12

pub date_real : (y m d : ℕ) → is_date y m d ≡ true → Real y m d
unfolding is_date
date_real y m d e =
    let e1 = and_right (leb 2000 y) (leb y 2399 && (leb 1 d && leb d (days_in y m))) e in
    let e2 = and_right (leb y 2399) (leb 1 d && leb d (days_in y m)) e1 in
    let least = leb-true 1 d (and_left (leb 1 d) (leb d (days_in y m)) e2) in
    let most = leb-true d (days_in y m) (and_right (leb 1 d) (leb d (days_in y m)) e2) in
    let month = days_month y m d least most in
    record {
      year_least = leb-true 2000 y (and_left (leb 2000 y) (leb y 2399 && (leb 1 d && leb d (days_in y m))) e);
      year_most = leb-true y 2399 (and_left (leb y 2399) (leb 1 d && leb d (days_in y m)) e1);
      day_least = least;
      day_most = most;
      month_least = month_least m month;
      month_most = month_most m month;
    }

-- the cases of the test
pub date_within : (y m d : ℕ) → 2000 ≤ y → y ≤ 2399 → 1 ≤ d → is_date y m d ≡ leb d (days_in y m)
unfolding is_date
date_within y m d h k l = rw (le-leb 2000 y h, le-leb y 2399 k, le-leb 1 d l)

-- a day of month m is a date
pub date_in_real : (m d : ℕ) → m < 4800 → 1 ≤ d → d ≤ days_of m → is_date (year_of m) (month_of m) d ≡ true
unfolding days_of
date_in_real m d h k l = date_within (year_of m) (month_of m) d (omega arith) (omega arith) k ∙ le-leb d _ l

-- a month of a year, and the month counted from January 2000
pub index_year : (y m : ℕ) → 2000 ≤ y → 1 ≤ m → m ≤ 12 → year_of (month_index y m) ≡ y
index_year y m h k l = omega arith

pub index_month : (y m : ℕ) → 2000 ≤ y → 1 ≤ m → m ≤ 12 → month_of (month_index y m) ≡ m
index_month y m h k l = omega arith

pub index_back : (m : ℕ) → month_index (year_of m) (month_of m) ≡ m
index_back m = omega arith

pub index_days : (y m : ℕ) → 2000 ≤ y → 1 ≤ m → m ≤ 12 → days_of (month_index y m) ≡ days_in y m
unfolding days_of
index_days y m h k l = ap₂ days_in (index_year y m h k l) (index_month y m h k l)

pub index_small : (y m : ℕ) → y ≤ 2399 → 1 ≤ m → m ≤ 12 → month_index y m < 4800
index_small y m h k l = omega arith

-- the day number of a day of month m
pub number_in : (m d : ℕ) → day_number (year_of m) (month_of m) d ≡ start m + (d - 1)
unfolding day_number
number_in m d = ap (λ (i : ℕ). start i + (d - 1)) (index_back m)

-- a month that is one of the 4,800 ends with the last day or before
pub end_small : (m : ℕ) → m < 4800 → start m + days_of m ≤ 146097
end_small m h = omega (arith, start_after m 4800 h, year_2400_start)

-- day k lies in month m
pub record Inside (m k : ℕ) : Type 0 where
  pub begun : start m ≤ k
  pub not_over : k < start m + days_of m

-- the month that starts last by day k is the one that it lies in
pub month_by_is : (n m k : ℕ) → m ≤ n → Inside m k → month_by n k ≡ m
unfolding month_by
month_by_is zero m k h w = omega arith
month_by_is (suc n) m k h w =
    ⊎_elim
    (λ (e : m ≡ suc n). pick_true _ _ (le-leb _ k (rw (← e) w.begun)) ∙ sym e)
    (λ (e : m ≡ suc n → ⊥).
    pick_false _ _ (lt-leb _ k (omega (arith, w.not_over, start_after m (suc n) (omega arith)))) ∙ month_by_is n m k (omega arith) w)
    (eq_or_ne m (suc n))

-- and there is one
pub month_by_inside : (n k : ℕ) → k < start (suc n) → Inside (month_by n k) k × (month_by n k ≤ n)
unfolding month_by
month_by_inside zero k h = (record { begun = omega (arith, start_none); not_over = omega (arith, start_none, start_suc 0) }, le_refl _)
month_by_inside (suc n) k h =
    ⊎_elim
    (λ (e : leb (start (suc n)) k ≡ true).
    rw (pick_true (suc n) (month_by n k) e) (record { begun = leb-true _ k e; not_over = omega (arith, start_suc (suc n)) }, le_refl _))
    (λ (e : leb (start (suc n)) k ≡ false).
    let w = month_by_inside n k (leb-false _ k e) in
    rw (pick_false (suc n) (month_by n k) e) (w.0, omega (arith, w.1)))
    (decided (leb (start (suc n)) k))

pub month_on_is : (m k : ℕ) → m < 4800 → Inside m k → month_on k ≡ m
unfolding month_on
month_on_is m k h w = month_by_is 4799 m k (omega arith) w

pub month_on_inside : (k : ℕ) → k ≤ 146096 → Inside (month_on k) k × (month_on k ≤ 4799)
unfolding month_on
month_on_inside k h = month_by_inside 4799 k (omega (arith, year_2400_start))
