-- BAD BOOK is the want of the parts that a request asks for. From a setup that was done, whatever calls follow, done or refused, none is answered with it.
-- Assumes nothing.
use Prim.Native.Nat.{ℕ}
use native.Mathlib.Omega.{arith}
use mathlib.Core.Path.{◌≡◌, ap}
use mathlib.Core.List.{List, [], ◌∷◌}
use mathlib.Core.Bool.{Bool, true, false, not}
use lib.ListN.{length}
use borrow.Author.Tests.{eq-eqb}
use Rattle.loops.specs.Loops.{pick}
use Rattle.loops.proofs.BoolLaws.{pick_true}
use Rattle.book.specs.declared.parts.Counts.{Counts}
use Rattle.book.specs.Layout.{book_words}
use Rattle.fit.specs.Fit.{fit}
use Rattle.fit.proofs.FitLaws.{fit_open}
use Rattle.named.proofs.NamedLaws.{fit_tick, fit_take, fit_refresh, fit_read, fit_write, fit_move, fit_list}
use Rattle.paper.specs.Calls.{first, read, write, tick, take, refresh, move, list}
use Rattle.register.specs.Table.{setup_number, read_number, write_number, tick_number, take_number, refresh_number, move_number, list_number}
use Rattle.register.specs.Calls.{set_up}
use Rattle.upkeep.specs.Requests.{Request, setup, call, number_at, book_after, last}
use Rattle.upkeep.specs.Own.{fit_for}
use Rattle.upkeep.proofs.FitSetup.{setup_fit}
use Rattle.upkeep.proofs.FitOwn.{fit_parts, parts_fit_law, no_spread, own_parts}

-- ---- fitness is kept

pub request_fit : (l : List ℕ) → fit l ≡ true → (r : Request) → fit (book_after l r) ≡ true
request_fit l F r = parts_fit_law (book_after l r) λ p. no_spread l r p (fit_parts l F p)

pub last_fit : (l : List ℕ) → fit l ≡ true → (rs : List Request) → fit (last l rs) ≡ true
unfolding last
last_fit l F [] = F
last_fit l F (r ∷ rs) = last_fit (book_after l r) (request_fit l F r) rs

-- ---- the number 1

-- the first check is passed, and no later one has the number 1
first_other : (t : Bool) (rest : List (Bool × ℕ)) → t ≡ false → (first rest ≡ 1 → ⊥) → first ((t, 1) ∷ rest) ≡ 1 → ⊥
unfolding first pick
first_other true rest e f h = mathlib.Core.Bool.true≢false e
first_other false rest e f h = f h

later_other : (t : Bool) (k : ℕ) (rest : List (Bool × ℕ)) → (k ≡ 1 → ⊥) → (first rest ≡ 1 → ⊥) → first ((t, k) ∷ rest) ≡ 1 → ⊥
unfolding first pick
later_other true k rest e f h = e h
later_other false k rest e f h = f h

none_other : first [] ≡ 1 → ⊥
unfolding first
none_other h = omega arith

-- a request whose parts are fit is not answered with BAD BOOK
pub fits_number : (l : List ℕ) (r : Request) → fit_for l r ≡ true → number_at l r ≡ 1 → ⊥
unfolding fit_for number_at setup_number read_number write_number tick_number take_number refresh_number move_number list_number
fits_number l (setup n homes) h = first_other _ _ (ap not h) (later_other _ 11 _ (omega arith) (later_other _ 2 _ (omega arith) none_other))
fits_number l (call (read c k)) h = first_other _ _ (ap not h) (later_other _ 5 _ (omega arith) (later_other _ 4 _ (omega arith) none_other))
fits_number l (call (write c k payload)) h =
    first_other _ _ (ap not h)
    (later_other _ 5 _ (omega arith)
    (later_other _ 4 _ (omega arith)
    (later_other _ 16 _ (omega arith)
    (later_other _ 14 _ (omega arith) (later_other _ 8 _ (omega arith) (later_other _ 10 _ (omega arith) (later_other _ 9 _ (omega arith) none_other)))))))
fits_number l (call (tick d s)) h =
    first_other _ _ (ap not h)
    (later_other _ 2 _ (omega arith) (later_other _ 3 _ (omega arith) (later_other _ 10 _ (omega arith) (later_other _ 9 _ (omega arith) none_other))))
fits_number l (call (take d s from)) h =
    first_other _ _ (ap not h)
    (later_other _ 2 _ (omega arith) (later_other _ 3 _ (omega arith) (later_other _ 6 _ (omega arith) (later_other _ 7 _ (omega arith) none_other))))
fits_number l (call (refresh d s)) h = first_other _ _ (ap not h) (later_other _ 2 _ (omega arith) (later_other _ 3 _ (omega arith) none_other))
fits_number l (call (move c d)) h =
    first_other _ _ (ap not h) (later_other _ 5 _ (omega arith) (later_other _ 2 _ (omega arith) (later_other _ 12 _ (omega arith) none_other)))
fits_number l (call (list c ks)) h =
    first_other _ _ (ap not h) (later_other _ 5 _ (omega arith) (later_other _ 15 _ (omega arith) (later_other _ 4 _ (omega arith) none_other)))

-- and one that wants a part is
pub unfit_number : (l : List ℕ) (r : Request) → fit_for l r ≡ false → number_at l r ≡ 1
unfolding fit_for number_at setup_number read_number write_number tick_number take_number refresh_number move_number list_number first
unfit_number l (setup n homes) h = pick_true _ _ (ap not h)
unfit_number l (call (read c k)) h = pick_true _ _ (ap not h)
unfit_number l (call (write c k payload)) h = pick_true _ _ (ap not h)
unfit_number l (call (tick d s)) h = pick_true _ _ (ap not h)
unfit_number l (call (take d s from)) h = pick_true _ _ (ap not h)
unfit_number l (call (refresh d s)) h = pick_true _ _ (ap not h)
unfit_number l (call (move c d)) h = pick_true _ _ (ap not h)
unfit_number l (call (list c ks)) h = pick_true _ _ (ap not h)

-- so a request that was done may be asked again: its parts are fit
pub own_again : (l : List ℕ) (r : Request) → number_at l r ≡ 0 → number_at (book_after l r) r ≡ 1 → ⊥
own_again l r h = fits_number (book_after l r) r (own_parts l r h)

-- a fit book has the parts of every request
pub fit_for_law : (l : List ℕ) → fit l ≡ true → (r : Request) → fit_for l r ≡ true
unfolding fit_for
fit_for_law l h (setup n homes) = eq-eqb (length l) book_words (fit_open l h).full
fit_for_law l h (call (read c k)) = fit_read l h c k
fit_for_law l h (call (write c k payload)) = fit_write l h c k
fit_for_law l h (call (tick d s)) = fit_tick l h d s
fit_for_law l h (call (take d s from)) = fit_take l h d s from
fit_for_law l h (call (refresh d s)) = fit_refresh l h d s
fit_for_law l h (call (move c d)) = fit_move l h c d
fit_for_law l h (call (list c ks)) = fit_list l h c ks

pub fit_number : (l : List ℕ) → fit l ≡ true → (r : Request) → number_at l r ≡ 1 → ⊥
fit_number l h r = fits_number l r (fit_for_law l h r)

-- after a setup that was done and any requests, done or refused, later setups among them, none is answered with BAD BOOK
pub never_bad_book :
    (l : List ℕ) (n : Counts) (homes : List ℕ) → setup_number l n homes ≡ 0 → (rs : List Request) (r : Request) → number_at (last (set_up n homes) rs) r ≡ 1 → ⊥
never_bad_book l n homes h rs r = fit_number _ (last_fit (set_up n homes) (setup_fit l n homes h) rs) r

-- the same of any fit book
pub never_bad_fit : (l : List ℕ) → fit l ≡ true → (rs : List Request) (r : Request) → number_at (last l rs) r ≡ 1 → ⊥
never_bad_fit l F rs r = fit_number _ (last_fit l F rs) r
