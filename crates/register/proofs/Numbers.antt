-- A number of 0 says that every check was passed: what each call then knows.
-- Assumes nothing.
use Prim.Native.Nat.{ℕ, ◌≤◌, ◌<◌}
use native.Mathlib.Omega.{arith}
use mathlib.Core.Path.{◌≡◌, refl}
use mathlib.Core.List.{List, ◌∷◌}
use mathlib.Core.Bool.{Bool, true, false, not, ◌||◌}
use lib.Dec.{eqb, ltb, leb}
use lib.ListN.{length, get_or}
use borrow.Author.Tests.{leb-true, leb-false, ltb-false, ltb-true, eqb-true, eqb-false, not-false}
use Rattle.loops.specs.Loops.{pick, every}
use Rattle.loops.proofs.BoolLaws.{both_ways}
use Rattle.loops.proofs.LoopLaws.{every_at}
use Rattle.book.specs.declared.parts.Counts.{Counts}
use Rattle.book.specs.Layout.{end, book_words, counts_of, home, crew_vector, clock, link_of, held, taken}
use Rattle.fit.specs.Fit.{counts_fit}
use Rattle.named.specs.Named.{base_fit, tick_fit, take_fit, refresh_fit, read_fit, write_fit}
use Rattle.links.specs.Send.{roomy}
use Rattle.card.specs.Card.{card_fit}
use Rattle.paper.specs.declared.answer.Payload.{Payload}
use Rattle.paper.specs.Calls.{last_day, first}
use Rattle.register.specs.Table.{shelf_of, setup_number, read_number, write_number, tick_number, take_number, refresh_number}
use Rattle.register.specs.Checks.{place_number, asked_number}

-- the first check was passed, and so were the rest
pub first_passed : (t : Bool) (k : ℕ) (rest : List (Bool × ℕ)) → (k ≡ 0 → ⊥) → first ((t, k) ∷ rest) ≡ 0 → (t ≡ false) × (first rest ≡ 0)
unfolding first pick
first_passed true k rest f h = absurd (f h)
first_passed false k rest f h = (refl, h)

-- two checks under one number
pub or_none : (a b : Bool) → a || b ≡ false → (a ≡ false) × (b ≡ false)
or_none true b h = absurd (both_ways refl h)
or_none false b h = (refl, h)

-- the shared checks were passed
pub place_done : (l : List ℕ) (d s : ℕ) → place_number l d s ≡ 0 → (base_fit l ≡ true) × (d < (counts_of l).depots) × (s < (counts_of l).shelves)
unfolding place_number
place_done l d s h =
    let a = first_passed (not (base_fit l)) 1 _ (omega arith) h in
    let b = first_passed (leb (counts_of l).depots d) 2 _ (omega arith) a.1 in
    let c = first_passed (leb (counts_of l).shelves s) 3 _ (omega arith) b.1 in
    (not-false _ a.0, leb-false _ _ b.0, leb-false _ _ c.0)

pub asked_done : (l : List ℕ) (c k : ℕ) → asked_number l c k ≡ 0 → (base_fit l ≡ true) × (c < (counts_of l).crews) × (k < (counts_of l).bearings)
unfolding asked_number
asked_done l c k h =
    let a = first_passed (not (base_fit l)) 1 _ (omega arith) h in
    let b = first_passed (leb (counts_of l).crews c) 5 _ (omega arith) a.1 in
    let e = first_passed (leb (counts_of l).bearings k) 4 _ (omega arith) b.1 in
    (not-false _ a.0, leb-false _ _ b.0, leb-false _ _ e.0)

pub record TickDone (l : List ℕ) (d s : ℕ) : Type 0 where
  pub fits : tick_fit l d s ≡ true
  pub depot : d < (counts_of l).depots
  pub shelf : s < (counts_of l).shelves
  pub clocked : clock l d s < end
  pub room : roomy (counts_of l).depots d s l ≡ true

pub tick_done : (l : List ℕ) (d s : ℕ) → tick_number l d s ≡ 0 → TickDone l d s
unfolding tick_number
tick_done l d s h =
    let a = first_passed (not (tick_fit l d s)) 1 _ (omega arith) h in
    let b = first_passed (leb (counts_of l).depots d) 2 _ (omega arith) a.1 in
    let c = first_passed (leb (counts_of l).shelves s) 3 _ (omega arith) b.1 in
    let e = first_passed (leb end (clock l d s)) 10 _ (omega arith) c.1 in
    let f = first_passed (not (roomy (counts_of l).depots d s l)) 9 _ (omega arith) e.1 in
    record { fits = not-false _ a.0; depot = leb-false _ _ b.0; shelf = leb-false _ _ c.0; clocked = leb-false _ _ e.0; room = not-false _ f.0 }

pub record TakeDone (l : List ℕ) (d s from : ℕ) : Type 0 where
  pub fits : take_fit l d s from ≡ true
  pub depot : d < (counts_of l).depots
  pub sender : from < (counts_of l).depots
  pub shelf : s < (counts_of l).shelves
  pub apart : d ≡ from → ⊥
  pub more : taken l (link_of s from d) < held l (link_of s from d)

pub take_done : (l : List ℕ) (d s from : ℕ) → take_number l d s from ≡ 0 → TakeDone l d s from
unfolding take_number
take_done l d s from h =
    let a = first_passed (not (take_fit l d s from)) 1 _ (omega arith) h in
    let b = first_passed (leb (counts_of l).depots d || leb (counts_of l).depots from) 2 _ (omega arith) a.1 in
    let c = first_passed (leb (counts_of l).shelves s) 3 _ (omega arith) b.1 in
    let e = first_passed (eqb d from) 6 _ (omega arith) c.1 in
    let f = first_passed (leb (held l (link_of s from d)) (taken l (link_of s from d))) 7 _ (omega arith) e.1 in
    let g = or_none (leb (counts_of l).depots d) _ b.0 in
    record {
      fits = not-false _ a.0;
      depot = leb-false _ _ g.0;
      sender = leb-false _ _ g.1;
      shelf = leb-false _ _ c.0;
      apart = eqb-false _ _ e.0;
      more = leb-false _ _ f.0;
    }

pub record RefreshDone (l : List ℕ) (d s : ℕ) : Type 0 where
  pub fits : refresh_fit l d s ≡ true
  pub depot : d < (counts_of l).depots
  pub shelf : s < (counts_of l).shelves

pub refresh_done : (l : List ℕ) (d s : ℕ) → refresh_number l d s ≡ 0 → RefreshDone l d s
unfolding refresh_number
refresh_done l d s h =
    let a = first_passed (not (refresh_fit l d s)) 1 _ (omega arith) h in
    let b = first_passed (leb (counts_of l).depots d) 2 _ (omega arith) a.1 in
    let c = first_passed (leb (counts_of l).shelves s) 3 _ (omega arith) b.1 in
    record { fits = not-false _ a.0; depot = leb-false _ _ b.0; shelf = leb-false _ _ c.0 }

pub record ReadDone (l : List ℕ) (c k : ℕ) : Type 0 where
  pub fits : read_fit l c k ≡ true
  pub crew : c < (counts_of l).crews
  pub bearing : k < (counts_of l).bearings

pub read_done : (l : List ℕ) (c k : ℕ) → read_number l c k ≡ 0 → ReadDone l c k
unfolding read_number
read_done l c k h =
    let a = first_passed (not (read_fit l c k)) 1 _ (omega arith) h in
    let b = first_passed (leb (counts_of l).crews c) 5 _ (omega arith) a.1 in
    let e = first_passed (leb (counts_of l).bearings k) 4 _ (omega arith) b.1 in
    record { fits = not-false _ a.0; crew = leb-false _ _ b.0; bearing = leb-false _ _ e.0 }

-- a value that is not past a day is not past the last
not_past : (day value : ℕ) → ltb day value ≡ false → leb day last_day ≡ true → value ≤ last_day
not_past day value h k = let a = ltb-false day value h in let b = leb-true day last_day k in omega (arith, a, b)

pub record WriteDone (l : List ℕ) (c k : ℕ) (payload : Payload) : Type 0 where
  pub fits : write_fit l c k ≡ true
  pub crew : c < (counts_of l).crews
  pub bearing : k < (counts_of l).bearings
  pub dated : payload.value ≤ last_day
  pub carded : card_fit payload.diameter payload.width ≡ true
  pub waited : crew_vector l c (home l c) ≤ clock l (home l c) (shelf_of l k)
  pub clocked : clock l (home l c) (shelf_of l k) < end
  pub room : roomy (counts_of l).depots (home l c) (shelf_of l k) l ≡ true

pub write_done : (l : List ℕ) (c k : ℕ) (payload : Payload) → write_number l c k payload ≡ 0 → WriteDone l c k payload
unfolding write_number
write_done l c k payload h =
    let a = first_passed (not (write_fit l c k)) 1 _ (omega arith) h in
    let b = first_passed (leb (counts_of l).crews c) 5 _ (omega arith) a.1 in
    let e = first_passed (leb (counts_of l).bearings k) 4 _ (omega arith) b.1 in
    let y = first_passed _ 16 _ (omega arith) e.1 in
    let z = first_passed _ 14 _ (omega arith) y.1 in
    let f = first_passed (ltb (clock l (home l c) (shelf_of l k)) (crew_vector l c (home l c))) 8 _ (omega arith) z.1 in
    let g = first_passed (leb end (clock l (home l c) (shelf_of l k))) 10 _ (omega arith) f.1 in
    let i = first_passed (not (roomy (counts_of l).depots (home l c) (shelf_of l k) l)) 9 _ (omega arith) g.1 in
    record {
      fits = not-false _ a.0;
      crew = leb-false _ _ b.0;
      bearing = leb-false _ _ e.0;
      dated = not_past _ _ y.0 refl;
      carded = not-false _ z.0;
      waited = ltb-false _ _ f.0;
      clocked = leb-false _ _ g.0;
      room = not-false _ i.0;
    }

pub record SetupDone (l : List ℕ) (n : Counts) (homes : List ℕ) : Type 0 where
  pub full : length l ≡ book_words
  pub counts : counts_fit n ≡ true
  pub crews : length homes ≡ n.crews
  pub homed : (c : ℕ) → c < n.crews → get_or homes c 0 < n.depots

pub setup_done : (l : List ℕ) (n : Counts) (homes : List ℕ) → setup_number l n homes ≡ 0 → SetupDone l n homes
unfolding setup_number
setup_done l n homes h =
    let a = first_passed (not (eqb (length l) book_words)) 1 _ (omega arith) h in
    let b = first_passed (not (counts_fit n) || not (eqb (length homes) n.crews)) 11 _ (omega arith) a.1 in
    let c = first_passed (not (every n.crews (λ c. ltb (get_or homes c 0) n.depots))) 2 _ (omega arith) b.1 in
    let g = or_none (not (counts_fit n)) _ b.0 in
    record {
      full = eqb-true _ _ (not-false _ a.0);
      counts = not-false _ g.0;
      crews = eqb-true _ _ (not-false _ g.1);
      homed = λ x k. ltb-true _ _ (every_at n.crews _ (not-false _ c.0) x k);
    }
