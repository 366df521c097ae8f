-- What a call leaves of each part by itself, and of the counts. A move leaves every word but one home, which becomes a depot's; so it leaves every part fit
-- that was, and its own among them.
-- Assumes nothing.
use Prim.Native.Nat.{ℕ, ◌+◌, ◌<◌}
use native.Mathlib.Omega.{arith}
use mathlib.Core.Path.{◌≡◌, sym, ◌∙◌, ap, subst}
use mathlib.Core.Logic.{⊎_elim}
use mathlib.Core.List.{List}
use mathlib.Core.Bool.{true, ◌&&◌}
use lib.Dec.{leb, ltb, eqb}
use lib.ListN.{length, get_or, set, length-set}
use lib.Seq.{get_or-set_same, get_or-set_other}
use borrow.Author.Tests.{leb-true, le-leb, lt-ltb}
use Rattle.loops.specs.Loops.{every}
use Rattle.loops.proofs.BoolLaws.{eq_or_ne, and_left, and_right, and_intro, or_right}
use Rattle.loops.proofs.LoopLaws.{every_at, every_intro}
use Rattle.order.proofs.VectorLaws.{covered_at_law, covered_intro}
use Rattle.book.specs.declared.parts.Counts.{Counts}
use Rattle.book.specs.Layout.{book_words, counts_of, home_at, link_of, stored_at}
use Rattle.book.proofs.WordsLaws.{part_same}
use Rattle.fit.specs.Fit.{counts_fit, home_fit, in_range, others_in_range, crew_fit, clock_fit, seen_fit, stored_fit, homes_fit, Within}
use Rattle.named.specs.Named.{move_parts, base_fit, move_fit}
use Rattle.named.proofs.NamedLaws.{Based, base_open, move_based, move_named}
use Rattle.register.specs.Table.{move_number}
use Rattle.register.specs.Calls.{move_book}
use Rattle.register.proofs.FitParts.{link_open, link_close}
use Rattle.register.proofs.MoveTable.{MoveDone, move_done}
use Rattle.upkeep.specs.Own.{Part, the_length, the_counts, a_home, a_crew, a_clock, a_stable, a_stamp, a_head, a_waiting, a_link, a_stored, Named, fit_part}
use Rattle.upkeep.proofs.FitFrame.{LinkKept, Keeps, Same, counts_same, crews_same, clock_same, stable_same, stamp_same, link_stays, waiting_kept, link_kept, stored_same}
use Rattle.upkeep.proofs.FitKept.{crew_open, waiting_open}
use Rattle.upkeep.proofs.FitOwnParts.{stable_open, stable_close, head_open, head_close, waiting_close, keeps_part}

-- the counts stay, and a part that they name and that is fit stays fit
pub record Leaves (n : Counts) (l m : List ℕ) : Type 0 where
  pub counts : (j : ℕ) → j < 4 → get_or m j 0 ≡ get_or l j 0
  pub part : (p : Part) → Named n p → fit_part n l p ≡ true → fit_part n m p ≡ true

pub keeps_leaves : (n : Counts) (l m : List ℕ) → Within n → Keeps n l m → Leaves n l m
keeps_leaves n l m W K = record { counts = λ j k. K.low j (omega arith); part = keeps_part n l m W K }

-- ---- one home

module _ (n : Counts) (l : List ℕ) (W : Within n) (full : length l ≡ book_words) (c d : ℕ) (hc : c < n.crews) (hd : d < n.depots) where
  after : List ℕ
  after = set l (home_at c) d

  size : length after ≡ length l
  unfolding after
  size = length-set l (home_at c) d

  past : Same l after 20 book_words
  unfolding after
  past j a b = let e = W.crews in get_or-set_other l (home_at c) j d 0 (omega arith)

  home_in : (b : ℕ) → home_fit n l b ≡ true → home_fit n after b ≡ true
  unfolding after home_fit
  home_in b h = ⊎_elim
      (λ (e : b ≡ c).
      let a = W.crews in
      subst (λ (x : ℕ). ltb (get_or (set l (home_at c) d) (home_at x) 0) n.depots ≡ true) (sym e)
      (ap (λ (x : ℕ). ltb x n.depots) (get_or-set_same l (home_at c) d 0 (rw full (omega arith))) ∙ lt-ltb _ _ hd))
      (λ (e : b ≡ c → ⊥). ap (λ (x : ℕ). ltb x n.depots) (get_or-set_other l (home_at c) (home_at b) d 0 (omega arith)) ∙ h)
      (eq_or_ne b c)

  link : (s from to : ℕ) → s < n.shelves → from < n.depots → to < n.depots → LinkKept n l after s from (link_of s from to)
  link s from to x y z =
      let a = W.depots in
      let b = W.shelves in
      link_stays n l after s from (link_of s from to) size (λ j u v. past j (omega arith) (omega arith)) (λ j u v. past j (omega arith) (omega arith))

  set_part : (p : Part) → Named n p → fit_part n l p ≡ true → fit_part n after p ≡ true
  unfolding fit_part crew_fit in_range clock_fit stored_fit
  set_part the_length k h = ap (λ (x : ℕ). eqb x book_words) size ∙ h
  set_part the_counts k h = h
  set_part (a_home b) k h = home_in b h
  set_part (a_crew b) k h = every_intro n.depots _ λ x z. le-leb _ _ (crews_same n l after W (λ j u v. past j u (omega arith)) b k (crew_open n l b h) x z)
  set_part (a_clock e s) k h = le-leb _ _ (clock_same n l after W e s k.0 k.1 (λ j u v. past j (omega arith) (omega arith)) (leb-true _ _ h))
  set_part (a_stable e s) k h =
      let a = W.depots in
      let b = W.shelves in
      let x = k.0 in
      let y = k.1 in
      stable_close n after e s (stable_same n l after W e s x y (λ j u v. past j (omega arith) (omega arith)) (stable_open n l e s h))
  set_part (a_stamp e s from) k h = le-leb _ _ (stamp_same n l after W e s k.0 k.1 (λ j u v. past j (omega arith) (omega arith)) from k.2 (leb-true _ _ h))
  set_part (a_head s from to) k h = head_close after _ ((link s from to k.0 k.1 k.2).head (head_open l _ h))
  set_part (a_waiting s from to) k h =
      waiting_close n after s from _ (waiting_kept n l after s from _ (link s from to k.0 k.1 k.2) (waiting_open n l s from _ h))
  set_part (a_link s from to) k h = link_close n after s from _ (link_kept n l after s from _ (link s from to k.0 k.1 k.2) (link_open n l s from _ h))
  set_part (a_stored e b) k h =
      let a = W.depots in
      let x = W.bearings in
      let y = k.0 in
      let z = k.1 in
      stored_same n l after e b (part_same after l (stored_at e b) 9 size λ i v. past (stored_at e b + i) (omega arith) (omega arith)) h

  pub set_leaves : Leaves n l (set l (home_at c) d)
  unfolding after
  set_leaves = record { counts = λ j k. get_or-set_other l (home_at c) j d 0 (omega arith); part = set_part }

-- ---- a move

move_asked : (l : List ℕ) (c d : ℕ) → MoveDone l c d → Based l × (move_parts (counts_of l) l c d ≡ true)
move_asked l c d t = let b = move_based l c d t.fits in (base_open l b, sym (move_named l c d b t.crew t.depot) ∙ t.fits)

pub move_leaves : (l : List ℕ) (c d : ℕ) → move_number l c d ≡ 0 → Leaves (counts_of l) l (move_book l c d)
unfolding move_book
move_leaves l c d h =
    let t = move_done l c d h in
    let B = (move_asked l c d t).0 in
    set_leaves (counts_of l) l B.within B.full c d t.crew t.depot

-- the length, the counts and the homes, and the parts of the move
base_left : (l m : List ℕ) → Leaves (counts_of l) l m → base_fit l ≡ true → base_fit m ≡ true
unfolding base_fit homes_fit fit_part
base_left l m L h =
    let rest = and_right (eqb (length l) book_words) _ h in
    subst (λ (n : Counts). eqb (length m) book_words && (counts_fit n && every n.crews (home_fit n m)) ≡ true) (sym (counts_same l m L.counts))
    (and_intro (L.part the_length tt (and_left (eqb (length l) book_words) _ h))
    (and_intro (and_left (counts_fit (counts_of l)) _ rest)
    (every_intro (counts_of l).crews _ λ c k. L.part (a_home c) k (every_at (counts_of l).crews _ (and_right (counts_fit (counts_of l)) _ rest) c k))))

pub move_own : (l : List ℕ) (c d : ℕ) → move_number l c d ≡ 0 → move_fit (move_book l c d) c d ≡ true
unfolding move_fit move_parts seen_fit others_in_range fit_part
move_own l c d h =
    let t = move_done l c d h in
    let L = move_leaves l c d h in
    let P = (move_asked l c d t).1 in
    let n = counts_of l in
    let m = move_book l c d in
    and_intro (base_left l m L (move_based l c d t.fits))
    (or_right (leb (counts_of m).crews c) _ (or_right (leb (counts_of m).depots d) _
    (subst (λ (k : Counts). move_parts k m c d ≡ true) (sym (counts_same l m L.counts))
    (and_intro (L.part (a_crew c) t.crew (and_left (crew_fit n l c) _ P))
    (every_intro n.shelves _ λ s k. covered_intro n.depots d _ _ λ x z f.
    leb-true _ _ (L.part (a_stamp d s x) (t.depot, k, z, f) (le-leb _ _ (covered_at_law n.depots d _ _ (every_at n.shelves _ (and_right (crew_fit n l c) _ P) s k) x z f))))))))
