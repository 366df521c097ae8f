-- Unfitness never spreads: a part that is fit stays fit, whatever is asked, done or refused, and whatever the other parts hold. And a request that is
-- done leaves the parts that it asks for fit.
-- Assumes nothing.
use Prim.Native.Nat.{ℕ}
use native.Mathlib.Omega.{arith}
use mathlib.Core.Path.{◌≡◌, refl, sym, subst}
use mathlib.Core.List.{List, [], ◌∷◌}
use mathlib.Core.Bool.{Bool, true, not, ◌&&◌, ◌||◌}
use lib.Dec.{leb, eqb}
use borrow.Author.Tests.{leb-true, leb-false, le-leb, ltb-true, lt-ltb, eqb-true, eqb-false, eq-eqb}
use Rattle.loops.proofs.BoolLaws.{and_left, and_right, and_intro, pick_true}
use Rattle.loops.proofs.LoopLaws.{every_intro}
use Rattle.paper.specs.declared.answer.Payload.{Payload}
use Rattle.paper.specs.Calls.{Call, read, write, tick, take, refresh, move, list}
use Rattle.book.specs.declared.parts.Counts.{Counts}
use Rattle.book.specs.Layout.{counts_of}
use Rattle.fit.specs.Fit.{home_fit, in_range, crew_fit, clock_fit, stored_fit, Within, fit}
use Rattle.named.specs.Named.{tick_parts, take_parts, refresh_parts, read_parts, write_parts, list_parts, is_list, all_below, base_fit, tick_fit, take_fit, refresh_fit, read_fit, write_fit, list_fit}
use Rattle.fit.proofs.FitLaws.{counts_within}
use Rattle.named.proofs.NamedLaws.{base_open}
use Rattle.shelf.proofs.FrameLaws.{pick_cases}
use Rattle.register.specs.Table.{read_number, write_number, tick_number, take_number, refresh_number, list_number}
use Rattle.register.specs.Calls.{set_up, read_book, write_book, tick_book, take_book, refresh_book, list_book}
use Rattle.register.specs.Promises.{after}
use Rattle.register.proofs.FitParts.{whole_open, whole_close, link_open, link_close}
use Rattle.register.proofs.Numbers.{tick_done, take_done, refresh_done, read_done, write_done}
use Rattle.register.proofs.ListTable.{list_done}
use Rattle.upkeep.specs.Requests.{Request, setup, call, number_at, changed_by, book_after, last}
use Rattle.upkeep.specs.Own.{Part, the_length, the_counts, a_home, a_crew, a_clock, a_stable, a_stamp, a_head, a_waiting, a_link, a_stored, Named, fit_part, Fits, fit_for}
use Rattle.upkeep.proofs.FitFrame.{Keeps, counts_same}
use Rattle.upkeep.proofs.FitMove.{Leaves, keeps_leaves, move_leaves, move_own}
use Rattle.upkeep.proofs.FitKept.{crew_open, tick_asked, take_asked, refresh_asked, read_asked, write_asked}
use Rattle.upkeep.proofs.FitKept.{tick_keeps, take_keeps, refresh_settles, read_settles}
use Rattle.upkeep.proofs.FitWrite.{write_settles}
use Rattle.upkeep.proofs.FitList.{list_asked, list_settles, list_kept}
use Rattle.upkeep.proofs.FitSetup.{length_set_up, setup_fit}
use Rattle.upkeep.proofs.FitOwnParts.{or_on, stable_open, stable_close, head_close, waiting_close}
use Rattle.upkeep.proofs.FitOwnParts.{base_kept, tick_kept, take_kept, refresh_kept, read_kept, write_kept}

-- ---- a book is fit exactly if each of its parts is

pub fit_parts : (l : List ℕ) → fit l ≡ true → (p : Part) → Fits l p
unfolding fit_part home_fit crew_fit in_range clock_fit stored_fit
fit_parts l F the_length k = eq-eqb _ _ (whole_open l F).full
fit_parts l F the_counts k = (whole_open l F).counts
fit_parts l F (a_home c) k = lt-ltb _ _ ((whole_open l F).parts.homes c k)
fit_parts l F (a_crew c) k = every_intro _ _ λ x z. le-leb _ _ ((whole_open l F).parts.crews c k x z)
fit_parts l F (a_clock d s) k = le-leb _ _ ((whole_open l F).parts.shelves d s k.0 k.1).clocked
fit_parts l F (a_stable d s) k = let h = (whole_open l F).parts.shelves d s k.0 k.1 in stable_close _ l d s (record { own = h.own; others = h.stables })
fit_parts l F (a_stamp d s from) k = le-leb _ _ (((whole_open l F).parts.shelves d s k.0 k.1).seens from k.2 k.3)
fit_parts l F (a_head s from to) k =
    let h = (whole_open l F).parts.links s from to k.0 k.1 k.2 k.3 in head_close l _ (record { room = h.room; first = h.first })
fit_parts l F (a_waiting s from to) k =
    let h = (whole_open l F).parts.links s from to k.0 k.1 k.2 k.3 in
    waiting_close _ l s from _ (record { room = h.room; first = h.first; messages = h.messages })
fit_parts l F (a_link s from to) k = link_close _ l s from _ ((whole_open l F).parts.links s from to k.0 k.1 k.2 k.3)
fit_parts l F (a_stored d b) k = (whole_open l F).parts.stores d b k.0 k.1

pub parts_fit_law : (l : List ℕ) → ((p : Part) → Fits l p) → fit l ≡ true
unfolding fit_part home_fit clock_fit stored_fit
parts_fit_law l h =
    whole_close (counts_of l) l
    (record {
      full = eqb-true _ _ (h the_length tt);
      same = refl;
      counts = h the_counts tt;
      within = counts_within (counts_of l) (h the_counts tt);
      parts =
          record {
            homes = λ c k. ltb-true _ _ (h (a_home c) k);
            crews = λ c k. crew_open (counts_of l) l c (h (a_crew c) k);
            shelves = λ d s a b.
                let stable = stable_open (counts_of l) l d s (h (a_stable d s) (a, b)) in
                record {
                  clocked = leb-true _ _ (h (a_clock d s) (a, b));
                  own = stable.own;
                  stables = stable.others;
                  seens = λ x k f. leb-true _ _ (h (a_stamp d s x) (a, b, k, f));
                };
            links = λ s from to a b c f. link_open (counts_of l) l s from _ (h (a_link s from to) (a, b, c, f));
            stores = λ d k a b. h (a_stored d k) (a, b);
          };
    })

-- ---- unfitness never spreads

-- a call that is done keeps every part
call_keeps : (l : List ℕ) (q : Call) → number_at l (call q) ≡ 0 → Leaves (counts_of l) l (changed_by l (call q))
unfolding number_at changed_by
call_keeps l (read c k) h = keeps_leaves (counts_of l) l _ (read_asked l c k (read_done l c k h)).0.within (read_settles l c k h).keeps
call_keeps l (write c k payload) h = keeps_leaves (counts_of l) l _ (write_asked l c k (write_done l c k payload h)).0.within (write_settles l c k payload h).keeps
call_keeps l (tick d s) h = keeps_leaves (counts_of l) l _ (tick_asked l d s (tick_done l d s h)).0.within (tick_keeps l d s h)
call_keeps l (take d s from) h = keeps_leaves (counts_of l) l _ (take_asked l d s from (take_done l d s from h)).0.within (take_keeps l d s from h)
call_keeps l (refresh d s) h = keeps_leaves (counts_of l) l _ (refresh_asked l d s (refresh_done l d s h)).0.within (refresh_settles l d s h).keeps
call_keeps l (move c d) h = move_leaves l c d h
call_keeps l (list c ks) h = keeps_leaves (counts_of l) l _ (list_asked l c ks (list_done l c ks h)).0.within (list_settles l c ks h).keeps

-- no call moves the counts
pub counts_stay : (l : List ℕ) (q : Call) → counts_of (book_after l (call q)) ≡ counts_of l
unfolding book_after after
counts_stay l q =
    pick_cases (λ (m : List ℕ). counts_of m ≡ counts_of l) (eqb (number_at l (call q)) 0) _ l
    (λ e. counts_same l (changed_by l (call q)) (call_keeps l q (eqb-true _ 0 e)).counts) λ e. refl

-- and a part that they name and that is fit stays fit
pub part_stays :
    (l : List ℕ) (q : Call) (p : Part) → Named (counts_of l) p → fit_part (counts_of l) l p ≡ true → fit_part (counts_of l) (book_after l (call q)) p ≡ true
unfolding book_after after
part_stays l q p k h =
    pick_cases (λ (m : List ℕ). fit_part (counts_of l) m p ≡ true) (eqb (number_at l (call q)) 0) _ l
    (λ e. (call_keeps l q (eqb-true _ 0 e)).part p k h) λ e. h

-- the same of any request: a setup that is done makes every part fit
pub no_spread : (l : List ℕ) (r : Request) (p : Part) → Fits l p → Fits (book_after l r) p
unfolding book_after after number_at changed_by
no_spread l (setup n homes) p F =
    pick_cases (λ (m : List ℕ). Fits m p) (eqb (number_at l (setup n homes)) 0) _ l
    (λ e. fit_parts (set_up n homes) (setup_fit l n homes (eqb-true _ 0 e)) p) λ e. F
no_spread l (call q) p F =
    subst (λ (n : Counts). Named n p → fit_part n (book_after l (call q)) p ≡ true) (sym (counts_stay l q)) λ k. part_stays l q p k (F k)

-- and of any history
pub never_spreads : (l : List ℕ) (rs : List Request) (p : Part) → Fits l p → Fits (last l rs) p
unfolding last
never_spreads l [] p F = F
never_spreads l (r ∷ rs) p F = never_spreads (book_after l r) rs p (no_spread l r p F)

-- ---- a request that is done leaves its own parts fit

-- a test of the length, the counts and the homes, and then of parts by the counts, passes on with the parts
passes :
    (l m : List ℕ) (parts : Counts → List ℕ → Bool) → Keeps (counts_of l) l m →
    (Within (counts_of l) → parts (counts_of l) l ≡ true → parts (counts_of l) m ≡ true) → base_fit l && parts (counts_of l) l ≡ true →
    base_fit m && parts (counts_of m) m ≡ true
passes l m parts K on h =
    let b = and_left (base_fit l) _ h in
    and_intro (base_kept l m K b)
    (subst (λ (n : Counts). parts n m ≡ true) (sym (counts_same l m (λ j k. K.low j (omega arith)))) (on (base_open l b).within (and_right (base_fit l) _ h)))

tick_own : (l : List ℕ) (d s : ℕ) → tick_number l d s ≡ 0 → tick_fit (tick_book l d s) d s ≡ true
unfolding tick_fit
tick_own l d s h =
    let K = tick_keeps l d s h in
    passes l _ (λ n v. leb n.depots d || (leb n.shelves s || tick_parts n v d s)) K
    (λ W. or_on (leb _ d) _ λ a. or_on (leb _ s) _ λ b. tick_kept (counts_of l) l _ W K d s (leb-false _ _ a) (leb-false _ _ b)) (tick_done l d s h).fits

take_own : (l : List ℕ) (d s from : ℕ) → take_number l d s from ≡ 0 → take_fit (take_book l d s from) d s from ≡ true
unfolding take_fit
take_own l d s from h =
    let K = take_keeps l d s from h in
    passes l _ (λ n v. leb n.depots d || (leb n.depots from || (leb n.shelves s || (eqb d from || take_parts n v d s from)))) K
    (λ W. or_on (leb _ d) _ λ a. or_on (leb _ from) _ λ c. or_on (leb _ s) _ λ b. or_on (eqb d from) _ λ e.
    take_kept (counts_of l) l _ W K d s from (leb-false _ _ a) (leb-false _ _ b) (leb-false _ _ c) (eqb-false _ _ e)) (take_done l d s from h).fits

refresh_own : (l : List ℕ) (d s : ℕ) → refresh_number l d s ≡ 0 → refresh_fit (refresh_book l d s) d s ≡ true
unfolding refresh_fit
refresh_own l d s h =
    let S = refresh_settles l d s h in
    passes l _ (λ n v. leb n.depots d || (leb n.shelves s || refresh_parts n v d s)) S.keeps
    (λ W. or_on (leb _ d) _ λ a. or_on (leb _ s) _ λ b. refresh_kept (counts_of l) l _ W d s (leb-false _ _ a) (leb-false _ _ b) S) (refresh_done l d s h).fits

read_own : (l : List ℕ) (c k : ℕ) → read_number l c k ≡ 0 → read_fit (read_book l c k) c k ≡ true
unfolding read_fit
read_own l c k h =
    let S = read_settles l c k h in
    let t = read_done l c k h in
    passes l _ (λ n v. leb n.crews c || (leb n.bearings k || read_parts n v c k)) S.keeps
    (λ W. or_on (leb _ c) _ λ a. or_on (leb _ k) _ λ b.
    read_kept (counts_of l) l _ W c k t.crew t.bearing ((read_asked l c k t).0.homes c t.crew) S) t.fits

write_own : (l : List ℕ) (c k : ℕ) (payload : Payload) → write_number l c k payload ≡ 0 → write_fit (write_book l c k payload) c k ≡ true
unfolding write_fit
write_own l c k payload h =
    let S = write_settles l c k payload h in
    let t = write_done l c k payload h in
    passes l _ (λ n v. leb n.crews c || (leb n.bearings k || write_parts n v c k)) S.keeps
    (λ W. or_on (leb _ c) _ λ a. or_on (leb _ k) _ λ b.
    write_kept (counts_of l) l _ W c k t.crew t.bearing ((write_asked l c k t).0.homes c t.crew) S) t.fits

list_own : (l : List ℕ) (c : ℕ) (ks : List ℕ) → list_number l c ks ≡ 0 → list_fit (list_book l c ks) c ks ≡ true
unfolding list_fit
list_own l c ks h =
    let S = list_settles l c ks h in
    let t = list_done l c ks h in
    passes l _ (λ n v. leb n.crews c || (not (is_list ks) || (not (all_below n.bearings ks) || list_parts n v c ks))) S.keeps
    (λ W. or_on (leb _ c) _ λ a. or_on (not (is_list ks)) _ λ b. or_on (not (all_below (counts_of l).bearings ks)) _ λ e.
    list_kept (counts_of l) l _ W c ks t.crew t.bearings ((list_asked l c ks t).0.homes c t.crew) S) t.fits

done_own : (l : List ℕ) (r : Request) → number_at l r ≡ 0 → fit_for (changed_by l r) r ≡ true
unfolding number_at changed_by fit_for
done_own l (setup n homes) h = eq-eqb _ _ (length_set_up n homes)
done_own l (call (read c k)) h = read_own l c k h
done_own l (call (write c k payload)) h = write_own l c k payload h
done_own l (call (tick d s)) h = tick_own l d s h
done_own l (call (take d s from)) h = take_own l d s from h
done_own l (call (refresh d s)) h = refresh_own l d s h
done_own l (call (move c d)) h = move_own l c d h
done_own l (call (list c ks)) h = list_own l c ks h

pub own_parts : (l : List ℕ) (r : Request) → number_at l r ≡ 0 → fit_for (book_after l r) r ≡ true
unfolding book_after after
own_parts l r h = subst (λ (m : List ℕ). fit_for m r ≡ true) (sym (pick_true _ l (eq-eqb _ 0 h))) (done_own l r h)
