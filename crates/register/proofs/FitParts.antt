-- A fit book as statements, part by part: taken apart from the test, and put together again.
-- Assumes nothing.
use Prim.Native.Nat.{ℕ, ◌-◌, ◌≤◌, ◌<◌}
use native.Mathlib.Nat.{zero-add}
use mathlib.Core.Path.{◌≡◌, refl, sym, subst}
use mathlib.Core.Logic.{⊎_elim}
use mathlib.Core.List.{List}
use mathlib.Core.Bool.{true, ◌&&◌}
use lib.Dec.{leb, eqb}
use lib.ListN.{length}
use borrow.Author.Tests.{leb-true, le-leb, ltb-true, lt-ltb, eqb-true, eq-eqb}
use Rattle.loops.specs.Loops.{every}
use Rattle.loops.proofs.BoolLaws.{and_left, and_right, and_intro, or_cases, or_left, or_right, eq_or_ne}
use Rattle.loops.proofs.LoopLaws.{every_at, every_intro}
use Rattle.order.proofs.VectorLaws.{covered_at_law, covered_intro}
use Rattle.book.specs.declared.parts.Counts.{Counts}
use Rattle.book.specs.Layout.{end, counts_of, home, crew_vector, clock, stable, seen, link_of, held, taken, slot, stored}
use Rattle.fit.specs.Fit.{counts_fit, home_fit, in_range, others_in_range, crew_fit, clock_fit, stable_fit, seen_fit, shelf_fit, copy_fit, message_fit, head_fit, messages_fit, link_fit, kept_fit, stored_fit, Within}
use Rattle.fit.specs.Fit.{homes_fit, crews_fit, shelves_fit, links_fit, stores_fit, parts_fit, fit}
use Rattle.fit.proofs.FitLaws.{fit_open, counts_within}
use Rattle.shelf.proofs.AllLaws.{AllOf, all_slots, all_slots_at}
use Rattle.shelf.proofs.ShowLaws.{taken_slots, untaken_slots}

pub record ShelfOk (n : Counts) (l : List ℕ) (d s : ℕ) : Type 0 where
  pub clocked : clock l d s ≤ end
  pub own : stable l d s d ≡ 0
  pub stables : (x : ℕ) → x < n.depots → (x ≡ d → ⊥) → stable l d s x ≤ end
  pub seens : (x : ℕ) → x < n.depots → (x ≡ d → ⊥) → seen l d s x ≤ end

abbrev pub IsCopy : Counts → ℕ → ℕ → List ℕ → Type 0
IsCopy n s from m = copy_fit n s from m ≡ true

abbrev pub IsMessage : Counts → ℕ → ℕ → List ℕ → Type 0
IsMessage n s from m = message_fit n s from m ≡ true

pub record LinkOk (n : Counts) (l : List ℕ) (s from q : ℕ) : Type 0 where
  pub room : held l q ≤ 16
  pub first : taken l q ≤ held l q
  pub copies : AllOf (IsCopy n s from) (taken_slots l q)
  pub messages : AllOf (IsMessage n s from) (untaken_slots l q)

-- every part but the counts
pub record Parts (n : Counts) (l : List ℕ) : Type 0 where
  pub homes : (c : ℕ) → c < n.crews → home l c < n.depots
  pub crews : (c : ℕ) → c < n.crews → (x : ℕ) → x < n.depots → crew_vector l c x ≤ end
  pub shelves : (d s : ℕ) → d < n.depots → s < n.shelves → ShelfOk n l d s
  pub links : (s from to : ℕ) → s < n.shelves → from < n.depots → to < n.depots → (from ≡ to → ⊥) → LinkOk n l s from (link_of s from to)
  pub stores : (d k : ℕ) → d < n.depots → k < n.bearings → kept_fit n k (stored l d k) ≡ true

-- ---- one part

shelf_open : (n : Counts) (l : List ℕ) (d s : ℕ) → shelf_fit n l d s ≡ true → ShelfOk n l d s
unfolding shelf_fit clock_fit stable_fit seen_fit others_in_range
shelf_open n l d s h =
    let h1 = and_right (clock_fit l d s) _ h in
    let h2 = and_left (stable_fit n l d s) _ h1 in
    record {
      clocked = leb-true _ _ (and_left (leb (clock l d s) end) _ h);
      own = eqb-true _ _ (and_left (eqb (stable l d s d) 0) _ h2);
      stables = covered_at_law n.depots d _ _ (and_right (eqb (stable l d s d) 0) _ h2);
      seens = covered_at_law n.depots d _ _ (and_right (stable_fit n l d s) _ h1);
    }

shelf_close : (n : Counts) (l : List ℕ) (d s : ℕ) → ShelfOk n l d s → shelf_fit n l d s ≡ true
unfolding shelf_fit clock_fit stable_fit seen_fit others_in_range
shelf_close n l d s h =
    and_intro (le-leb _ _ h.clocked)
    (and_intro (and_intro (eq-eqb _ _ h.own) (covered_intro n.depots d _ _ h.stables)) (covered_intro n.depots d _ _ h.seens))

pub link_open : (n : Counts) (l : List ℕ) (s from q : ℕ) → link_fit n l s from q ≡ true → LinkOk n l s from q
unfolding link_fit head_fit messages_fit taken_slots untaken_slots
link_open n l s from q h =
    let h1 = and_left (head_fit l q) _ h in
    let h2 = and_right (head_fit l q) _ h in
    record {
      room = leb-true _ _ (and_left (leb (held l q) 16) _ h1);
      first = leb-true _ _ (and_right (leb (held l q) 16) _ h1);
      copies = all_slots (IsCopy n s from) l q 0 (taken l q) (λ i k. subst (λ (j : ℕ). IsCopy n s from (slot l q j)) (sym (zero-add i)) (every_at (taken l q) _ (and_left _ _ h2) i k));
      messages = all_slots (IsMessage n s from) l q (taken l q) (held l q - taken l q) (every_at (held l q - taken l q) _ (and_right (every (taken l q) (λ i. copy_fit n s from (slot l q i))) _ h2));
    }

pub link_close : (n : Counts) (l : List ℕ) (s from q : ℕ) → LinkOk n l s from q → link_fit n l s from q ≡ true
unfolding link_fit head_fit messages_fit taken_slots untaken_slots
link_close n l s from q h =
    and_intro (and_intro (le-leb _ _ h.room) (le-leb _ _ h.first))
    (and_intro
    (every_intro (taken l q) _ (λ i k. subst (λ (j : ℕ). IsCopy n s from (slot l q j)) (zero-add i) (all_slots_at (IsCopy n s from) l q 0 (taken l q) h.copies i k)))
    (every_intro (held l q - taken l q) _ (all_slots_at (IsMessage n s from) l q (taken l q) (held l q - taken l q) h.messages)))

-- ---- all the parts

pub parts_open : (n : Counts) (l : List ℕ) → parts_fit n l ≡ true → Parts n l
unfolding parts_fit homes_fit crews_fit shelves_fit links_fit stores_fit home_fit crew_fit in_range stored_fit
parts_open n l h =
    let h1 = and_right (homes_fit n l) _ h in
    let h2 = and_right (crews_fit n l) _ h1 in
    let h3 = and_right (shelves_fit n l) _ h2 in
    record {
      homes = λ c k. ltb-true _ _ (every_at n.crews _ (and_left (homes_fit n l) _ h) c k);
      crews = λ c k x z. leb-true _ _ (every_at n.depots _ (every_at n.crews _ (and_left (crews_fit n l) _ h1) c k) x z);
      shelves = λ d s a b. shelf_open n l d s (every_at n.shelves _ (every_at n.depots _ (and_left (shelves_fit n l) _ h2) d a) s b);
      links = λ s from to a b c f. ⊎_elim (λ (e : eqb from to ≡ true). absurd (f (eqb-true _ _ e))) (λ (e : link_fit n l s from (link_of s from to) ≡ true). link_open n l s from _ e)
          (or_cases (eqb from to) _ (every_at n.depots _ (every_at n.depots _ (every_at n.shelves _ (and_left (links_fit n l) _ h3) s a) from b) to c));
      stores = λ d k a b. every_at n.bearings _ (every_at n.depots _ (and_right (links_fit n l) _ h3) d a) k b;
    }

pub parts_close : (n : Counts) (l : List ℕ) → Parts n l → parts_fit n l ≡ true
unfolding parts_fit homes_fit crews_fit shelves_fit links_fit stores_fit home_fit crew_fit in_range stored_fit
parts_close n l P =
    and_intro (every_intro n.crews _ (λ c k. lt-ltb _ _ (P.homes c k)))
    (and_intro (every_intro n.crews _ (λ c k. every_intro n.depots _ (λ x z. le-leb _ _ (P.crews c k x z))))
    (and_intro (every_intro n.depots _ (λ d a. every_intro n.shelves _ (λ s b. shelf_close n l d s (P.shelves d s a b))))
    (and_intro
    (every_intro n.shelves _ (λ s a. every_intro n.depots _ (λ from b. every_intro n.depots _ (λ to c.
    ⊎_elim
    (λ (e : from ≡ to). or_left (eqb from to) _ (eq-eqb from to e))
    (λ (e : from ≡ to → ⊥). or_right (eqb from to) _ (link_close n l s from _ (P.links s from to a b c e)))
    (eq_or_ne from to)))))
    (every_intro n.depots _ (λ d a. every_intro n.bearings _ (λ k b. P.stores d k a b))))))

-- a fit book, whole
pub record Whole (n : Counts) (l : List ℕ) : Type 0 where
  pub full : length l ≡ 16384
  pub same : counts_of l ≡ n
  pub counts : counts_fit n ≡ true
  pub within : Within n
  pub parts : Parts n l

pub whole_open : (l : List ℕ) → fit l ≡ true → Whole (counts_of l) l
whole_open l h =
    let f = fit_open l h in
    record { full = f.full; same = refl; counts = f.counts; within = counts_within (counts_of l) f.counts; parts = parts_open (counts_of l) l f.parts }

pub whole_close : (n : Counts) (l : List ℕ) → Whole n l → fit l ≡ true
unfolding fit
whole_close n l W =
    and_intro (eq-eqb (length l) 16384 W.full)
    (subst (λ (m : Counts). counts_fit m && parts_fit m l ≡ true) (sym W.same) (and_intro W.counts (parts_close n l W.parts)))
